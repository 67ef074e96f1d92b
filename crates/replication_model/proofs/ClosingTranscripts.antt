-- Worked scripts whose whole transcripts the checker computes: relevancy, closing and dormancy.
use Rattle.std.specs.Prelude.{◌≡◌, refl, List, [], ◌∷◌, ◌++◌, pos, negsuc, codes}
use Rattle.std.specs.Fmt.{digits as decimal_digits}
use Rattle.protocol_model.specs.Numbers.{leading_groups}
use Rattle.protocol_model.specs.Bits.{int_width, digits, packed_in, bytes_in}
use Rattle.protocol_model.specs.Value.{Scalar}
use Rattle.protocol_model.specs.declared.Version.TheVariants.{One, Two}
use Rattle.protocol_model.specs.Side.{AtServer, AtClient}
use Rattle.protocol_model.specs.World.{Spawn, Destroy, Set, Own, View, Dormant, Flush}
use Rattle.script_model.specs.Lines.{Line, Join, ApplyEdit, TickAll, TickClient, Deliver, CallTo, Dump, AskSettled}
use Rattle.replication_model.specs.Transcript.{transcript}
use Rattle.protocol_model.specs.BuiltIn.{built_in_table, pawn, flag, purse}
use Rattle.replication_model.proofs.Tables.{lamp_table}

relevancy-lines : List Line
relevancy-lines =
    Join 1 100000 One
    ∷ ApplyEdit (Spawn 0 (pos 600) (pos 800))
    ∷ ApplyEdit (Spawn 0 (pos 600) (pos 801))
    ∷ ApplyEdit (Spawn 0 (negsuc 599) (negsuc 799))
    ∷ ApplyEdit (Spawn 0 (pos 1000) (pos 0))
    ∷ ApplyEdit (Spawn 0 (pos 10000) (pos 10000))
    ∷ TickAll
    ∷ Deliver AtClient 1 1
    ∷ Dump 1
    ∷ ApplyEdit (View 1 (pos 10600) (pos 10800))
    ∷ TickAll
    ∷ TickAll
    ∷ TickAll
    ∷ TickAll
    ∷ Join 2 1 One
    ∷ TickAll
    ∷ []

relevancy : transcript built_in_table relevancy-lines ≡
    codes "joined 1\n"
    ++ codes "actor 1\n"
    ++ codes "actor 2\n"
    ++ codes "actor 3\n"
    ++ codes "actor 4\n"
    ++ codes "actor 5\n"
    ++ codes "sent 1 1 0180190024009d04020300e228acad4cc180800abb73235010c01200002000190000308040c"
    ++ codes "680030000000080290024009d04020300e228acad4cc180800abb7363501040edffff2700e7ffff37804"
    ++ codes "0c680030000000080390024009d04020300e228acad4cc180800abb73835010401f00002000000000308"
    ++ codes "040c680030000000040\n"
    ++ codes "down 1 1 taken\n"
    ++ codes "copies 1 3\n"
    ++ codes "copy 1 1 Pawn open x=600 y=800 role=0 hp=100 ammo=0 team=0 aim=0\n"
    ++ codes "copy 1 3 Pawn open x=-600 y=-800 role=0 hp=100 ammo=0 team=0 aim=0\n"
    ++ codes "copy 1 4 Pawn open x=1000 y=0 role=0 hp=100 ammo=0 team=0 aim=0\n"
    ++ codes "sent 1 2 0280490024009d04020300e228acad4cc180800abb73a35010803801002080380100308040c"
    ++ codes "680030000000040\n"
    ++ codes "joined 2\n"
    ++ codes "sent 1 3 03803200800002004a010002080028070008200010\n"
    ++ codes "sent 2 1 0180190024009d04020300e228acad4cc180800abb73235010c01200002000190000308040c"
    ++ codes "680030000000080290024009d04020300e228acad4cc180800abb7363501040edffff2700e7ffff37804"
    ++ codes "0c680030000000080390024009d04020300e228acad4cc180800abb73835010401f00002000000000308"
    ++ codes "040c680030000000040\n"
unfolding relevancy-lines pawn flag purse lamp_table decimal_digits digits packed_in bytes_in int_width leading_groups
relevancy = refl

call_under_way-lines : List Line
call_under_way-lines =
    Join 1 8000 One
    ∷ ApplyEdit (Spawn 0 (pos 0) (pos 0))
    ∷ ApplyEdit (Own 2 1)
    ∷ TickAll
    ∷ Deliver AtClient 1 1
    ∷ TickClient 1
    ∷ Deliver AtServer 1 1
    ∷ AskSettled 1 2
    ∷ CallTo AtServer 1 2 2 (Scalar (pos 7) ∷ [])
    ∷ AskSettled 1 2
    ∷ TickAll
    ∷ Deliver AtClient 1 2
    ∷ AskSettled 1 2
    ∷ TickClient 1
    ∷ Deliver AtServer 1 2
    ∷ AskSettled 1 2
    ∷ []

call_under_way : transcript built_in_table call_under_way-lines ≡
    codes "joined 1\n"
    ++ codes "actor 1\n"
    ++ codes "sent 1 1 0180190024009d04020300e228acad4cc180800abb73235010000000002000000000308840a"
    ++ codes "600000000c00040\n"
    ++ codes "down 1 1 taken\n"
    ++ codes "csent 1 1 01c00020\n"
    ++ codes "up 1 1 taken\n"
    ++ codes "settled 1 1 yes\n"
    ++ codes "call 1 queued\n"
    ++ codes "settled 1 1 no\n"
    ++ codes "sent 1 2 02c00000030008a00c9080e020\n"
    ++ codes "chanded 1 1 hurt run 7\n"
    ++ codes "down 1 2 taken\n"
    ++ codes "settled 1 1 no\n"
    ++ codes "csent 1 2 02400120\n"
    ++ codes "up 1 2 taken\n"
    ++ codes "settled 1 1 yes\n"
unfolding call_under_way-lines pawn flag purse lamp_table decimal_digits digits packed_in bytes_in int_width leading_groups
call_under_way = refl

lost_value-lines : List Line
lost_value-lines =
    Join 1 8000 One
    ∷ ApplyEdit (Spawn 0 (pos 0) (pos 0))
    ∷ TickAll
    ∷ Deliver AtClient 1 1
    ∷ TickClient 1
    ∷ Deliver AtServer 1 1
    ∷ ApplyEdit (Set 2 4 (pos 1))
    ∷ TickAll
    ∷ ApplyEdit (Set 2 1 (pos 5))
    ∷ TickAll
    ∷ Deliver AtClient 1 3
    ∷ TickClient 1
    ∷ Deliver AtServer 1 2
    ∷ AskSettled 1 2
    ∷ TickAll
    ∷ Deliver AtClient 1 4
    ∷ TickClient 1
    ∷ Deliver AtServer 1 3
    ∷ AskSettled 1 2
    ∷ Dump 1
    ∷ []

lost_value : transcript built_in_table lost_value-lines ≡
    codes "joined 1\n"
    ++ codes "actor 1\n"
    ++ codes "sent 1 1 0180190024009d04020300e228acad4cc180800abb73235010000000002000000000308040c"
    ++ codes "680030000000040\n"
    ++ codes "down 1 1 taken\n"
    ++ codes "csent 1 1 01c00020\n"
    ++ codes "up 1 1 taken\n"
    ++ codes "sent 1 2 02c000000200640008010001\n"
    ++ codes "sent 1 3 030004008801040a0000000002\n"
    ++ codes "down 1 3 taken\n"
    ++ codes "csent 1 2 02c00120\n"
    ++ codes "up 1 2 taken\n"
    ++ codes "settled 1 1 no\n"
    ++ codes "sent 1 4 044001000200640008010001\n"
    ++ codes "down 1 4 taken\n"
    ++ codes "csent 1 3 03400220\n"
    ++ codes "up 1 3 taken\n"
    ++ codes "settled 1 1 yes\n"
    ++ codes "copies 1 1\n"
    ++ codes "copy 1 1 Pawn open x=5 y=0 role=0 hp=1 ammo=0 team=0 aim=0\n"
unfolding lost_value-lines pawn flag purse lamp_table decimal_digits digits packed_in bytes_in int_width leading_groups
lost_value = refl

dormancy-lines : List Line
dormancy-lines =
    Join 1 8000 One
    ∷ ApplyEdit (Spawn 0 (pos 0) (pos 0))
    ∷ TickAll
    ∷ Deliver AtClient 1 1
    ∷ TickClient 1
    ∷ Deliver AtServer 1 1
    ∷ ApplyEdit (Dormant 2)
    ∷ TickAll
    ∷ ApplyEdit (Set 2 4 (pos 5))
    ∷ TickAll
    ∷ Deliver AtClient 1 2
    ∷ TickClient 1
    ∷ Deliver AtServer 1 2
    ∷ ApplyEdit (Set 2 4 (pos 6))
    ∷ TickAll
    ∷ Dump 1
    ∷ ApplyEdit (Flush 2)
    ∷ TickAll
    ∷ Deliver AtClient 1 4
    ∷ Dump 1
    ∷ TickClient 1
    ∷ Deliver AtServer 1 3
    ∷ TickAll
    ∷ Deliver AtClient 1 5
    ∷ TickClient 1
    ∷ Deliver AtServer 1 4
    ∷ ApplyEdit (Destroy 2)
    ∷ TickAll
    ∷ Deliver AtClient 1 6
    ∷ Dump 1
    ∷ []

dormancy : transcript built_in_table dormancy-lines ≡
    codes "joined 1\n"
    ++ codes "actor 1\n"
    ++ codes "sent 1 1 0180190024009d04020300e228acad4cc180800abb73235010000000002000000000308040c"
    ++ codes "680030000000040\n"
    ++ codes "down 1 1 taken\n"
    ++ codes "csent 1 1 01c00020\n"
    ++ codes "up 1 1 taken\n"
    ++ codes "sent 1 2 02c000401b0040000180\n"
    ++ codes "down 1 2 taken\n"
    ++ codes "csent 1 2 02400120\n"
    ++ codes "up 1 2 taken\n"
    ++ codes "sent 1 3 03400120\n"
    ++ codes "copies 1 1\n"
    ++ codes "copy 1 1 Pawn asleep x=0 y=0 role=0 hp=100 ammo=0 team=0 aim=0\n"
    ++ codes "sent 1 4 048019006000cd020205010000000002000000000308060c38000000000004\n"
    ++ codes "down 1 4 taken\n"
    ++ codes "copies 1 1\n"
    ++ codes "copy 1 1 Pawn open x=0 y=0 role=0 hp=6 ammo=0 team=0 aim=0\n"
    ++ codes "csent 1 3 03400220\n"
    ++ codes "up 1 3 taken\n"
    ++ codes "sent 1 5 05c001401b0080000180\n"
    ++ codes "down 1 5 taken\n"
    ++ codes "csent 1 4 04c00220\n"
    ++ codes "up 1 4 taken\n"
    ++ codes "sent 1 6 064002000100041008204010\n"
    ++ codes "down 1 6 taken\n"
    ++ codes "copies 1 0\n"
unfolding dormancy-lines pawn flag purse lamp_table decimal_digits digits packed_in bytes_in int_width leading_groups
dormancy = refl

dormancy_in_version_two-lines : List Line
dormancy_in_version_two-lines =
    Join 1 8000 Two
    ∷ ApplyEdit (Spawn 0 (pos 0) (pos 0))
    ∷ TickAll
    ∷ Deliver AtClient 1 1
    ∷ TickClient 1
    ∷ Deliver AtServer 1 1
    ∷ ApplyEdit (Dormant 2)
    ∷ TickAll
    ∷ ApplyEdit (Set 2 4 (pos 5))
    ∷ TickAll
    ∷ Deliver AtClient 1 2
    ∷ TickClient 1
    ∷ Deliver AtServer 1 2
    ∷ ApplyEdit (Set 2 4 (pos 6))
    ∷ TickAll
    ∷ Dump 1
    ∷ ApplyEdit (Flush 2)
    ∷ TickAll
    ∷ Deliver AtClient 1 4
    ∷ Dump 1
    ∷ TickClient 1
    ∷ Deliver AtServer 1 3
    ∷ TickAll
    ∷ Deliver AtClient 1 5
    ∷ TickClient 1
    ∷ Deliver AtServer 1 4
    ∷ ApplyEdit (Destroy 2)
    ∷ TickAll
    ∷ Deliver AtClient 1 6
    ∷ Dump 1
    ∷ []

dormancy_in_version_two : transcript built_in_table dormancy_in_version_two-lines ≡
    codes "joined 1\n"
    ++ codes "actor 1\n"
    ++ codes "sent 1 1 01000000000000802990007412080c0088a3b0b6320503022aecce8d4041000000008000000"
    ++ codes "000c0000219030e000000000001\n"
    ++ codes "down 1 1 taken\n"
    ++ codes "csent 1 1 0140008000000080\n"
    ++ codes "up 1 1 taken\n"
    ++ codes "sent 1 2 0240008000000080560002080004\n"
    ++ codes "down 1 2 taken\n"
    ++ codes "csent 1 2 0280008001000080\n"
    ++ codes "up 1 2 taken\n"
    ++ codes "sent 1 3 0380008001000080\n"
    ++ codes "copies 1 1\n"
    ++ codes "copy 1 1 Pawn asleep x=0 y=0 role=0 hp=100 ammo=0 team=0 aim=0\n"
    ++ codes "sent 1 4 0480008001000080298001340b0814040000000008000000000c201830e0000000000010\n"
    ++ codes "down 1 4 taken\n"
    ++ codes "copies 1 1\n"
    ++ codes "copy 1 1 Pawn open x=0 y=0 role=0 hp=6 ammo=0 team=0 aim=0\n"
    ++ codes "csent 1 3 0300018006000080\n"
    ++ codes "up 1 3 taken\n"
    ++ codes "sent 1 5 05c0008003000080560004080004\n"
    ++ codes "down 1 5 taken\n"
    ++ codes "csent 1 4 044001800d000080\n"
    ++ codes "up 1 4 taken\n"
    ++ codes "sent 1 6 060001800700000002208040000182\n"
    ++ codes "down 1 6 taken\n"
    ++ codes "copies 1 0\n"
unfolding dormancy_in_version_two-lines pawn flag purse lamp_table decimal_digits digits packed_in bytes_in int_width leading_groups
dormancy_in_version_two = refl

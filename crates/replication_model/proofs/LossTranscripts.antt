-- Worked scripts whose whole transcripts the checker computes: lost packets and a change of owner.
use Rattle.std.specs.Prelude.{◌≡◌, refl, List, [], ◌∷◌, ◌++◌, pos, codes}
use Rattle.std.specs.Fmt.{digits as decimal_digits}
use Rattle.protocol_model.specs.Numbers.{leading_groups}
use Rattle.protocol_model.specs.Bits.{int_width, digits, packed_in, bytes_in}
use Rattle.protocol_model.specs.declared.Version.TheVariants.{One, Two}
use Rattle.protocol_model.specs.Side.{AtServer, AtClient}
use Rattle.protocol_model.specs.World.{Spawn, Set, Own}
use Rattle.script_model.specs.Lines.{Line, Join, ApplyEdit, TickAll, TickClient, Deliver, Dump}
use Rattle.replication_model.specs.Transcript.{transcript}
use Rattle.protocol_model.specs.BuiltIn.{built_in_table, pawn, flag, purse}
use Rattle.replication_model.proofs.Tables.{lamp_table}
use Rattle.replication_model.proofs.Shorthand.{again}

lost_open-lines : List Line
lost_open-lines =
    Join 1 8000 One
    ∷ ApplyEdit (Spawn 0 (pos 0) (pos 0))
    ∷ TickAll
    ∷ ApplyEdit (Set 2 4 (pos 1))
    ∷ ApplyEdit (Set 2 4 (pos 2))
    ∷ ApplyEdit (Set 2 4 (pos 3))
    ∷ ApplyEdit (Set 2 4 (pos 10))
    ∷ again 8 (TickAll ∷ [])
    ++ Deliver AtClient 1 2
    ∷ TickClient 1
    ∷ Deliver AtServer 1 1
    ∷ TickAll
    ∷ Deliver AtClient 1 3
    ∷ TickClient 1
    ∷ Deliver AtServer 1 2
    ∷ TickAll
    ∷ Deliver AtClient 1 4
    ∷ Dump 1
    ∷ []

lost_open : transcript built_in_table lost_open-lines ≡
    codes "joined 1\n"
    ++ codes "actor 1\n"
    ++ codes "sent 1 1 0180190024009d04020300e228acad4cc180800abb73235010000000002000000000308040c"
    ++ codes "680030000000040\n"
    ++ codes "sent 1 2 0240\n"
    ++ codes "down 1 2 taken\n"
    ++ codes "csent 1 1 01400120\n"
    ++ codes "up 1 1 taken\n"
    ++ codes "sent 1 3 03c000c00c0012804e028101007114d656a660404085ddb9112808000000001000000000184"
    ++ codes "02063c0010000000020\n"
    ++ codes "down 1 3 taken\n"
    ++ codes "csent 1 2 02c00120\n"
    ++ codes "up 1 2 taken\n"
    ++ codes "sent 1 4 0440010002006400080a0001\n"
    ++ codes "down 1 4 taken\n"
    ++ codes "copies 1 1\n"
    ++ codes "copy 1 1 Pawn open x=0 y=0 role=0 hp=10 ammo=0 team=0 aim=0\n"
unfolding lost_open-lines pawn flag purse lamp_table decimal_digits digits packed_in bytes_in int_width leading_groups again
lost_open = refl

lost_open_in_version_two-lines : List Line
lost_open_in_version_two-lines =
    Join 1 8000 Two
    ∷ ApplyEdit (Spawn 0 (pos 0) (pos 0))
    ∷ TickAll
    ∷ ApplyEdit (Set 2 4 (pos 1))
    ∷ ApplyEdit (Set 2 4 (pos 2))
    ∷ ApplyEdit (Set 2 4 (pos 3))
    ∷ ApplyEdit (Set 2 4 (pos 10))
    ∷ again 8 (TickAll ∷ [])
    ++ Deliver AtClient 1 2
    ∷ TickClient 1
    ∷ Deliver AtServer 1 1
    ∷ TickAll
    ∷ Deliver AtClient 1 3
    ∷ TickClient 1
    ∷ Deliver AtServer 1 2
    ∷ TickAll
    ∷ Deliver AtClient 1 4
    ∷ Dump 1
    ∷ []

lost_open_in_version_two : transcript built_in_table lost_open_in_version_two-lines ≡
    codes "joined 1\n"
    ++ codes "actor 1\n"
    ++ codes "sent 1 1 01000000000000802990007412080c0088a3b0b6320503022aecce8d4041000000008000000"
    ++ codes "000c0000219030e000000000001\n"
    ++ codes "sent 1 2 0200000000000080\n"
    ++ codes "down 1 2 taken\n"
    ++ codes "csent 1 1 0180008000000080\n"
    ++ codes "up 1 1 taken\n"
    ++ codes "sent 1 3 03400080000000802990007412080c0088a3b0b6320503022aecce8d4041000000008000000"
    ++ codes "000c0000219030e000000000001\n"
    ++ codes "down 1 3 taken\n"
    ++ codes "csent 1 2 02c0008001000080\n"
    ++ codes "up 1 2 taken\n"
    ++ codes "sent 1 4 048000800100000008200340500008\n"
    ++ codes "down 1 4 taken\n"
    ++ codes "copies 1 1\n"
    ++ codes "copy 1 1 Pawn open x=0 y=0 role=0 hp=10 ammo=0 team=0 aim=0\n"
unfolding lost_open_in_version_two-lines pawn flag purse lamp_table decimal_digits digits packed_in bytes_in int_width leading_groups again
lost_open_in_version_two = refl

owner_changes-lines : List Line
owner_changes-lines =
    Join 1 8000 One
    ∷ Join 2 8000 One
    ∷ ApplyEdit (Spawn 0 (pos 0) (pos 0))
    ∷ ApplyEdit (Own 2 1)
    ∷ TickAll
    ∷ Deliver AtClient 1 1
    ∷ TickClient 1
    ∷ Deliver AtServer 1 1
    ∷ Deliver AtClient 2 1
    ∷ TickClient 2
    ∷ Deliver AtServer 2 1
    ∷ ApplyEdit (Set 2 5 (pos 9))
    ∷ TickAll
    ∷ ApplyEdit (Own 2 2)
    ∷ TickAll
    ∷ Deliver AtClient 1 3
    ∷ Deliver AtClient 2 3
    ∷ Dump 1
    ∷ Dump 2
    ∷ []

owner_changes : transcript built_in_table owner_changes-lines ≡
    codes "joined 1\n"
    ++ codes "joined 2\n"
    ++ codes "actor 1\n"
    ++ codes "sent 1 1 0180190024009d04020300e228acad4cc180800abb73235010000000002000000000308840a"
    ++ codes "600000000c00040\n"
    ++ codes "sent 2 1 0180190024009d04020300e228acad4cc180800abb73235010000000002000000000308040c"
    ++ codes "680030000000040\n"
    ++ codes "down 1 1 taken\n"
    ++ codes "csent 1 1 01c00020\n"
    ++ codes "up 1 1 taken\n"
    ++ codes "down 2 1 taken\n"
    ++ codes "csent 2 1 01c00020\n"
    ++ codes "up 2 1 taken\n"
    ++ codes "sent 1 2 02c000000200c4000a090000000001\n"
    ++ codes "sent 2 2 02c00020\n"
    ++ codes "sent 1 3 03000400d0010c38000000000004\n"
    ++ codes "sent 2 3 03000400d0010c2a240000000004\n"
    ++ codes "down 1 3 taken\n"
    ++ codes "down 2 3 taken\n"
    ++ codes "copies 1 1\n"
    ++ codes "copy 1 1 Pawn open x=0 y=0 role=0 hp=100 ammo=0 team=0 aim=0\n"
    ++ codes "copies 2 1\n"
    ++ codes "copy 2 1 Pawn open x=0 y=0 role=1 hp=100 ammo=9 team=0 aim=0\n"
unfolding owner_changes-lines pawn flag purse lamp_table decimal_digits digits packed_in bytes_in int_width leading_groups again
owner_changes = refl

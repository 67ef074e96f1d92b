-- Worked scripts whose whole transcripts the checker computes: first steps, values and old packets.
use Rattle.std.specs.Prelude.{◌≡◌, refl, List, [], ◌∷◌, ◌++◌, pos, negsuc, codes}
use Rattle.std.specs.Fmt.{digits as decimal_digits}
use Rattle.protocol_model.specs.Numbers.{leading_groups}
use Rattle.protocol_model.specs.Bits.{int_width, digits, packed_in, bytes_in}
use Rattle.protocol_model.specs.declared.Version.TheVariants.{One, Two}
use Rattle.protocol_model.specs.Side.{AtServer, AtClient}
use Rattle.protocol_model.specs.World.{Spawn, Set}
use Rattle.script_model.specs.Lines.{Line, Join, ApplyEdit, TickAll, TickClient, Deliver, Dump, AskSettled}
use Rattle.replication_model.specs.Transcript.{transcript}
use Rattle.protocol_model.specs.BuiltIn.{built_in_table, pawn, flag, purse}
use Rattle.replication_model.proofs.Tables.{lamp_table}

first_open-lines : List Line
first_open-lines =
    Join 1 8000 One
    ∷ ApplyEdit (Spawn 0 (pos 10) (negsuc 2))
    ∷ ApplyEdit (Set 2 4 (pos 75))
    ∷ TickAll
    ∷ Deliver AtClient 1 1
    ∷ Dump 1
    ∷ []

first_open : transcript built_in_table first_open-lines ≡
    codes "joined 1\n"
    ++ codes "actor 1\n"
    ++ codes "sent 1 1 0180190024009d04020300e228acad4cc180800abb732350105000000020e8ffffff3780b0c"
    ++ codes "480030000000040\n"
    ++ codes "down 1 1 taken\n"
    ++ codes "copies 1 1\n"
    ++ codes "copy 1 1 Pawn open x=10 y=-3 role=0 hp=75 ammo=0 team=0 aim=0\n"
unfolding first_open-lines pawn flag purse lamp_table decimal_digits digits packed_in bytes_in int_width leading_groups
first_open = refl

value_comes_back-lines : List Line
value_comes_back-lines =
    Join 1 8000 One
    ∷ ApplyEdit (Spawn 0 (pos 0) (pos 0))
    ∷ TickAll
    ∷ Deliver AtClient 1 1
    ∷ TickClient 1
    ∷ Deliver AtServer 1 1
    ∷ ApplyEdit (Set 2 4 (pos 1))
    ∷ TickAll
    ∷ Deliver AtClient 1 2
    ∷ TickClient 1
    ∷ Deliver AtServer 1 2
    ∷ ApplyEdit (Set 2 4 (pos 2))
    ∷ TickAll
    ∷ Deliver AtClient 1 3
    ∷ TickClient 1
    ∷ ApplyEdit (Set 2 1 (pos 5))
    ∷ TickAll
    ∷ Deliver AtClient 1 4
    ∷ TickClient 1
    ∷ Deliver AtServer 1 4
    ∷ ApplyEdit (Set 2 4 (pos 1))
    ∷ TickAll
    ∷ Deliver AtClient 1 5
    ∷ AskSettled 1 2
    ∷ TickClient 1
    ∷ Deliver AtServer 1 5
    ∷ AskSettled 1 2
    ∷ Dump 1
    ∷ []

value_comes_back : transcript built_in_table value_comes_back-lines ≡
    codes "joined 1\n"
    ++ codes "actor 1\n"
    ++ codes "sent 1 1 0180190024009d04020300e228acad4cc180800abb73235010000000002000000000308040c"
    ++ codes "680030000000040\n"
    ++ codes "down 1 1 taken\n"
    ++ codes "csent 1 1 01c00020\n"
    ++ codes "up 1 1 taken\n"
    ++ codes "sent 1 2 02c000000200640008010001\n"
    ++ codes "down 1 2 taken\n"
    ++ codes "csent 1 2 02400120\n"
    ++ codes "up 1 2 taken\n"
    ++ codes "sent 1 3 034001000200640008020001\n"
    ++ codes "down 1 3 taken\n"
    ++ codes "csent 1 3 03c00120\n"
    ++ codes "sent 1 4 040004008801040a0000000002\n"
    ++ codes "down 1 4 taken\n"
    ++ codes "csent 1 4 04400220\n"
    ++ codes "up 1 4 taken\n"
    ++ codes "sent 1 5 054002000200640008010001\n"
    ++ codes "down 1 5 taken\n"
    ++ codes "settled 1 1 no\n"
    ++ codes "csent 1 5 05c00220\n"
    ++ codes "up 1 5 taken\n"
    ++ codes "settled 1 1 yes\n"
    ++ codes "copies 1 1\n"
    ++ codes "copy 1 1 Pawn open x=5 y=0 role=0 hp=1 ammo=0 team=0 aim=0\n"
unfolding value_comes_back-lines pawn flag purse lamp_table decimal_digits digits packed_in bytes_in int_width leading_groups
value_comes_back = refl

value_comes_back_in_version_two-lines : List Line
value_comes_back_in_version_two-lines =
    Join 1 8000 Two
    ∷ ApplyEdit (Spawn 0 (pos 0) (pos 0))
    ∷ TickAll
    ∷ Deliver AtClient 1 1
    ∷ TickClient 1
    ∷ Deliver AtServer 1 1
    ∷ ApplyEdit (Set 2 4 (pos 1))
    ∷ TickAll
    ∷ Deliver AtClient 1 2
    ∷ TickClient 1
    ∷ Deliver AtServer 1 2
    ∷ ApplyEdit (Set 2 4 (pos 2))
    ∷ TickAll
    ∷ Deliver AtClient 1 3
    ∷ TickClient 1
    ∷ ApplyEdit (Set 2 1 (pos 5))
    ∷ TickAll
    ∷ Deliver AtClient 1 4
    ∷ TickClient 1
    ∷ Deliver AtServer 1 4
    ∷ ApplyEdit (Set 2 4 (pos 1))
    ∷ TickAll
    ∷ Deliver AtClient 1 5
    ∷ AskSettled 1 2
    ∷ TickClient 1
    ∷ Deliver AtServer 1 5
    ∷ AskSettled 1 2
    ∷ Dump 1
    ∷ []

value_comes_back_in_version_two : transcript built_in_table value_comes_back_in_version_two-lines ≡
    codes "joined 1\n"
    ++ codes "actor 1\n"
    ++ codes "sent 1 1 01000000000000802990007412080c0088a3b0b6320503022aecce8d4041000000008000000"
    ++ codes "000c0000219030e000000000001\n"
    ++ codes "down 1 1 taken\n"
    ++ codes "csent 1 1 0140008000000080\n"
    ++ codes "up 1 1 taken\n"
    ++ codes "sent 1 2 024000800000000008200340080008\n"
    ++ codes "down 1 2 taken\n"
    ++ codes "csent 1 2 0280008001000080\n"
    ++ codes "up 1 2 taken\n"
    ++ codes "sent 1 3 038000800100000008200340100008\n"
    ++ codes "down 1 3 taken\n"
    ++ codes "csent 1 3 03c0008003000080\n"
    ++ codes "sent 1 4 048000800100000008200610280000000008\n"
    ++ codes "down 1 4 taken\n"
    ++ codes "csent 1 4 0400018007000080\n"
    ++ codes "up 1 4 taken\n"
    ++ codes "sent 1 5 050001800600000008200340080008\n"
    ++ codes "down 1 5 taken\n"
    ++ codes "settled 1 1 no\n"
    ++ codes "csent 1 5 054001800f000080\n"
    ++ codes "up 1 5 taken\n"
    ++ codes "settled 1 1 yes\n"
    ++ codes "copies 1 1\n"
    ++ codes "copy 1 1 Pawn open x=5 y=0 role=0 hp=1 ammo=0 team=0 aim=0\n"
unfolding value_comes_back_in_version_two-lines pawn flag purse lamp_table decimal_digits digits packed_in bytes_in int_width leading_groups
value_comes_back_in_version_two = refl

older_packets-lines : List Line
older_packets-lines =
    Join 1 8000 One
    ∷ ApplyEdit (Spawn 0 (pos 0) (pos 0))
    ∷ TickAll
    ∷ ApplyEdit (Spawn 0 (pos 0) (pos 0))
    ∷ TickAll
    ∷ ApplyEdit (Spawn 0 (pos 0) (pos 0))
    ∷ TickAll
    ∷ Deliver AtClient 1 3
    ∷ Deliver AtClient 1 2
    ∷ Deliver AtClient 1 3
    ∷ Dump 1
    ∷ []

older_packets : transcript built_in_table older_packets-lines ≡
    codes "joined 1\n"
    ++ codes "actor 1\n"
    ++ codes "sent 1 1 0180190024009d04020300e228acad4cc180800abb73235010000000002000000000308040c"
    ++ codes "680030000000040\n"
    ++ codes "actor 2\n"
    ++ codes "sent 1 2 0280290024009d04020300e228acad4cc180800abb73435010000000002000000000308040c"
    ++ codes "680030000000040\n"
    ++ codes "actor 3\n"
    ++ codes "sent 1 3 0380390024009d04020300e228acad4cc180800abb73635010000000002000000000308040c"
    ++ codes "680030000000040\n"
    ++ codes "down 1 3 taken\n"
    ++ codes "down 1 2 old\n"
    ++ codes "down 1 3 old\n"
    ++ codes "copies 1 1\n"
    ++ codes "copy 1 3 Pawn open x=0 y=0 role=0 hp=100 ammo=0 team=0 aim=0\n"
unfolding older_packets-lines pawn flag purse lamp_table decimal_digits digits packed_in bytes_in int_width leading_groups
older_packets = refl

-- Worked scripts whose whole transcripts the checker computes: both versions of the packet, teams and a switch.
use Rattle.std.specs.Prelude.{◌≡◌, refl, List, [], ◌∷◌, ◌++◌, true, false, pos, codes}
use Rattle.std.specs.Fmt.{digits as decimal_digits}
use Rattle.protocol_model.specs.Numbers.{leading_groups}
use Rattle.protocol_model.specs.Bits.{int_width, digits, packed_in, bytes_in}
use Rattle.protocol_model.specs.declared.Version.TheVariants.{One, Two}
use Rattle.protocol_model.specs.Side.{AtServer, AtClient}
use Rattle.protocol_model.specs.World.{Spawn, Set, Switch, Team, Give}
use Rattle.script_model.specs.Lines.{Line, Join, ApplyEdit, TickAll, TickClient, Deliver, Dump, AskSettled}
use Rattle.replication_model.specs.Transcript.{transcript}
use Rattle.protocol_model.specs.BuiltIn.{built_in_table, pawn, flag, purse}
use Rattle.replication_model.proofs.Tables.{lamp_table}

both_versions-lines : List Line
both_versions-lines =
    Join 1 8000 Two
    ∷ ApplyEdit (Spawn 0 (pos 0) (pos 0))
    ∷ TickAll
    ∷ Deliver AtClient 1 1
    ∷ TickClient 1
    ∷ Deliver AtServer 1 1
    ∷ AskSettled 1 2
    ∷ []

both_versions : transcript built_in_table both_versions-lines ≡
    codes "joined 1\n"
    ++ codes "actor 1\n"
    ++ codes "sent 1 1 01000000000000802990007412080c0088a3b0b6320503022aecce8d4041000000008000000"
    ++ codes "000c0000219030e000000000001\n"
    ++ codes "down 1 1 taken\n"
    ++ codes "csent 1 1 0140008000000080\n"
    ++ codes "up 1 1 taken\n"
    ++ codes "settled 1 1 yes\n"
unfolding both_versions-lines pawn flag purse lamp_table decimal_digits digits packed_in bytes_in int_width leading_groups
both_versions = refl

teams-lines : List Line
teams-lines =
    Join 1 8000 One
    ∷ Join 2 8000 One
    ∷ ApplyEdit (Spawn 0 (pos 5000) (pos 0))
    ∷ ApplyEdit (Give 2 3)
    ∷ ApplyEdit (Team 1 3)
    ∷ TickAll
    ∷ ApplyEdit (Team 1 0)
    ∷ TickAll
    ∷ TickAll
    ∷ TickAll
    ∷ TickAll
    ∷ TickAll
    ∷ []

teams : transcript built_in_table teams-lines ≡
    codes "joined 1\n"
    ++ codes "joined 2\n"
    ++ codes "actor 1\n"
    ++ codes "sent 1 1 0180190024009d04020300e228acad4cc180800abb73235010409c00002000000000308040c"
    ++ codes "680030000000040\n"
    ++ codes "sent 1 2 028032008000020001\n"
unfolding teams-lines pawn flag purse lamp_table decimal_digits digits packed_in bytes_in int_width leading_groups
teams = refl

lamp-lines : List Line
lamp-lines =
    Join 1 8000 One
    ∷ ApplyEdit (Spawn 0 (pos 0) (pos 0))
    ∷ ApplyEdit (Switch 2 4 false)
    ∷ TickAll
    ∷ Deliver AtClient 1 1
    ∷ TickClient 1
    ∷ Deliver AtServer 1 1
    ∷ ApplyEdit (Set 2 4 (pos 9))
    ∷ TickAll
    ∷ Dump 1
    ∷ ApplyEdit (Switch 2 4 true)
    ∷ TickAll
    ∷ Deliver AtClient 1 3
    ∷ Dump 1
    ∷ ApplyEdit (Switch 2 4 false)
    ∷ ApplyEdit (Set 2 4 (pos 1))
    ∷ TickClient 1
    ∷ Deliver AtServer 1 2
    ∷ AskSettled 1 2
    ∷ Dump 1
    ∷ []

lamp : transcript lamp_table lamp-lines ≡
    codes "joined 1\n"
    ++ codes "actor 1\n"
    ++ codes "sent 1 1 018019002400bd020103008229ac0d8ec040000000008000000000c00040\n"
    ++ codes "down 1 1 taken\n"
    ++ codes "csent 1 1 01c00020\n"
    ++ codes "up 1 1 taken\n"
    ++ codes "sent 1 2 02c00020\n"
    ++ codes "copies 1 1\n"
    ++ codes "copy 1 1 Lamp open x=0 y=0 role=0 glow=7\n"
    ++ codes "sent 1 3 03000400c80010120002\n"
    ++ codes "down 1 3 taken\n"
    ++ codes "copies 1 1\n"
    ++ codes "copy 1 1 Lamp open x=0 y=0 role=0 glow=9\n"
    ++ codes "csent 1 2 02c00120\n"
    ++ codes "up 1 2 taken\n"
    ++ codes "settled 1 1 yes\n"
    ++ codes "copies 1 1\n"
    ++ codes "copy 1 1 Lamp open x=0 y=0 role=0 glow=9\n"
unfolding lamp-lines pawn flag purse lamp_table decimal_digits digits packed_in bytes_in int_width leading_groups
lamp = refl

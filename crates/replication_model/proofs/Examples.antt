-- Worked cases of single definitions that the checker computes: a stall that is told once, and values sampled once.
use Rattle.std.specs.Prelude.{◌≡◌, refl, [], ◌∷◌, pos}
use Rattle.protocol_model.specs.BuiltIn.{built_in_table, pawn, flag, purse}
use Rattle.protocol_model.specs.Side.{AtServer}
use Rattle.protocol_model.specs.World.{Edits, Spawn, Own}
use Rattle.connection_model.specs.Feed.{Past, Ticked, Sent, Ended, ByStall}
use Rattle.script_model.specs.Reports.{Stalled}
use Rattle.replication_model.specs.Story.{stalled_report}
use Rattle.replication_model.specs.Sampled.{cell_count}

-- an end with a packet of which nothing is known, and the same end stalled
alive : Past
alive = Sent 4095 1 [] ∷ Ticked 1 [] ∷ []

stalled : Past
stalled = Ended ByStall ∷ Sent 4096 2 [] ∷ Ticked 2 [] ∷ alive

stall_told : stalled_report AtServer 7 alive stalled ≡ Stalled AtServer 7 ∷ []
unfolding alive stalled
stall_told = refl

not_told_again : stalled_report AtServer 7 stalled stalled ≡ []
unfolding alive stalled
not_told_again = refl

-- a pawn that two players see, with 6 values besides its role, and the purse of one of them, with 3
shared : Edits
shared = Own 4 1 ∷ Spawn 2 (pos 0) (pos 0) ∷ Spawn 0 (pos 0) (pos 0) ∷ []

each_once : cell_count built_in_table shared ((1, []) ∷ (2, []) ∷ []) ≡ 9
unfolding shared pawn flag purse
each_once = refl

-- for an end that has ended nothing is sampled
none_for_the_dead : cell_count built_in_table shared ((1, stalled) ∷ []) ≡ 0
unfolding shared alive stalled pawn flag purse
none_for_the_dead = refl

use Rattle.std.specs.List.{range_with_len}
use Rattle.std.proofs.Common.{map}
use Rattle.sample_script.specs.SampleScript.{in_turn, spawn_lines}
use Rattle.sample_script.proofs.Writing.{Remains, drawn_from}
use Rattle.sample_script.proofs.sample.spawns.Given as goal

abbrev pub invariant-loop-actor : goal.invariant-loop-actor
invariant-loop-actor l =
    Remains (in_turn (map spawn_lines (range_with_len 1 200)))
    (drawn_from spawn_lines l.actor 201) l.initial.sample l.sample

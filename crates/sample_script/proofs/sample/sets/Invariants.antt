use Rattle.std.specs.List.{range_with_len}
use Rattle.std.proofs.Common.{map}
use Rattle.sample_script.specs.SampleScript.{in_turn, set_lines}
use Rattle.sample_script.proofs.Writing.{Remains, drawn_from}
use Rattle.sample_script.proofs.sample.sets.Given as goal

abbrev pub invariant-loop-turn : goal.invariant-loop-turn
invariant-loop-turn l =
    Remains (in_turn (map (λ n. set_lines) (range_with_len 0 20)))
    (drawn_from (λ n. set_lines) l._turn 20) l.initial.sample l.sample

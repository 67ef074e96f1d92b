use Rattle.std.specs.List.{flat_map, range_with_len}
use Rattle.sample_script.specs.SampleScript.{give, exchange_lines}
use Rattle.sample_script.proofs.Writing.{Remains, told_from}
use Rattle.sample_script.proofs.sample.last_ticks.Given as goal

abbrev pub invariant-loop-tick : goal.invariant-loop-tick
invariant-loop-tick l =
    Remains (give (flat_map (λ i. exchange_lines 0) (range_with_len 0 40)))
    (told_from (λ i. exchange_lines 0) l._tick 40) l.initial.sample l.sample

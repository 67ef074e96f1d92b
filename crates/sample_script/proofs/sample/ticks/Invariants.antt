use Rattle.std.specs.List.{range_with_len}
use Rattle.std.proofs.Common.{map}
use Rattle.sample_script.specs.SampleScript.{in_turn, tick_lines}
use Rattle.sample_script.proofs.Writing.{Remains, ticked_from}
use Rattle.sample_script.proofs.sample.ticks.Given as goal

abbrev pub invariant-loop-before : goal.invariant-loop-before
invariant-loop-before l =
    Remains (in_turn (map tick_lines (range_with_len 1 l.count)))
    (ticked_from tick_lines l.before l.count) l.initial.sample l.sample

use Rattle.std.specs.List.{flat_map, range_with_len}
use Rattle.sample_script.specs.SampleScript.{give, join_line}
use Rattle.sample_script.proofs.Writing.{Remains, told_from}
use Rattle.sample_script.proofs.sample.joins.Given as goal

abbrev pub invariant-loop-player : goal.invariant-loop-player
invariant-loop-player l =
    Remains (give (flat_map join_line (range_with_len 1 8))) (told_from join_line l.player 9) l.initial.sample l.sample

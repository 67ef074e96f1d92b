use Rattle.std.specs.List.{flat_map, range_with_len}
use Rattle.sample_script.specs.SampleScript.{give, exchange_line}
use Rattle.sample_script.proofs.Writing.{Remains, told_from}
use Rattle.sample_script.proofs.sample.exchanges.Given as goal

abbrev pub invariant-loop-player : goal.invariant-loop-player
invariant-loop-player l =
    Remains (give (flat_map (exchange_line l.every) (range_with_len 1 8)))
    (told_from (exchange_line l.every) l.player 9) l.initial.sample l.sample

use Rattle.std.specs.List.{range_with_len}
use Rattle.std.proofs.Common.{map}
use Rattle.sample_script.specs.SampleScript.{in_turn, view_line}
use Rattle.sample_script.proofs.Writing.{Remains, drawn_from}
use Rattle.sample_script.proofs.sample.views.Given as goal

abbrev pub invariant-loop-player : goal.invariant-loop-player
invariant-loop-player l =
    Remains (in_turn (map view_line (range_with_len 1 8))) (drawn_from view_line l.player 9) l.initial.sample l.sample

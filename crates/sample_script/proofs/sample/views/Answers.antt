use Rattle.std.specs.List.{range_with_len}
use Rattle.std.proofs.Common.{map, arith}
use Rattle.sample_script.specs.SampleScript.{in_turn, view_line}
use Rattle.sample_script.proofs.Writing.{drawn_step, drawn_done}
use Rattle.sample_script.proofs.sample.views.Goals as goal

pub loop-player-preserved : goal.loop-player-preserved
loop-player-preserved c =
    drawn_step view_line (in_turn (map view_line (range_with_len 1 8)))
    c.loop-player.player 9 c.args.sample.now c.loop-player.sample c.view_line.new.self (omega arith) c.loop-player.invariant c.in_ok-view_line.ensures

pub returns : goal.returns
returns c =
    drawn_done view_line (in_turn (map view_line (range_with_len 1 8)))
    c.loop-player.player 9 c.args.sample.now c.loop-player.sample (omega arith) c.loop-player.invariant

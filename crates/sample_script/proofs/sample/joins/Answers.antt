use Rattle.std.specs.List.{flat_map, range_with_len}
use Rattle.std.proofs.Common.{arith}
use Rattle.sample_script.specs.SampleScript.{give, join_line}
use Rattle.sample_script.proofs.Writing.{told_step, told_done}
use Rattle.sample_script.proofs.sample.joins.Goals as goal

pub loop-player-preserved : goal.loop-player-preserved
loop-player-preserved c =
    told_step join_line (give (flat_map join_line (range_with_len 1 8)))
    c.loop-player.player 9 c.args.sample.now c.loop-player.sample c.join_line.new.self (omega arith) c.loop-player.invariant c.in_ok-join_line.ensures

pub returns : goal.returns
returns c =
    told_done join_line (give (flat_map join_line (range_with_len 1 8)))
    c.loop-player.player 9 c.args.sample.now c.loop-player.sample (omega arith) c.loop-player.invariant

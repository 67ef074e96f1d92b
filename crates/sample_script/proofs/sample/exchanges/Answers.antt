use Rattle.std.specs.List.{flat_map, range_with_len}
use Rattle.std.proofs.Common.{arith}
use Rattle.sample_script.specs.SampleScript.{give, exchange_line}
use Rattle.sample_script.proofs.Writing.{told_step, told_done}
use Rattle.sample_script.proofs.sample.exchanges.Goals as goal

pub loop-player-preserved : goal.loop-player-preserved
loop-player-preserved c =
    told_step (exchange_line c.args.every) (give (flat_map (exchange_line c.args.every) (range_with_len 1 8)))
    c.loop-player.player 9 c.args.sample.now c.loop-player.sample c.exchange_line.new.self (omega arith) c.loop-player.invariant c.in_ok-exchange_line.ensures

pub returns : goal.returns
returns c =
    told_done (exchange_line c.args.every) (give (flat_map (exchange_line c.args.every) (range_with_len 1 8)))
    c.loop-player.player 9 c.args.sample.now c.loop-player.sample (omega arith) c.loop-player.invariant

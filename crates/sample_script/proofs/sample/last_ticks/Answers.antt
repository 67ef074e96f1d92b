use Rattle.std.specs.List.{flat_map, range_with_len}
use Rattle.std.proofs.Common.{arith}
use Rattle.sample_script.specs.SampleScript.{give, exchange_lines}
use Rattle.sample_script.proofs.Writing.{told_step, told_done}
use Rattle.sample_script.proofs.sample.last_ticks.Goals as goal

pub loop-tick-preserved : goal.loop-tick-preserved
loop-tick-preserved c =
    told_step (λ i. exchange_lines 0) (give (flat_map (λ i. exchange_lines 0) (range_with_len 0 40)))
    c.loop-tick._tick 40 c.args.sample.now c.loop-tick.sample c.exchange_lines.new.sample (omega arith) c.loop-tick.invariant c.in_ok-exchange_lines.ensures

pub returns : goal.returns
returns c =
    told_done (λ i. exchange_lines 0) (give (flat_map (λ i. exchange_lines 0) (range_with_len 0 40)))
    c.loop-tick._tick 40 c.args.sample.now c.loop-tick.sample (omega arith) c.loop-tick.invariant

use Rattle.std.specs.List.{range_with_len}
use Rattle.std.proofs.Common.{map, arith}
use Rattle.sample_script.specs.SampleScript.{in_turn, tick_lines}
use Rattle.sample_script.proofs.Writing.{ticked_step, ticked_done}
use Rattle.sample_script.proofs.sample.ticks.Goals as goal

pub loop-before-preserved : goal.loop-before-preserved
loop-before-preserved c =
    ticked_step tick_lines (in_turn (map tick_lines (range_with_len 1 c.args.count)))
    c.loop-before.before c.args.count c.args.sample.now c.loop-before.sample c.tick_lines.new.sample (omega arith) c.loop-before.invariant c.in_ok-tick_lines.ensures

pub returns : goal.returns
returns c =
    ticked_done tick_lines (in_turn (map tick_lines (range_with_len 1 c.args.count)))
    c.loop-before.before c.args.count c.args.sample.now c.loop-before.sample (omega arith) c.loop-before.invariant

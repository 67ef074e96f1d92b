use Rattle.std.specs.List.{range_with_len}
use Rattle.std.proofs.Common.{map, arith}
use Rattle.sample_script.specs.SampleScript.{in_turn, set_lines}
use Rattle.sample_script.proofs.Writing.{drawn_step, drawn_done}
use Rattle.sample_script.proofs.sample.sets.Goals as goal

pub loop-turn-preserved : goal.loop-turn-preserved
loop-turn-preserved c =
    drawn_step (λ n. set_lines) (in_turn (map (λ n. set_lines) (range_with_len 0 20)))
    c.loop-turn._turn 20 c.args.sample.now c.loop-turn.sample c.set_lines.new.self (omega arith) c.loop-turn.invariant c.in_ok-set_lines.ensures

pub returns : goal.returns
returns c =
    drawn_done (λ n. set_lines) (in_turn (map (λ n. set_lines) (range_with_len 0 20)))
    c.loop-turn._turn 20 c.args.sample.now c.loop-turn.sample (omega arith) c.loop-turn.invariant

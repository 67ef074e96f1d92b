use Rattle.std.specs.List.{range_with_len}
use Rattle.std.proofs.Common.{map, arith}
use Rattle.sample_script.specs.SampleScript.{in_turn, spawn_lines}
use Rattle.sample_script.proofs.Writing.{drawn_step, drawn_done}
use Rattle.sample_script.proofs.sample.spawns.Goals as goal

pub loop-actor-preserved : goal.loop-actor-preserved
loop-actor-preserved c =
    drawn_step spawn_lines (in_turn (map spawn_lines (range_with_len 1 200)))
    c.loop-actor.actor 201 c.args.sample.now c.loop-actor.sample c.spawn_lines.new.self (omega arith) c.loop-actor.invariant c.in_ok-spawn_lines.ensures

pub returns : goal.returns
returns c =
    drawn_done spawn_lines (in_turn (map spawn_lines (range_with_len 1 200)))
    c.loop-actor.actor 201 c.args.sample.now c.loop-actor.sample (omega arith) c.loop-actor.invariant

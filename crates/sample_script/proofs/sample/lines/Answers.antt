use Rattle.std.specs.List.{flat_map, range_with_len}
use Rattle.std.proofs.Common.{map}
use Rattle.sample_script.specs.SampleScript.{in_turn, join_line, spawn_lines, tick_lines, exchange_lines, players}
use Rattle.sample_script.proofs.Writing.{two_between_texts}
use Rattle.sample_script.proofs.sample.lines.Goals as goal

pub returns : goal.returns
returns c =
    two_between_texts (flat_map join_line players) (in_turn (map spawn_lines (range_with_len 1 200)))
    (in_turn (map tick_lines (range_with_len 1 c.args.count)))
    (flat_map (λ i. exchange_lines 0) (range_with_len 0 40))
    c.args.sample.now c.joins.new.sample c.spawns.new.sample c.ticks.new.sample c.last_ticks.new.sample
    c.in_ok-joins.ensures c.in_ok-spawns.ensures c.in_ok-ticks.ensures c.in_ok-last_ticks.ensures

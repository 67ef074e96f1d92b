use Rattle.std.specs.List.{range_with_len}
use Rattle.std.proofs.Common.{map, codes, ◌%◌, ◌==◌}
use Rattle.sample_script.specs.SampleScript.{in_turn, set_lines, view_line, players, text_if, actor_line, exchange_lines}
use Rattle.sample_script.proofs.Writing.{four_and_text}
use Rattle.sample_script.proofs.sample.tick_lines.Goals as goal

pub returns : goal.returns
returns c =
    four_and_text (in_turn (map (λ n. set_lines) (range_with_len 0 20)))
    (text_if (c.args.number % 10 == 0) (in_turn (map view_line players)))
    (text_if (c.args.number % 50 == 0) (actor_line (codes "dormant")))
    (text_if (c.args.number % 50 == 25) (actor_line (codes "wake"))) (exchange_lines 10)
    c.args.sample.now c.sets.new.sample c.views_if.new.sample c.actor_line_if.new.sample
    c.actor_line_if-2.new.sample c.exchange_lines.new.sample
    c.in_ok-sets.ensures c.in_ok-views_if.ensures c.in_ok-actor_line_if.ensures
    c.in_ok-actor_line_if-2.ensures c.in_ok-exchange_lines.ensures

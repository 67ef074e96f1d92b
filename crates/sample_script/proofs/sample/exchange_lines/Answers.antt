use Rattle.std.specs.List.{flat_map}
use Rattle.std.proofs.Common.{codes}
use Rattle.sample_script.specs.SampleScript.{exchange_line, players}
use Rattle.sample_script.proofs.Writing.{appended}
use Rattle.sample_script.proofs.sample.exchange_lines.Goals as goal

pub returns : goal.returns
returns c =
    appended (codes "tick\n") (flat_map (exchange_line c.args.every) players) c.args.sample.now c.tick_line.new.self
    c.exchanges.new.sample c.in_ok-tick_line.ensures c.in_ok-exchanges.ensures

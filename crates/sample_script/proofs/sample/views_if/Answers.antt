use Rattle.std.proofs.Common.{map}
use Rattle.sample_script.specs.SampleScript.{in_turn, view_line, players}
use Rattle.sample_script.proofs.Writing.{written_if}
use Rattle.sample_script.proofs.sample.views_if.Goals as goal

pub returns-in_ok-views : goal.returns-in_ok-views
returns-in_ok-views c =
    written_if c.args.due (in_turn (map view_line players)) c.args.sample.now c.views.new.sample
    c.if-due.true c.in_ok-views.ensures

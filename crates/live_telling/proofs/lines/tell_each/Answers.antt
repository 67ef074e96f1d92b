use Rattle.std.proofs.Common.{arith}
use Rattle.class_layout.specs.Tables.{table_in}
use Rattle.script_lines.specs.ReportOf.{report_of}
use Rattle.live_model.specs.Server.{write}
use Rattle.live_telling.proofs.Adding.{turn, turned}
use Rattle.live_telling.proofs.lines.tell_each.Goals as goal

pub loop-event-preserved : goal.loop-event-preserved
loop-event-preserved c =
    turn write (report_of (table_in c.args.classes.now)) _ _ _ c.args.events.now c.loop-event.event-index
    c.event-item.result (omega arith) c.event-item.is c.in_ok-tell_one.ensures c.loop-event.invariant

pub returns : goal.returns
returns c =
    turned write (report_of (table_in c.args.classes.now)) _ _ c.args.events.now c.loop-event.event-index
    (omega (arith, c.loop-event-test.false)) c.loop-event.invariant

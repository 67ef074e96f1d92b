use Rattle.std.proofs.Common.{◌≡◌, ◌++◌, map, drop}
use Rattle.class_layout.specs.Tables.{table_in}
use Rattle.script_lines.specs.ReportOf.{report_of}
use Rattle.live_model.specs.Server.{write}
use Rattle.live_acts.specs.Acts.{act_of}
use Rattle.live_telling.proofs.lines.tell_each.Given as goal

-- what was done, and the lines that are left, are all of them
abbrev pub invariant-loop-event : goal.invariant-loop-event
invariant-loop-event l =
    map act_of l.acts ++ map write (map (report_of (table_in l.classes)) (drop l.event-index l.events))
    ≡ map act_of l.fn.acts ++ map write (map (report_of (table_in l.classes)) l.events)

use Rattle.std.proofs.Common.{◌≡◌, map, take}
use Rattle.std.specs.List.{flat_map}
use Rattle.script_model.specs.Reports.{report_text}
use Rattle.class_layout.specs.Tables.{table_in}
use Rattle.script_lines.specs.ReportOf.{report_of}
use Rattle.transcripts.proofs.playing.tell.Given as goal

-- the text so far is that of the events so far
abbrev pub invariant-loop-event : goal.invariant-loop-event
invariant-loop-event l =
    l.text ≡ flat_map report_text (map (report_of (table_in l.classes)) (take l.event-index l.event-items))

use Rattle.std.proofs.Common.{◌≡◌, ◌≤◌, ◌+◌, map}
use Rattle.class_layout.specs.Tables.{table_in}
use Rattle.script_model.specs.Script.{pieces}
use Rattle.script_lines.specs.LineOf.{line_of}
use Rattle.script_spelling.specs.Fields.{pieces_after}
use Rattle.script_reading.specs.Kept.{nothing}
use Rattle.script_reading.specs.Judging.{lines_by}
use Rattle.script_reading.specs.Gives.{table_of, kept_of}
use Rattle.script_reading.specs.Prepended.{prepended}
use Rattle.script_reading.specs.ToldBy.{Told}
use Rattle.script_reading.proofs.Whole.{left_of}
use Rattle.script_reading.proofs.script.read_lines.Given as goal

abbrev pub invariant-loop-rest : goal.invariant-loop-rest
invariant-loop-rest l = record {
  few : l.number + left_of l.rest ≤ 67108866;
  table : table_of l.reader ≡ table_in l.classes;
  live : l.reader.live ≡ l.live;
  lines : prepended (map line_of l.lines)
      (lines_by (table_in l.classes) l.live (kept_of l.reader) l.number (pieces_after 10 l.rest))
      ≡ lines_by (table_in l.classes) l.live nothing 1 (pieces 10 l.fn.bytes);
  told : Told (table_in l.classes) (kept_of l.reader) l.lines;
}

abbrev pub decreases-loop-rest : goal.decreases-loop-rest
decreases-loop-rest l = left_of l.rest

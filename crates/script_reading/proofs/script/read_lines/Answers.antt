use Rattle.std.proofs.Common.{map, sym, ◌∙◌, ap, subst, arith}
use Rattle.class_layout.specs.Tables.{table_in}
use Rattle.script_model.specs.Script.{pieces}
use Rattle.script_lines.specs.LineOf.{line_of}
use Rattle.script_spelling.specs.Fields.{pieces_after}
use Rattle.script_reading.specs.Kept.{nothing}
use Rattle.script_reading.specs.Judging.{lines_by}
use Rattle.script_reading.specs.Gives.{table_of, kept_of}
use Rattle.script_reading.specs.Prepended.{prepended}
use Rattle.script_reading.specs.ToldBy.{Told}
use Rattle.script_reading.proofs.Whole.{prepended_none, loop_step, loop_stop, few_on}
use Rattle.script_reading.proofs.Telling.{none_told, told_step}
use Rattle.script_reading.proofs.script.read_lines.Goals as goal

pub loop-rest-preserved : goal.loop-rest-preserved
loop-rest-preserved c = record {
  few =
      few_on c.loop-rest.number c.loop-rest.rest c.first_piece.result.1 c.in-Some.text 67108866
      c.loop-rest.invariant.few c.in-Some.is c.first_piece.ensures.shorter;
  table = c.take_line.ensures.table ∙ c.loop-rest.invariant.table;
  live = c.take_line.ensures.live ∙ c.loop-rest.invariant.live;
  lines =
      loop_step (table_of c.loop-rest.reader) (table_in c.args.classes.now) c.loop-rest.reader.live c.args.live
      (kept_of c.loop-rest.reader) (kept_of c.take_line.new.reader)
      (lines_by (table_in c.args.classes.now) c.args.live nothing 1 (pieces 10 c.args.bytes.now))
      (map line_of c.loop-rest.lines) (map line_of c.take_line.new.lines) c.loop-rest.number c.loop-rest.rest
      c.in-Some.text c.first_piece.result.0.now (pieces_after 10 c.first_piece.result.1) c.loop-rest.invariant.table
      c.loop-rest.invariant.live (c.in-Ok.ensures.ok (pieces_after 10 c.first_piece.result.1))
      c.loop-rest.invariant.lines c.in-Some.is c.first_piece.ensures.exact;
  told =
      told_step (table_of c.loop-rest.reader) (table_in c.args.classes.now) (kept_of c.loop-rest.reader)
      (kept_of c.take_line.new.reader) c.loop-rest.lines c.take_line.new.lines c.loop-rest.invariant.table
      c.in-Ok.ensures.told c.loop-rest.invariant.told;
}

pub loop-rest-init : goal.loop-rest-init
loop-rest-init c =
    let table = table_in c.args.classes.now in record {
      few = omega (arith, c.requires);
      table = c.new-reader.ensures.table;
      live = c.new-reader.ensures.live;
      lines =
          ap (λ kept. prepended (map line_of c.new-lines.result)
          (lines_by table c.args.live kept 1 (pieces 10 c.args.bytes.now)))
          c.new-reader.ensures.kept
          ∙ ap (λ lines. prepended (map line_of lines)
          (lines_by table c.args.live nothing 1 (pieces 10 c.args.bytes.now)))
          c.new-lines.ensures ∙ prepended_none (lines_by table c.args.live nothing 1 (pieces 10 c.args.bytes.now));
      told =
          subst (λ kept. Told table kept c.new-lines.result) (sym c.new-reader.ensures.kept)
          (subst (λ lines. Told table nothing lines) (sym c.new-lines.ensures) (none_told table));
    }

pub returns-in-Err-clause-refused : goal.returns-in-Err-clause-refused
returns-in-Err-clause-refused c = λ n why e.
    loop_stop (table_of c.loop-rest.reader) (table_in c.args.classes.now) c.loop-rest.reader.live c.args.live
    (kept_of c.loop-rest.reader) (lines_by (table_in c.args.classes.now) c.args.live nothing 1
    (pieces 10 c.args.bytes.now))
    (map line_of c.loop-rest.lines) c.loop-rest.number c.loop-rest.rest c.in-Some.text c.first_piece.result.0.now
    (pieces_after 10 c.first_piece.result.1) n why c.loop-rest.invariant.table c.loop-rest.invariant.live
    (c.in-Err.ensures.bad n why e (pieces_after 10 c.first_piece.result.1)) c.loop-rest.invariant.lines c.in-Some.is
    c.first_piece.ensures.exact

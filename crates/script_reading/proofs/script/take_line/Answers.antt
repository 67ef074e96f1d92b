use Rattle.std.proofs.Common.{map, sym, ◌∙◌}
use Rattle.script_lines.specs.LineOf.{line_of}
use Rattle.script_reading.specs.Gives.{table_of, kept_of}
use Rattle.script_reading.proofs.Whole.{on_both, taken_some, no_bad, taken_refused}
use Rattle.script_reading.proofs.Telling.{told_more}
use Rattle.script_reading.proofs.script.take_line.Goals as goal

pub returns-in-Ok-clause-ok : goal.returns-in-Ok-clause-ok
returns-in-Ok-clause-ok c =
    let reader = c.args.reader.now in
    on_both c.keep_some.result c.keep_some.ensures.lines c.keep_some.ensures.kept (λ lines kept.
    taken_some (table_of reader) reader.live (kept_of reader) (kept_of c.keep_some.new.reader) c.args.number
    c.args.text.now c.args.lines.now c.keep_some.new.lines c.in-Ok.line c.in-Ok.ensures.exact lines kept)

pub returns-in-Ok-clause-told : goal.returns-in-Ok-clause-told
returns-in-Ok-clause-told c =
    let reader = c.args.reader.now in
    on_both c.keep_some.result c.keep_some.ensures.lines c.keep_some.ensures.kept (λ lines kept.
    told_more (table_of reader) (kept_of reader) (kept_of c.keep_some.new.reader) c.args.lines.now
    c.keep_some.new.lines c.in-Ok.line c.in-Ok.ensures.told lines kept)

pub returns-in-Ok-clause-bad : goal.returns-in-Ok-clause-bad
returns-in-Ok-clause-bad c = no_bad _ c.keep_some.result c.keep_some.ensures.err

pub returns-in-Err-clause-bad : goal.returns-in-Err-clause-bad
returns-in-Err-clause-bad c = λ n why e texts.
    let reader = c.args.reader.now in
    taken_refused (table_of reader) reader.live (kept_of reader) c.args.number c.args.text.now
    (map line_of c.args.lines.now) c.in-Err.stop c.in-Err.ensures.exact n why (sym c.refused.ensures ∙ e) texts

use Rattle.std.proofs.Common.{subst, option_map}
use Rattle.script_lines.specs.LineOf.{line_of}
use Rattle.script_spelling.specs.SpelledBy.{spelled_by}
use Rattle.script_reading.specs.Judging.{judged}
use Rattle.script_reading.specs.Gives.{table_of, kept_of}
use Rattle.script_reading.specs.Tells.{Tells}
use Rattle.script_reading.proofs.Scripts.{spelled_is, not_spelled}
use Rattle.script_reading.proofs.script.read_spelled.Goals as goal

pub returns-in-Some-clause-exact : goal.returns-in-Some-clause-exact
returns-in-Some-clause-exact c =
    let reader = c.args.reader.now in
    subst (λ told. Tells (option_map line_of) told c.some_line.result)
    (spelled_is (table_of reader) reader.live (kept_of reader) c.args.text.now c.in-Some.spelled c.in-Some.ensures)
    (c.some_line.ensures.exact (judged (table_of reader) reader.live (kept_of reader) (spelled_by c.in-Some.spelled))
    c.judge-line.ensures.exact)

pub returns-in-None-clause-exact : goal.returns-in-None-clause-exact
returns-in-None-clause-exact c =
    let reader = c.args.reader.now in
    not_spelled (table_of reader) reader.live (kept_of reader) c.args.text.now c.in-None.ensures

pub returns-in-Some-clause-told : goal.returns-in-Some-clause-told
returns-in-Some-clause-told c =
    c.some_line.ensures.told (kept_of c.args.reader.now) c.judge-line.ensures.told

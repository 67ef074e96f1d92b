use Rattle.std.proofs.Common.{sym, ap, ◌∙◌}
use Rattle.std.specs.Option.{option_copied}
use Rattle.payload_reading.proofs.Tables.{class_is, limits_kept}
use Rattle.payload_reading.proofs.classes.class_at.Goals as goal

pub returns-clause-class : goal.returns-clause-class
returns-clause-class c =
    class_is c.args.classes.now c.args.place c.unwrap.result.now
    (sym c.class.ensures ∙ ap option_copied c.unwrap.ensures)

pub returns-clause-limits : goal.returns-clause-limits
returns-clause-limits c =
    limits_kept c.args.classes.now c.args.place c.unwrap.result.now c.keeps_rules.ensures.rules
    (sym c.class.ensures ∙ ap option_copied c.unwrap.ensures)

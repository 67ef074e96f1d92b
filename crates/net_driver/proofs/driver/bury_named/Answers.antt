use Rattle.std.proofs.Common.{sym, ap, ◌∙◌}
use Rattle.std.specs.Option.{option_copied}
use Rattle.world_table.specs.Answers.{edit_of}
use Rattle.net_driver.proofs.Burying.{none_buried, one_buried, class_within}
use Rattle.net_driver.proofs.driver.bury_named.Goals as goal

pub returns-in_default : goal.returns-in_default
returns-in_default c = λ edits is h.
    none_buried c.args.classes.now (edit_of c.args.e.now) edits c.args.graves.now.items
    (sym c.destroyed_in.ensures ∙ c.in_default.is) h

pub returns : goal.returns
returns c = λ edits is h.
    one_buried c.args.classes.now c.args.e.now edits c.in-Some.actor c.in-Some-before.look c.args.before.now
    c.args.graves.now.items _ (sym c.destroyed_in.ensures ∙ c.in-Some.is) is c.in-Some-before.is c.if-not-look.false
    (class_within c.args.classes.now _ _ (sym c.class.ensures ∙ ap option_copied c.in-Some-class.is)) c.in_ok-bury.ensures h

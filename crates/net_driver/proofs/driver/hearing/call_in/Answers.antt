use Rattle.std.proofs.Common.{◌-◌, option_map, sym, ap, ◌∙◌, arith}
use Rattle.std.specs.Prelude.{slice_get}
use Rattle.std.specs.Option.{option_copied}
use Rattle.class_members.specs.Members.{call_of}
use Rattle.net_driver.proofs.InMemory.{no_class_there, call_there}
use Rattle.net_driver.proofs.driver.hearing.call_in.Goals as goal

pub returns-in_default : goal.returns-in_default
returns-in_default c =
    sym (no_class_there c.args.classes.now c.args.class c.args.number (sym c.class.ensures
    ∙ ap option_copied c.in_default.is))

pub returns : goal.returns
returns c =
    ap (option_map call_of) c.get.ensures
    ∙ ap (λ i. option_map call_of (slice_get c.in-Some.class.now.calls (i - 1))) c.from.ensures
    ∙ sym (call_there c.args.classes.now c.args.class c.args.number c.in-Some.class.now (sym c.class.ensures
    ∙ ap option_copied c.in-Some.is) (omega (arith, c.if-number-eq0.false)))

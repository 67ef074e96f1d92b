use Rattle.std.proofs.Common.{◌≡◌, ℕ, ◌∙◌, ap, sym, subst, Bool, ◌&&◌, ◌≤◌, ◌<◌, nat_le, arith, true, false}
use Rattle.std.proofs.Math.Dec.{leb}
use Rattle.std.proofs.lemmas.Bool.Decides.{nat_tests}
use Rattle.protocol_model.specs.Value as Model
use Rattle.sender_records.specs.Handles.{is_updatable_in}
use Rattle.sender_steps.proofs.Tables.{class_there, class_none, no_updatable}
use Rattle.sender_steps.proofs.settled.may_update.Goals as goal

pub returns-in-Some : goal.returns-in-Some
returns-in-Some c =
    c.is_updatable.ensures c.args.classes.now.segments
    ∙ ap (λ (class : Model.Class). is_updatable_in class c.args.owns c.args.prop)
    (sym (class_there c.args.classes.now c.args.class c.in-Some.class.now (sym c.in-Some.ensures)))

low : (h : ℕ) → 1 ≤ h → leb h 3 ≡ (nat_le 1 h && nat_le h 3)
low h e = grind (arith, nat_tests)

zero_not : (h : ℕ) → h < 1 → leb 1 h ≡ (nat_le 1 h && nat_le h 3)
zero_not h e = grind (arith, nat_tests)

pub returns-then-prop-ge1 : goal.returns-then-prop-ge1
returns-then-prop-ge1 c =
    low c.prop.inside.0 (omega arith)
    ∙ ap (λ (h : ℕ). nat_le 1 h && nat_le h 3) c.prop.view_is
    ∙ sym (no_updatable c.args.owns c.args.prop)
    ∙ ap (λ (class : Model.Class). is_updatable_in class c.args.owns c.args.prop)
    (sym (class_none c.args.classes.now c.args.class (sym c.in-None.ensures)))

pub returns-else-prop-ge1 : goal.returns-else-prop-ge1
returns-else-prop-ge1 c =
    zero_not c.prop.inside.0 (omega arith)
    ∙ ap (λ (h : ℕ). nat_le 1 h && nat_le h 3) c.prop.view_is
    ∙ sym (no_updatable c.args.owns c.args.prop)
    ∙ ap (λ (class : Model.Class). is_updatable_in class c.args.owns c.args.prop)
    (sym (class_none c.args.classes.now c.args.class (sym c.in-None.ensures)))

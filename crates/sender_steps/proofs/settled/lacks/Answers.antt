use Rattle.std.proofs.Common.{◌≡◌, ◌∙◌, Bool, true, false, ◌&&◌, not, ap, sym, refl}
use Rattle.sender_steps.proofs.settled.lacks.Goals as goal

lacking : (a u c m : Bool) → m ≡ true → m ≡ u → a ≡ c → not a ≡ (u && not c)
lacking a u c m e f g = ap not g ∙ ap (λ (b : Bool). b && not c) (sym e ∙ f)

pub returns : goal.returns
returns c = λ past actor samples h opened.
    lacking c.has_arrived.result _ _ c.may_update.result c.if-not-may_update.false c.may_update.ensures
    (c.has_arrived.ensures past actor samples h opened)

use Rattle.std.proofs.Common.{◌≡◌, ◌∙◌, Bool, true, false, not, ap, refl, sym, Option, Some, None, is_some, option_map}
use Rattle.protocol_model.specs.Packet.{Bunch}
use Rattle.sender_steps.proofs.taking.has_arrived.Goals as goal

gone : {A B : Type 0} (f : A → B) (o : Option A) → not (is_some o) ≡ not (is_some (option_map f o))
gone f None = refl
gone f (Some b) = refl

flip : (b c : Bool) → b ≡ not c → c ≡ not b
flip b true e = ap not (sym e)
flip b false e = ap not (sym e)

pub returns : goal.returns
returns c = λ side past h. flip (is_some c.bunch.result) c.is_none.result c.is_none.ensures ∙ gone _ c.bunch.result
    ∙ ap (λ (o : Option Bunch). not (is_some o)) (c.bunch.ensures side past h)

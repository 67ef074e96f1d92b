use Rattle.std.proofs.Common.{length, sym, ap, ◌∙◌, subst}
use Rattle.std.specs.Prelude.{nat_le}
use Rattle.net_driver.specs.Serves.{Serves}
use Rattle.net_driver.proofs.Joining.{chairs_are}
use Rattle.net_driver.proofs.driver.Driver.is_full.Goals as goal

pub returns : goal.returns
returns c = λ s h.
    ap (nat_le 64) (ap length c.as_slice.ensures.value
    ∙ chairs_are _ s (subst (λ d. Serves d s) (sym c.self.view_is) h))

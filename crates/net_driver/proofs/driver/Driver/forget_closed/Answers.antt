use Rattle.std.proofs.Common.{refl, sym, subst}
use Rattle.net_driver.specs.Serves.{Drive, Serves}
use Rattle.net_driver.proofs.Forgetting.{forgotten, seated_list}
use Rattle.net_driver.proofs.driver.Driver.forget_closed.Goals as goal

pub returns-clause-serves : goal.returns-clause-serves
returns-clause-serves c = λ s now.
    let h = subst (λ (d : Drive). Serves d s) (sym c.self.view_is) now in
    forgotten _ _ s h
    (c.retain_left.ensures _ s.edits s.samples _ s.seats (seated_list _ s _ h c.as_slice.ensures.value)) refl

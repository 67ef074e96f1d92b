use Rattle.std.proofs.Common.{refl, sym, subst}
use Rattle.net_driver.specs.Serves.{Drive, Serves}
use Rattle.net_driver.proofs.LookAll.{looking_at, seated_of, look_is, few_is, look_serves, look_sights, look_steps}
use Rattle.net_driver.proofs.driver.Driver.look.Goals as goal

pub look_all-requires : goal.look_all-requires
look_all-requires g c =
    let s = c.requires.stands.0 in
    let h = subst (λ (d : Drive). Serves d s) (sym c.self.view_is) c.requires.stands.1 in record {
      looking = (
        s.edits,
        _,
        s.samples,
        s.samples,
        s.seats,
        looking_at _ s _ _ h c.as_slice-2.ensures.value c.new-noted.ensures,
        seated_of _ s _ h c.as_slice.ensures.value,
      );
    }

pub returns-clause-serves : goal.returns-clause-serves
returns-clause-serves g c = λ s now.
    let h = subst (λ (d : Drive). Serves d s) (sym c.self.view_is) now in
    look_serves _ c.args.self.now _ s c.look_all.new.noted _ _ c.in_ok-sights.sights.items h
    (look_is _ s _ _ _ _ _ _ _ c.as_slice-2.ensures.value c.new-noted.ensures c.look_all.ensures.tick
    (c.in_ok-sights.ensures.looked s.edits _ s.samples s.samples s.seats
    (looking_at _ s _ _ h c.as_slice-2.ensures.value c.new-noted.ensures) (seated_of _ s _ h c.as_slice.ensures.value)))
    refl c.self.view_is

pub returns-clause-sights : goal.returns-clause-sights
returns-clause-sights g c = λ s now.
    let h = subst (λ (d : Drive). Serves d s) (sym c.self.view_is) now in
    look_sights _ c.args.self.now s c.look_all.new.noted _ _ _ c.in_ok-sights.sights.items h
    (look_is _ s _ _ _ _ _ _ _ c.as_slice-2.ensures.value c.new-noted.ensures c.look_all.ensures.tick
    (c.in_ok-sights.ensures.looked s.edits _ s.samples s.samples s.seats
    (looking_at _ s _ _ h c.as_slice-2.ensures.value c.new-noted.ensures) (seated_of _ s _ h c.as_slice.ensures.value)))
    c.self.view_is

pub returns-clause-steps : goal.returns-clause-steps
returns-clause-steps g c = λ s now.
    let h = subst (λ (d : Drive). Serves d s) (sym c.self.view_is) now in
    look_steps _ c.args.self.now s _ _ h (few_is _ s _ _ _ h c.new-noted.ensures
    (c.look_all.ensures.steps s.edits _ s.samples s.samples s.seats
    (looking_at _ s _ _ h c.as_slice-2.ensures.value c.new-noted.ensures) (seated_of _ s _ h c.as_slice.ensures.value)))
    c.self.view_is

pub returns-in_err-sights-clause-steps : goal.returns-in_err-sights-clause-steps
returns-in_err-sights-clause-steps g c = λ s now.
    let h = subst (λ (d : Drive). Serves d s) (sym c.self.view_is) now in
    look_steps _ c.args.self.now s _ _ h (few_is _ s _ _ _ h c.new-noted.ensures
    (c.look_all.ensures.steps s.edits _ s.samples s.samples s.seats
    (looking_at _ s _ _ h c.as_slice-2.ensures.value c.new-noted.ensures) (seated_of _ s _ h c.as_slice.ensures.value)))
    c.self.view_is

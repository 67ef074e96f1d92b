use Rattle.std.proofs.Common.{◌≡◌, ◌+◌, ◌-◌, ◌<◌, ◌∷◌, ℕ, ap, arith, subst}
use Rattle.reliable_window.specs.In.{Stands, held_from}
use Rattle.reliable_window.proofs.Received.{kept_rests, stands_as}
use Rattle.reliable_window.proofs.incoming.InWindow.keep.Goals as goal

pub returns-clause-stands : goal.returns-clause-stands
returns-clause-stands g c = λ got h.
    let next = ap (λ (w : _). w.next) c.self.view_is in
    let at : c.self.inside.next + (c.args.number - c.self.inside.next) ≡ c.args.number = omega arith in
    let ahead : 0 < c.args.number - c.self.inside.next = omega arith in
    subst (λ (n : ℕ). Stands (record { next = c.self.inside.next; held = held_from c.self.inside.next c.hold.new.held.items }) ((n, c.args.item) ∷ got)) at
    (kept_rests c.self.inside.next (c.args.number - c.self.inside.next) c.self.inside.held.items c.hold.new.held.items got c.args.item
    (stands_as _ _ got c.self.view_is h) c.self.invariant.0 ahead c.in_ok-hold.ensures.ok)

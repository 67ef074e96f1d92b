use Rattle.std.proofs.Common.{◌∷◌, ap, sym, subst, ℕ}
use Rattle.reliable_window.specs.In.{HandsOver, natural_of}
use Rattle.reliable_window.proofs.incoming.InWindow.offer.Goals as goal

pub returns-in-Next-clause-stands : goal.returns-in-Next-clause-stands
returns-in-Next-clause-stands g c = λ got h.
    subst (λ (n : ℕ). HandsOver c.pass.new.self ((n, c.args.item) ∷ got)) (sym (ap natural_of (c.in-Next.ensures.placed got h)))
    (c.pass.ensures.stands got c.args.item h)

use Rattle.std.proofs.Common.{◌<◌, ◌∙◌, arith, sym, true}
use Rattle.reliable_window.proofs.Received.{held_repeat, placed_ahead, stands_as}
use Rattle.reliable_window.proofs.incoming.InWindow.place.Goals as goal

pub returns-then-is_held-clause-placed : goal.returns-then-is_held-clause-placed
returns-then-is_held-clause-placed g c = λ got h.
    held_repeat c.self.inside.next c.in-Some.ahead c.self.inside.held.items got c.args.seq true (stands_as _ _ got c.self.view_is h)
    c.in-Some.ensures.some.0 (sym c.is_held.ensures ∙ c.if-is_held.true)

pub returns-clause-placed : goal.returns-clause-placed
returns-clause-placed g c = λ got h.
    let some : 0 < c.in-Some.ahead = omega arith in
    placed_ahead c.self.inside.next c.in-Some.ahead c.self.inside.held.items got c.args.seq (stands_as _ _ got c.self.view_is h)
    c.in-Some.ensures.some.0 some (sym c.is_held.ensures ∙ c.if-is_held.false)

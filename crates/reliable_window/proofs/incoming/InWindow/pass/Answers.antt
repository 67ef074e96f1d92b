use Rattle.reliable_window.proofs.Received.{passed_hands, stands_as}
use Rattle.reliable_window.proofs.incoming.InWindow.pass.Goals as goal

pub returns-clause-stands : goal.returns-clause-stands
returns-clause-stands g c = λ got item h.
    rw c.pop_front.ensures.rest (passed_hands c.self.inside.next c.self.inside.held.items got item (stands_as _ _ got c.self.view_is h))

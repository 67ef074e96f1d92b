use Rattle.std.proofs.Common.{arith, refl, sym, subst}
use Rattle.ack_book.specs.Book.{Book}
use Rattle.ack_book.specs.Keeps.{Keeps}
use Rattle.ack_book.specs.contracts.book.AckBook.{the_view}
use Rattle.ack_book.proofs.KeepsSteps.{sent_keeps}
use Rattle.ack_book.proofs.book.AckBook.sent.Goals as goal

pub returns-clause-keeps : goal.returns-clause-keeps
returns-clause-keeps c = λ v past t items h.
    let P : Book → Type 0 = λ book. Keeps book v past in
    let inside : P (the_view c.self.inside) = subst P (sym c.self.view_is) h in
    sent_keeps (the_view c.self.inside) v past _ t items inside (omega (arith, c.self.inside.told.ok.0)) (omega arith) (omega arith) refl

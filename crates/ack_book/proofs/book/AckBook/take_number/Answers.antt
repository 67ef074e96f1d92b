use Rattle.std.proofs.Common.{ℕ, ◌<◌, arith, sym, ap, subst, to_z, of_z, w64}
use Rattle.std.proofs.lemmas.Int.{ints}
use lib.IntN.{nat_abs}
use Rattle.circular_buffer.specs.Buffer.{Buffer}
use Rattle.ack_book.specs.Book.{Book}
use Rattle.ack_book.specs.Keeps.{Keeps}
use Rattle.ack_book.specs.contracts.book.AckBook.{the_view}
use Rattle.ack_book.proofs.Steps.{owed_items}
use Rattle.ack_book.proofs.KeepsSteps.{held_keeps, taken_keeps}
use Rattle.ack_book.proofs.book.AckBook.take_number.Goals as goal

pub returns-clause-keeps : goal.returns-clause-keeps
returns-clause-keeps c = λ v past h.
    let P : Book → Type 0 = λ book. Keeps book v past in
    let inside : P (the_view c.self.inside) = subst P (sym c.self.view_is) h in
    let number : ℕ = nat_abs (to_z w64 (of_z w64 c.near-number.result)) in
    let above : c.self.inside.top < number = omega (arith, ints) in
    held_keeps _ v _ _
    (taken_keeps (the_view c.self.inside) v past number c.note_number.new.owed.items c.note_number.new.history inside above
    (λ e. owed_items c.self.inside.owed c.note_number.new.owed number (omega arith) (c.note_number.ensures.one e))
    (λ e. ap (λ (b : Buffer ℕ). b.items) (c.note_number.ensures.two e))
    c.note_number.ensures.history)

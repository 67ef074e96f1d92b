use Rattle.std.proofs.Common.{◌∷◌, ℕ, ℤ, pos, ◌≡◌, ◌∙◌, arith, sym, ap, subst, to_z, of_z, w64}
use Rattle.std.proofs.lemmas.Int.{ints}
use Rattle.std.proofs.lemmas.List.{get_or_read_under}
use lib.IntN.{nat_abs}
use Rattle.protocol_model.specs.Bits.{near}
use Rattle.connection_model.specs.Feed.{Took}
use Rattle.ack_book.specs.Book.{Book}
use Rattle.ack_book.specs.Keeps.{Keeps}
use Rattle.ack_book.specs.contracts.book.AckBook.{the_view}
use Rattle.ack_book.proofs.KeepsSteps.{held_keeps, acked_keeps}
use Rattle.ack_book.proofs.book.AckBook.take_ack.Goals as goal

pub returns-clause-keeps : goal.returns-clause-keeps
returns-clause-keeps c = λ v past m entries handed h.
    let P : Book → Type 0 = λ book. Keeps book v (Took m entries handed ∷ past) in
    let inside : P (the_view c.self.inside) = subst P (sym c.self.view_is) h in
    let to : ℕ = nat_abs (to_z w64 (of_z w64 c.near-acked.result)) in
    let high_is : to_z w64 c.self.inside.high ≡ pos c.self.inside.high = omega (arith, ints) in
    let acked : c.near-acked.result ≡ near c.args.n (pos c.self.inside.high) 16384 = c.near-acked.ensures ∙ ap (λ (r : ℤ). near c.args.n r 16384) high_is in
    let to_is : c.near-acked.result ≡ pos to = omega (arith, ints) in
    let marks = c.mark_arrived.ensures in
    held_keeps _ v _ _
    (acked_keeps (the_view c.self.inside) v past m entries handed c.args.n to c.index.result.now c.mark_arrived.new.ring.items inside
    (omega (arith, ints)) (omega (arith, ints)) (sym acked ∙ to_is)
    (get_or_read_under c.self.inside.told.items _ c.self.inside.told.len _ 0 c.index.ensures (omega arith) (omega (arith, c.self.inside.told.ok.0)))
    marks.arrived marks.lost marks.kept)

use Rattle.std.proofs.Common.{◌≡◌, ◌∙◌, ℕ, ℤ, pos, negsuc, ◌-ℤ◌, ◌≤ℤ◌, ◌<◌, ◌+◌, ◌-◌, ◌∷◌, List, Bool, true, false, Some, arith, sym, ap, subst, to_z, of_z, w64}
use Rattle.std.specs.Prelude.{slice_get}
use Rattle.std.proofs.lemmas.Int.{ints}
use Rattle.std.proofs.lemmas.List.{get_or_read_under}
use lib.IntN.{nat_abs}
use Rattle.protocol_model.specs.Bits.{near}
use Rattle.connection_model.specs.Feed.{Took, Told}
use Rattle.connection_model.specs.Fates.{high_of, history_of}
use Rattle.bit_io.specs.HeadOf.{head_of as head_told}
use Rattle.ack_book.specs.Book.{Book}
use Rattle.ack_book.specs.Keeps.{Keeps}
use Rattle.ack_book.specs.contracts.book.AckBook.{the_view}
use Rattle.ack_book.proofs.KeepsSteps.{held_keeps}
use Rattle.ack_book.proofs.Names.{named_first, near_low}
use Rattle.ack_book.proofs.HeadSteps.{names_nothing, names_sent, names_one_unsent, silent_keeps, stale_keeps, told_keeps, told_bits, none_of, first_of}
use Rattle.ack_book.proofs.book.AckBook.take_head.Goals as goal

pub returns-in_default-clause-bad : goal.returns-in_default-clause-bad
returns-in_default-clause-bad c = λ v past h.
    let e = names_nothing past (head_told c.args.h) (none_of c.args.h c.requires.whole c.in_default.ensures.none) in
    subst (λ (b : Bool). (false ≡ true → b ≡ true) × (b ≡ true → false ≡ true)) (sym e) (λ x. x, λ x. x)

pub returns-in_default-clause-keeps : goal.returns-in_default-clause-keeps
returns-in_default-clause-keeps c = λ v past m entries handed h.
    silent_keeps c.args.self.now v past m entries handed (head_told c.args.h) h (none_of c.args.h c.requires.whole c.in_default.ensures.none)

pub returns-then-greatest-self-clause-bad : goal.returns-then-greatest-self-clause-bad
returns-then-greatest-self-clause-bad c = λ v past h.
    let P : Book → Type 0 = λ book. Keeps book v past in
    let inside : P (the_view c.self.inside) = subst P (sym c.self.view_is) h in
    let first = first_of c.args.h c.in-Some.first c.requires.whole c.in-Some.ensures.some in
    let high_is : to_z w64 c.self.inside.high ≡ pos (high_of past) = omega (arith, ints, inside.high) in
    let top : c.near-top.result ≡ near c.args.h.top (pos (high_of past)) 16384 = c.near-top.ensures ∙ ap (λ (r : ℤ). near c.args.h.top r 16384) high_is in
    let small : c.in-Some.first < 256 = c.in-Some.ensures.some.0 in
    let low : negsuc 8191 ≤ℤ c.near-top.result = rw top (near_low c.args.h.top (high_of past)) in
    let e = names_one_unsent past (head_told c.args.h) c.in-Some.first first (rw (← top) (omega (arith, ints, inside.sent))) in
    subst (λ (b : Bool). (true ≡ true → b ≡ true) × (b ≡ true → true ≡ true)) (sym e) (λ x. x, λ x. x)

pub returns-then-greatest-self-clause-values : goal.returns-then-greatest-self-clause-values
returns-then-greatest-self-clause-values c = λ v past h.
    let P : Book → Type 0 = λ book. Keeps book v past in
    let inside : P (the_view c.self.inside) = subst P (sym c.self.view_is) h in
    let first = first_of c.args.h c.in-Some.first c.requires.whole c.in-Some.ensures.some in
    let high_is : to_z w64 c.self.inside.high ≡ pos (high_of past) = omega (arith, ints, inside.high) in
    let a : ℤ = near c.args.h.top (pos (high_of past)) 16384 in
    let top : c.near-top.result ≡ a = c.near-top.ensures ∙ ap (λ (r : ℤ). near c.args.h.top r 16384) high_is in
    let small : c.in-Some.first < 256 = c.in-Some.ensures.some.0 in
    let low : negsuc 8191 ≤ℤ c.near-top.result = rw top (near_low c.args.h.top (high_of past)) in
    let acked : c.near-top.result -ℤ pos c.in-Some.first ≡ to_z w64 (of_z w64 (to_z w64 (of_z w64 c.near-top.result) -ℤ to_z w64 c.in-Some.first)) = omega (arith, ints) in (
      ap (λ (zs : List ℤ). slice_get zs 0) (named_first (history_of (head_told c.args.h)) a c.in-Some.first first.low first.set)
          ∙ ap (λ (z : ℤ). Some (z -ℤ pos c.in-Some.first)) (sym top) ∙ ap Some acked,
      inside.sent,
    )

pub returns-then-greatest-self-2-clause-bad : goal.returns-then-greatest-self-2-clause-bad
returns-then-greatest-self-2-clause-bad c = λ v past h.
    let P : Book → Type 0 = λ book. Keeps book v past in
    let inside : P (the_view c.self.inside) = subst P (sym c.self.view_is) h in
    let first = first_of c.args.h c.in-Some.first c.requires.whole c.in-Some.ensures.some in
    let high_is : to_z w64 c.self.inside.high ≡ pos (high_of past) = omega (arith, ints, inside.high) in
    let top : c.near-top.result ≡ near c.args.h.top (pos (high_of past)) 16384 = c.near-top.ensures ∙ ap (λ (r : ℤ). near c.args.h.top r 16384) high_is in
    let small : c.in-Some.first < 256 = c.in-Some.ensures.some.0 in
    let low : negsuc 8191 ≤ℤ c.near-top.result = rw top (near_low c.args.h.top (high_of past)) in
    let e = names_sent past (head_told c.args.h) c.in-Some.first first (rw (← top) (omega (arith, ints, inside.sent))) in
    subst (λ (b : Bool). (false ≡ true → b ≡ true) × (b ≡ true → false ≡ true)) (sym e) (λ x. x, λ x. x)

pub returns-then-greatest-self-2-clause-keeps : goal.returns-then-greatest-self-2-clause-keeps
returns-then-greatest-self-2-clause-keeps c = λ v past m entries handed h.
    let P : Book → Type 0 = λ book. Keeps book v (Took m entries handed ∷ past) in
    let inside : P (the_view c.self.inside) = subst P (sym c.self.view_is) h in
    let Q : Book → Type 0 = λ book. Keeps book v (Took m (Told (head_told c.args.h) ∷ entries) handed ∷ past) in
    let first = first_of c.args.h c.in-Some.first c.requires.whole c.in-Some.ensures.some in
    let high_is : to_z w64 c.self.inside.high ≡ pos c.self.inside.high = omega (arith, ints) in
    let top : c.near-top.result ≡ near c.args.h.top (pos c.self.inside.high) 16384 = c.near-top.ensures ∙ ap (λ (r : ℤ). near c.args.h.top r 16384) high_is in
    let small : c.in-Some.first < 256 = c.in-Some.ensures.some.0 in
    let low : negsuc 8191 ≤ℤ c.near-top.result = rw top (near_low c.args.h.top c.self.inside.high) in
    subst Q c.self.view_is
    (stale_keeps (the_view c.self.inside) v past m entries handed (head_told c.args.h) c.in-Some.first inside first (rw (← top) (omega (arith, ints))))

pub returns-clause-bad : goal.returns-clause-bad
returns-clause-bad c = λ v past h.
    let P : Book → Type 0 = λ book. Keeps book v past in
    let inside : P (the_view c.self.inside) = subst P (sym c.self.view_is) h in
    let first = first_of c.args.h c.in-Some.first c.requires.whole c.in-Some.ensures.some in
    let high_is : to_z w64 c.self.inside.high ≡ pos (high_of past) = omega (arith, ints, inside.high) in
    let top : c.near-top.result ≡ near c.args.h.top (pos (high_of past)) 16384 = c.near-top.ensures ∙ ap (λ (r : ℤ). near c.args.h.top r 16384) high_is in
    let small : c.in-Some.first < 256 = c.in-Some.ensures.some.0 in
    let low : negsuc 8191 ≤ℤ c.near-top.result = rw top (near_low c.args.h.top (high_of past)) in
    let e = names_sent past (head_told c.args.h) c.in-Some.first first (rw (← top) (omega (arith, ints, inside.sent))) in
    subst (λ (b : Bool). (false ≡ true → b ≡ true) × (b ≡ true → false ≡ true)) (sym e) (λ x. x, λ x. x)

pub returns-clause-keeps : goal.returns-clause-keeps
returns-clause-keeps c = λ v past m entries handed h.
    let P : Book → Type 0 = λ book. Keeps book v (Took m entries handed ∷ past) in
    let inside : P (the_view c.self.inside) = subst P (sym c.self.view_is) h in
    let first = first_of c.args.h c.in-Some.first c.requires.whole c.in-Some.ensures.some in
    let to : ℕ = nat_abs (to_z w64 (of_z w64 (to_z w64 (of_z w64 c.near-top.result) -ℤ to_z w64 c.in-Some.first))) in
    let high_is : to_z w64 c.self.inside.high ≡ pos c.self.inside.high = omega (arith, ints) in
    let top : c.near-top.result ≡ near c.args.h.top (pos c.self.inside.high) 16384 = c.near-top.ensures ∙ ap (λ (r : ℤ). near c.args.h.top r 16384) high_is in
    let small : c.in-Some.first < 256 = c.in-Some.ensures.some.0 in
    let low : negsuc 8191 ≤ℤ c.near-top.result = rw top (near_low c.args.h.top c.self.inside.high) in
    let reached : c.near-top.result ≡ pos (to + c.in-Some.first) = omega (arith, ints) in
    let marks = c.mark_named.ensures in
    held_keeps _ v _ _
    (told_keeps (the_view c.self.inside) v past m entries handed (head_told c.args.h) c.in-Some.first to c.index.result.now c.mark_named.new.ring.items inside first
    (omega (arith, ints)) (omega (arith, ints)) (sym top ∙ reached)
    (get_or_read_under c.self.inside.told.items _ c.self.inside.told.len _ 0 c.index.ensures (omega arith) (omega (arith, c.self.inside.told.ok.0)))
    (λ n above low close. marks.named n above low close ∙ sym (told_bits c.args.h (c.in-Some.first + (to - n)) c.requires.whole))
    marks.kept)

use Rattle.std.proofs.Common.{◌≡◌, ◌∷◌, [], ℕ, subst, arith}
use Rattle.connection_model.specs.Feed.{Ticked, Sent}
use Rattle.connection_model.specs.Fates.{last_sent, high_of}
use Rattle.ack_book.specs.Keeps.{Keeps}
use Rattle.link_end.proofs.begin.tell_tick.Goals as goal

pub sent-requires-clause-room : goal.sent-requires-clause-room
sent-requires-clause-room c =
    let r = c.requires.free in
    let k = c.clear_owed.ensures.keeps r.0 r.1 0 [] r.2 in
    let sent : c.clear_owed.new.self.last_sent ≡ last_sent r.1 = k.sent in
    let high : c.clear_owed.new.self.high ≡ high_of r.1 = k.high in
    omega (arith, sent, high, r.3)

pub sent-requires-clause-numbers : goal.sent-requires-clause-numbers
sent-requires-clause-numbers c =
    let r = c.requires.free in
    let k = c.clear_owed.ensures.keeps r.0 r.1 0 [] r.2 in
    let sent : c.clear_owed.new.self.last_sent ≡ last_sent r.1 = k.sent in
    omega (arith, sent, r.2.sent, c.requires.numbers)

pub returns-then-begins-clause-begun : goal.returns-then-begins-clause-begun
returns-then-begins-clause-begun c = λ e v past t sight k items h.
    let keeps = c.clear_owed.ensures.keeps v past t sight h in
    let P : ℕ → Type 0 = λ n. Keeps c.sent.new.self v (Sent n k items ∷ Ticked t sight ∷ past) in
    subst P (c.sent.ensures.number v (Ticked t sight ∷ past) keeps)
    (c.sent.ensures.keeps v (Ticked t sight ∷ past) k items keeps)

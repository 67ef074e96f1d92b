use Rattle.std.proofs.Common.{◌≡◌, ◌∙◌, ◌==◌, ℕ, Bool, Option, length, not, false, ap, sym, subst, arith}
use Rattle.link_end.specs.Link.{Link, Begun}
use Rattle.link_end.specs.Rests.{Rests}
use Rattle.link_end.specs.Begun.{all_bytes, with_asked}
use Rattle.link_end.specs.Packs.{Packs, sent_now}
use Rattle.connection_model.specs.Pack.{after_packing}
use Rattle.link_end.specs.contracts.link.LinkEnd.{the_view}
use Rattle.link_end.proofs.Live.{live}
use Rattle.link_end.proofs.Offers.{own_packets}
use Rattle.link_end.proofs.PacketSteps.{sent_count}
use Rattle.link_end.proofs.Ticks.{ends_rests, ends_sent, fate_free}
use Rattle.link_end.proofs.link.LinkEnd.end_tick.Goals as goal

pub end_packets-requires-clause-free : goal.end_packets-requires-clause-free
end_packets-requires-clause-free c = λ e.
    let r = live c.args.self.now c.requires (ap (λ (l : Link). l.spent) (sym c.self.view_is) ∙ c.if-self.false) in
    let P : Link → Type 0 = λ l. Packs l r.0 r.1 r.2 in
    fate_free (the_view c.self.inside) r.0 r.1 r.2 c.in-Some.packets c.asks_for_packet-asks.result
    (subst P (sym c.self.view_is) r.3)
    (sym c.take.ensures.value ∙ c.in-Some.is) e

pub end_packets-requires-clause-few : goal.end_packets-requires-clause-few
end_packets-requires-clause-few c =
    let r = live c.args.self.now c.requires (ap (λ (l : Link). l.spent) (sym c.self.view_is) ∙ c.if-self.false) in
    let P : Link → Type 0 = λ l. Packs l r.0 r.1 r.2 in
    let own = own_packets (the_view c.self.inside) r.0 r.1 r.2 c.in-Some.packets (subst P (sym c.self.view_is) r.3)
    (sym c.take.ensures.value ∙ c.in-Some.is) in
    omega (arith, own, c.unresolved-unresolved.ensures.kept, c.unresolved-unresolved.ensures.most)

pub returns-clause-sent : goal.returns-clause-sent
returns-clause-sent c = λ end before p h.
    let P : Link → Type 0 = λ l. Packs l end before p in
    let inside : P (the_view c.self.inside) = subst P (sym c.self.view_is) h in
    ends_sent (the_view c.self.inside) end before p c.in-Some.packets c.asks_for_packet-asks.result
    c.unresolved-unresolved.result _ inside
    (sym c.take.ensures.value ∙ c.in-Some.is) c.unresolved-unresolved.ensures.kept c.asks_for_packet-asks.ensures
    (c.in-Ok.ensures.sent end.version (sent_now p) inside.book)

pub returns-clause-stands : goal.returns-clause-stands
returns-clause-stands c = λ end before p h.
    let P : Link → Type 0 = λ l. Packs l end before p in
    let inside : P (the_view c.self.inside) = subst P (sym c.self.view_is) h in
    let asks : Bool = c.asks_for_packet-asks.result in
    let count : length c.in-Ok.sent
    ≡ length (all_bytes (with_asked end.version (sent_now p) asks c.in-Some.packets)) =
    sent_count c.in-Ok.sent c.in-Some.packets.first
    (all_bytes (with_asked end.version (sent_now p) asks c.in-Some.packets))
    (c.in-Ok.ensures.sent end.version (sent_now p) inside.book) in
    let Q : Option Begun → Type 0 = λ o. Rests (record (the_view c.self.inside) {
      book = c.end_packets.new.book;
      silent = c.silence_after-self-inside.result;
      heard = false;
      begun = o;
    }) end (after_packing end before p) in
    subst Q (sym c.take.ensures.after)
    (ends_rests (the_view c.self.inside) end before p c.in-Some.packets c.end_packets.new.book asks
    (not c.is_empty.result) c.silence_after-self-inside.result
    c.unresolved-unresolved.result inside (sym c.take.ensures.value
    ∙ c.in-Some.is) c.unresolved-unresolved.ensures.kept c.asks_for_packet-asks.ensures
    c.in-Ok.ensures.asked c.in-Ok.ensures.kept
    (ap not (c.is_empty.ensures ∙ ap (λ (n : ℕ). n == 0) count)) c.silence_after-self-inside.ensures)

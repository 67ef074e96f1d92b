use Rattle.std.proofs.Common.{◌≡◌, ℕ, ◌+◌, true, false, not, nat_lt, length, sym, ap, subst, ◌∙◌, arith, Some}
use Rattle.std.proofs.lemmas.Bool.{lt-ltb, le-ltb}
use Rattle.protocol_model.specs.Payload.{parts_of, part_count}
use Rattle.connection_model.specs.Bunches.{made_count, room, after_making}
use Rattle.connection_model.specs.Pack.{Packing}
use Rattle.packing_laws.specs.Beginning.{after_offers}
use Rattle.link_end.specs.Link.{Link}
use Rattle.link_end.specs.Packs.{sent_now}
use Rattle.bunch_packing.specs.Both.{PacksBoth}
use Rattle.bunch_packing.specs.Opens.{ArePartsOf, part_items}
use Rattle.bunch_packing.proofs.Offering.{same_full}
use Rattle.bunch_packing.proofs.Pushing.{room_now}
use Rattle.bunch_packing.proofs.Parts.{made_parts}
use Rattle.bunch_packing.proofs.Opening.{open_over, open_none, open_made, both_full}
use Rattle.bunch_packing.proofs.opens.offer_open.Goals as goal

pub returns-then-count-room-clause-packs : goal.returns-then-count-room-clause-packs
returns-then-count-room-clause-packs c = λ end side before p message h low o.
    let room_is : c.room.result ≡ room p.past c.args.channel =
    c.room.ensures side (sent_now p) h.table
    ∙ room_now c.args.link.now c.args.table.now end side before p c.args.channel h in
    let count_is : c.parts-count.result ≡ parts_of message =
    c.parts-count.ensures ∙ ap part_count (c.len.ensures ∙ ap length (sym o.bits)) in
    let over : nat_lt (room p.past c.args.channel) (parts_of message) ≡ true =
    lt-ltb (room p.past c.args.channel) (parts_of message) (omega (arith, c.if-count-room.true, room_is, count_is)) in
    let is = open_over end p c.args.channel message over in
    subst (PacksBoth c.args.link.now c.args.table.now end side before) (sym is.0) h

pub returns-then-count-room-clause-ready : goal.returns-then-count-room-clause-ready
returns-then-count-room-clause-ready c = λ end side before p message h low o.
    let room_is : c.room.result ≡ room p.past c.args.channel =
    c.room.ensures side (sent_now p) h.table
    ∙ room_now c.args.link.now c.args.table.now end side before p c.args.channel h in
    let count_is : c.parts-count.result ≡ parts_of message =
    c.parts-count.ensures ∙ ap part_count (c.len.ensures ∙ ap length (sym o.bits)) in
    let over : nat_lt (room p.past c.args.channel) (parts_of message) ≡ true =
    lt-ltb (room p.past c.args.channel) (parts_of message) (omega (arith, c.if-count-room.true, room_is, count_is)) in
    let is = open_over end p c.args.channel message over in
    let r = c.requires.packing in
    ap not (sym (ap (λ (q : Packing). q.full) is.0
    ∙ same_full c.args.link.now r.0 end r.2 before r.3 p r.4.link h.link r.5))

pub returns-then-count-room-clause-first : goal.returns-then-count-room-clause-first
returns-then-count-room-clause-first c = λ end side before p message h o.
    let room_is : c.room.result ≡ room p.past c.args.channel =
    c.room.ensures side (sent_now p) h.table
    ∙ room_now c.args.link.now c.args.table.now end side before p c.args.channel h in
    let count_is : c.parts-count.result ≡ parts_of message =
    c.parts-count.ensures ∙ ap part_count (c.len.ensures ∙ ap length (sym o.bits)) in
    let over : nat_lt (room p.past c.args.channel) (parts_of message) ≡ true =
    lt-ltb (room p.past c.args.channel) (parts_of message) (omega (arith, c.if-count-room.true, room_is, count_is)) in
    let is = open_over end p c.args.channel message over in
    sym is.1

pub returns-then-not-branch-clause-packs : goal.returns-then-not-branch-clause-packs
returns-then-not-branch-clause-packs c = λ end side before p message h low o.
    let room_is : c.room.result ≡ room p.past c.args.channel =
    c.room.ensures side (sent_now p) h.table
    ∙ room_now c.args.link.now c.args.table.now end side before p c.args.channel h in
    let count_is : c.parts-count.result ≡ parts_of message =
    c.parts-count.ensures ∙ ap part_count (c.len.ensures ∙ ap length (sym o.bits)) in
    let under : nat_lt (room p.past c.args.channel) (parts_of message) ≡ false =
    le-ltb (room p.past c.args.channel) (parts_of message) (omega (arith, c.if-count-room.false, room_is, count_is)) in
    let no = sym (c.in_ok-has_first_room.ensures.room end before p message
    (made_count p.past c.args.channel + 1) h.link o)
    ∙ c.if-not-branch.true in
    let is = open_none end p c.args.channel message under no in
    subst (PacksBoth c.has_first_room.new.link c.args.table.now end side before) (sym is.0)
    (both_full c.args.link.now c.has_first_room.new.link c.args.table.now end side before p h
    (c.in_ok-has_first_room.ensures.full c.if-not-branch.true end before p h.link))

pub returns-then-not-branch-clause-ready : goal.returns-then-not-branch-clause-ready
returns-then-not-branch-clause-ready c = λ end side before p message h low o.
    let room_is : c.room.result ≡ room p.past c.args.channel =
    c.room.ensures side (sent_now p) h.table
    ∙ room_now c.args.link.now c.args.table.now end side before p c.args.channel h in
    let count_is : c.parts-count.result ≡ parts_of message =
    c.parts-count.ensures ∙ ap part_count (c.len.ensures ∙ ap length (sym o.bits)) in
    let under : nat_lt (room p.past c.args.channel) (parts_of message) ≡ false =
    le-ltb (room p.past c.args.channel) (parts_of message) (omega (arith, c.if-count-room.false, room_is, count_is)) in
    let no = sym (c.in_ok-has_first_room.ensures.room end before p message
    (made_count p.past c.args.channel + 1) h.link o)
    ∙ c.if-not-branch.true in
    let is = open_none end p c.args.channel message under no in
    ap not (sym (ap (λ (q : Packing). q.full) is.0))

pub returns-then-not-branch-clause-first : goal.returns-then-not-branch-clause-first
returns-then-not-branch-clause-first c = λ end side before p message h o.
    let room_is : c.room.result ≡ room p.past c.args.channel =
    c.room.ensures side (sent_now p) h.table
    ∙ room_now c.args.link.now c.args.table.now end side before p c.args.channel h in
    let count_is : c.parts-count.result ≡ parts_of message =
    c.parts-count.ensures ∙ ap part_count (c.len.ensures ∙ ap length (sym o.bits)) in
    let under : nat_lt (room p.past c.args.channel) (parts_of message) ≡ false =
    le-ltb (room p.past c.args.channel) (parts_of message) (omega (arith, c.if-count-room.false, room_is, count_is)) in
    let no = sym (c.in_ok-has_first_room.ensures.room end before p message
    (made_count p.past c.args.channel + 1) h.link o)
    ∙ c.if-not-branch.true in
    let is = open_none end p c.args.channel message under no in
    sym is.1

pub push-requires-clause-room : goal.push-requires-clause-room
push-requires-clause-room c =
    let r = c.requires.packing in
    let end = r.0 in
    let side = r.1 in
    let before = r.2 in
    let p = r.3 in
    let h = r.4 in
    let message = c.requires.open.0 in
    let o = c.requires.open.1 in
    let room_is : c.room.result ≡ room p.past c.args.channel =
    c.room.ensures side (sent_now p) h.table
    ∙ room_now c.args.link.now c.args.table.now end side before p c.args.channel h in
    let count_is : c.parts-count.result ≡ parts_of message =
    c.parts-count.ensures ∙ ap part_count (c.len.ensures ∙ ap length (sym o.bits)) in (
      c.args.link.now,
      r.0,
      r.1,
      r.2,
      r.3,
      r.4,
      r.6,
      omega (arith, c.if-count-room.false, room_is, count_is, ap (λ bits. part_count (length bits)) o.bits),
    )

pub offer_parts-requires : goal.offer_parts-requires
offer_parts-requires c =
    let r = c.requires.packing in
    let end = r.0 in
    let side = r.1 in
    let before = r.2 in
    let p = r.3 in
    let h = r.4 in
    let low = r.6 in
    let message = c.requires.open.0 in
    let o = c.requires.open.1 in
    let room_is : c.room.result ≡ room p.past c.args.channel =
    c.room.ensures side (sent_now p) h.table
    ∙ room_now c.args.link.now c.args.table.now end side before p c.args.channel h in
    let count_is : c.parts-count.result ≡ parts_of message =
    c.parts-count.ensures ∙ ap part_count (c.len.ensures ∙ ap length (sym o.bits)) in
    let number : c.in-Ok.first ≡ made_count p.past c.args.channel + 1 =
    c.in-Ok.ensures.number c.args.link.now end side before p h in
    let with : Packing = record p { past = after_making p.past c.args.channel message } in
    let both : PacksBoth c.has_first_room.new.link c.push.new.table end side before with =
    subst (λ (l : Link). PacksBoth l c.push.new.table end side before with)
    (sym (c.in_ok-has_first_room.ensures.same c.if-not-branch.false))
    (c.in-Ok.ensures.packs c.args.link.now end side before p message h low o.bits (o.opens, o.names)) in
    let parts : ArePartsOf with c.args.channel c.in-Ok.first c.parts-count.result message =
    subst (λ (n : ℕ). ArePartsOf with c.args.channel n c.parts-count.result message) (sym number)
    (subst (λ (n : ℕ). ArePartsOf with c.args.channel (made_count p.past c.args.channel + 1) n message) (sym count_is)
    (made_parts c.args.link.now c.args.table.now end side before p c.args.channel message h)) in
    (end, side, before, with, message, both, r.5, parts)

pub returns-clause-packs : goal.returns-clause-packs
returns-clause-packs c = λ end side before p message h low o.
    let room_is : c.room.result ≡ room p.past c.args.channel =
    c.room.ensures side (sent_now p) h.table
    ∙ room_now c.args.link.now c.args.table.now end side before p c.args.channel h in
    let count_is : c.parts-count.result ≡ parts_of message =
    c.parts-count.ensures ∙ ap part_count (c.len.ensures ∙ ap length (sym o.bits)) in
    let under : nat_lt (room p.past c.args.channel) (parts_of message) ≡ false =
    le-ltb (room p.past c.args.channel) (parts_of message) (omega (arith, c.if-count-room.false, room_is, count_is)) in
    let yes = sym (c.in_ok-has_first_room.ensures.room end before p message
    (made_count p.past c.args.channel + 1) h.link o)
    ∙ c.if-not-branch.false in
    let is = open_made end p c.args.channel message under yes in
    let number : c.in-Ok.first ≡ made_count p.past c.args.channel + 1 =
    c.in-Ok.ensures.number c.args.link.now end side before p h in
    let with : Packing = record p { past = after_making p.past c.args.channel message } in
    let both : PacksBoth c.has_first_room.new.link c.push.new.table end side before with =
    subst (λ (l : Link). PacksBoth l c.push.new.table end side before with)
    (sym (c.in_ok-has_first_room.ensures.same c.if-not-branch.false))
    (c.in-Ok.ensures.packs c.args.link.now end side before p message h low o.bits (o.opens, o.names)) in
    let parts : ArePartsOf with c.args.channel c.in-Ok.first c.parts-count.result message =
    subst (λ (n : ℕ). ArePartsOf with c.args.channel n c.parts-count.result message) (sym number)
    (subst (λ (n : ℕ). ArePartsOf with c.args.channel (made_count p.past c.args.channel + 1) n message) (sym count_is)
    (made_parts c.args.link.now c.args.table.now end side before p c.args.channel message h)) in
    let items : part_items c.args.channel c.in-Ok.first message c.parts-count.result
    ≡ part_items c.args.channel (made_count p.past c.args.channel + 1) message (parts_of message) =
    ap (λ (n : ℕ). part_items c.args.channel n message c.parts-count.result) number
    ∙ ap (part_items c.args.channel (made_count p.past c.args.channel + 1) message) count_is in
    subst (PacksBoth c.offer_parts.new.link c.offer_parts.new.table end side before)
    (ap (after_offers end with) items ∙ sym is.0)
    (c.in_ok-ready.ensures.packs end side before with message both parts)

pub returns-clause-ready : goal.returns-clause-ready
returns-clause-ready c = λ end side before p message h low o.
    let room_is : c.room.result ≡ room p.past c.args.channel =
    c.room.ensures side (sent_now p) h.table
    ∙ room_now c.args.link.now c.args.table.now end side before p c.args.channel h in
    let count_is : c.parts-count.result ≡ parts_of message =
    c.parts-count.ensures ∙ ap part_count (c.len.ensures ∙ ap length (sym o.bits)) in
    let under : nat_lt (room p.past c.args.channel) (parts_of message) ≡ false =
    le-ltb (room p.past c.args.channel) (parts_of message) (omega (arith, c.if-count-room.false, room_is, count_is)) in
    let yes = sym (c.in_ok-has_first_room.ensures.room end before p message
    (made_count p.past c.args.channel + 1) h.link o)
    ∙ c.if-not-branch.false in
    let is = open_made end p c.args.channel message under yes in
    let number : c.in-Ok.first ≡ made_count p.past c.args.channel + 1 =
    c.in-Ok.ensures.number c.args.link.now end side before p h in
    let with : Packing = record p { past = after_making p.past c.args.channel message } in
    let both : PacksBoth c.has_first_room.new.link c.push.new.table end side before with =
    subst (λ (l : Link). PacksBoth l c.push.new.table end side before with)
    (sym (c.in_ok-has_first_room.ensures.same c.if-not-branch.false))
    (c.in-Ok.ensures.packs c.args.link.now end side before p message h low o.bits (o.opens, o.names)) in
    let parts : ArePartsOf with c.args.channel c.in-Ok.first c.parts-count.result message =
    subst (λ (n : ℕ). ArePartsOf with c.args.channel n c.parts-count.result message) (sym number)
    (subst (λ (n : ℕ). ArePartsOf with c.args.channel (made_count p.past c.args.channel + 1) n message) (sym count_is)
    (made_parts c.args.link.now c.args.table.now end side before p c.args.channel message h)) in
    let items : part_items c.args.channel c.in-Ok.first message c.parts-count.result
    ≡ part_items c.args.channel (made_count p.past c.args.channel + 1) message (parts_of message) =
    ap (λ (n : ℕ). part_items c.args.channel n message c.parts-count.result) number
    ∙ ap (part_items c.args.channel (made_count p.past c.args.channel + 1) message) count_is in
    c.in_ok-ready.ensures.ready end side before with message both parts
    ∙ ap (λ (q : Packing). not q.full) (ap (after_offers end with) items ∙ sym is.0)

pub returns-clause-first : goal.returns-clause-first
returns-clause-first c = λ end side before p message h o.
    let room_is : c.room.result ≡ room p.past c.args.channel =
    c.room.ensures side (sent_now p) h.table
    ∙ room_now c.args.link.now c.args.table.now end side before p c.args.channel h in
    let count_is : c.parts-count.result ≡ parts_of message =
    c.parts-count.ensures ∙ ap part_count (c.len.ensures ∙ ap length (sym o.bits)) in
    let under : nat_lt (room p.past c.args.channel) (parts_of message) ≡ false =
    le-ltb (room p.past c.args.channel) (parts_of message) (omega (arith, c.if-count-room.false, room_is, count_is)) in
    let yes = sym (c.in_ok-has_first_room.ensures.room end before p message
    (made_count p.past c.args.channel + 1) h.link o)
    ∙ c.if-not-branch.false in
    let is = open_made end p c.args.channel message under yes in
    let number : c.in-Ok.first ≡ made_count p.past c.args.channel + 1 =
    c.in-Ok.ensures.number c.args.link.now end side before p h in
    ap (λ (n : ℕ). Some n) number ∙ sym is.1

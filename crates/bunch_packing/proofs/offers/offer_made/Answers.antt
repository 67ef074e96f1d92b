use Rattle.std.proofs.Common.{inl, inr, refl, sym, ap, subst, ◌∙◌}
use Rattle.std.proofs.lemmas.Bool.{false≢true}
use Rattle.connection_model.specs.Feed.{Carries}
use Rattle.connection_model.specs.Pack.{rec_of}
use Rattle.packet_codec.specs.Values.{bunch_of}
use Rattle.link_end.specs.Packs.{sent_now}
use Rattle.bunch_packing.specs.Both.{PacksBoth}
use Rattle.bunch_packing.proofs.Offering.{same_full}
use Rattle.bunch_packing.proofs.Carrying.{owed, given, given_packable, is_item, had_none, had_room, may_tell, made_packs, made_full, not_spent}
use Rattle.bunch_packing.proofs.offers.offer_made.Goals as goal

pub returns-in_default-clause-spent : goal.returns-in_default-clause-spent
returns-in_default-clause-spent c = elim c.requires [
  | inl s ↦ s
  | inr r ↦ absurd (
      let o = owed c.args.link.now c.args.table.now r.0 r.1 r.2 r.3 c.args.channel c.args.n r.4 r.6 in
      let e = c.in_default.ensures r.1 (sent_now r.3) r.4.table ∙ o.kept in
      cc)
]

pub offer-requires : goal.offer-requires
offer-requires c = record {
  begun = elim c.requires [
    | inl s ↦ inl s
    | inr r ↦ inr (
      r.0,
      r.2,
      r.3,
      r.4.link,
      r.5,
      given_packable c.args.link.now c.args.table.now r.0 r.1 r.2 r.3 c.args.channel c.args.n (bunch_of c.in-Some.bunch)
          r.4 r.6 (c.in-Some.ensures r.1 (sent_now r.3) r.4.table),
    )
  ];
}

pub returns-in_default-2-clause-room : goal.returns-in_default-2-clause-room
returns-in_default-2-clause-room c = λ end side before p item h o e.
    let made = given c.args.link.now c.args.table.now end side before p c.args.channel c.args.n
    (bunch_of c.in-Some.bunch) h o
    (c.in-Some.ensures side (sent_now p) h.table) in
    let is = is_item p.past c.args.channel c.args.n (bunch_of c.in-Some.bunch) item made e in
    sym (had_none end p item (sym c.in_default-2.is ∙ c.in_ok-packet.ensures.packet end before p item h.link
    (ap rec_of (sym is))))

pub returns-in_default-2-clause-packs : goal.returns-in_default-2-clause-packs
returns-in_default-2-clause-packs c = λ end side before p item h o e.
    let r = not_spent c.args.link.now end before p h.link c.requires in
    let made = given c.args.link.now c.args.table.now end side before p c.args.channel c.args.n
    (bunch_of c.in-Some.bunch) h o
    (c.in-Some.ensures side (sent_now p) h.table) in
    let is = ap rec_of (sym (is_item p.past c.args.channel c.args.n (bunch_of c.in-Some.bunch) item made e)) in
    made_full c.args.link.now c.offer.new.link c.args.table.now end side before p item h
    (same_full c.args.link.now r.0 end r.2 before r.3 p r.4.link h.link r.5)
    (sym c.in_default-2.is ∙ c.in_ok-packet.ensures.packet end before p item h.link is)
    (c.in_ok-packet.ensures.packs end before p item h.link is)

pub carried-requires-clause-due : goal.carried-requires-clause-due
carried-requires-clause-due c = elim c.requires [
  | inl s ↦ absurd (false≢true (c.in_ok-packet.ensures.after s))
  | inr r ↦ (
      let m = may_tell c.args.table.now r.0 r.1 r.3 (Carries c.args.channel c.args.n (bunch_of c.in-Some.bunch))
      r.4.link.high
      r.4.table r.5 c.in-Some-2.packet
      (sym c.in-Some-2.is ∙ c.in_ok-packet.ensures.packet r.0 r.2 r.3
      (Carries c.args.channel c.args.n (bunch_of c.in-Some.bunch)) r.4.link refl)
      c.args.channel c.args.n r.6 in
      (m.side, m.past, m.time, m.items, m.keeps, m.due, m.some, m.made))
]

pub carried-requires-clause-above : goal.carried-requires-clause-above
carried-requires-clause-above c = elim c.requires [
  | inl s ↦ absurd (false≢true (c.in_ok-packet.ensures.after s))
  | inr r ↦ (may_tell c.args.table.now r.0 r.1 r.3 (Carries c.args.channel c.args.n (bunch_of c.in-Some.bunch))
      r.4.link.high
      r.4.table r.5 c.in-Some-2.packet
      (sym c.in-Some-2.is ∙ c.in_ok-packet.ensures.packet r.0 r.2 r.3
      (Carries c.args.channel c.args.n (bunch_of c.in-Some.bunch)) r.4.link refl)
      c.args.channel c.args.n r.6).above
]

pub returns-clause-room : goal.returns-clause-room
returns-clause-room c = λ end side before p item h o e.
    let made = given c.args.link.now c.args.table.now end side before p c.args.channel c.args.n
    (bunch_of c.in-Some.bunch) h o
    (c.in-Some.ensures side (sent_now p) h.table) in
    let is = is_item p.past c.args.channel c.args.n (bunch_of c.in-Some.bunch) item made e in
    sym (had_room end p item c.in-Some-2.packet (sym c.in-Some-2.is
    ∙ c.in_ok-packet.ensures.packet end before p item h.link
    (ap rec_of (sym is)))).0

pub returns-clause-packs : goal.returns-clause-packs
returns-clause-packs c = λ end side before p item h o e.
    let r = not_spent c.args.link.now end before p h.link c.requires in
    let b = bunch_of c.in-Some.bunch in
    let made = given c.args.link.now c.args.table.now end side before p c.args.channel c.args.n b h o
    (c.in-Some.ensures side (sent_now p) h.table) in
    let is = is_item p.past c.args.channel c.args.n b item made e in
    subst (λ item. PacksBoth c.offer.new.link c.carried.new.self end side before
    (Rattle.connection_model.specs.Pack.after_offer end p item)) is
    (made_packs c.args.link.now c.offer.new.link c.args.table.now c.carried.new.self end side before p c.args.channel
    c.args.n
    c.in-Some-2.packet b h (same_full c.args.link.now r.0 end r.2 before r.3 p r.4.link h.link r.5) o
    (sym c.in-Some-2.is ∙ c.in_ok-packet.ensures.packet end before p (Carries c.args.channel c.args.n b) h.link refl)
    c.carried.ensures.keeps
    (c.in_ok-packet.ensures.packs end before p (Carries c.args.channel c.args.n b) h.link refl))

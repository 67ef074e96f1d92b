use Rattle.std.proofs.Common.{◌≡◌, inl, inr, List, Bool, refl, sym, ap, subst, ◌∙◌}
use Rattle.protocol_model.specs.Packet.{Bunch, Sends}
use Rattle.connection_model.specs.Items.{loose_item}
use Rattle.connection_model.specs.Pack.{rec_of}
use Rattle.bit_io.specs.Lent.{slice_bits}
use Rattle.link_end.specs.Begun.{IsPackable}
use Rattle.bunch_packing.specs.Both.{bare_bunch}
use Rattle.bunch_packing.proofs.Packable.{loose_packable}
use Rattle.bunch_packing.proofs.Offering.{same_full}
use Rattle.bunch_packing.proofs.Carrying.{not_spent, loose_packs}
use Rattle.bunch_packing.proofs.offers.offer_loose.Goals as goal

pub offer-requires : goal.offer-requires
offer-requires c = record {
  begun = elim c.requires.begun [
    | inl s ↦ inl s
    | inr r ↦ inr (
      r.1,
      r.3,
      r.4,
      r.5.link,
      r.6,
      subst (λ (b : Bunch). IsPackable r.1.version (Sends b)) (sym c.loose.ensures)
          (loose_packable r.1.version c.args.channel (slice_bits c.args.payload) r.7 c.requires.most),
    )
  ];
}

pub returns-clause-packs : goal.returns-clause-packs
returns-clause-packs c = λ t end side before p message h e.
    let r = not_spent c.args.link.now end before p h.link c.requires.begun in
    let is : rec_of (loose_item message c.args.channel) ≡ Sends _ =
    ap (λ (bits : List Bool). Sends (bare_bunch c.args.channel bits)) e
    ∙ ap (λ (b : Bunch). Sends b) (sym c.loose.ensures) in
    loose_packs c.args.link.now c.offer.new.link t end side before p (loose_item message c.args.channel)
    c.in_ok-packet.packet h (same_full c.args.link.now r.1 end r.3 before r.4 p r.5.link h.link r.6)
    (c.in_ok-packet.ensures.packet end before p (loose_item message c.args.channel) h.link is)
    (λ ch n. refl)
    (c.in_ok-packet.ensures.packs end before p (loose_item message c.args.channel) h.link is)

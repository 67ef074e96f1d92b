use Rattle.std.proofs.Common.{inr, ◌+◌, refl, sym, ap, subst, ◌∙◌}
use Rattle.protocol_model.specs.Payload.{part_at, part_count}
use Rattle.connection_model.specs.Feed.{Carries}
use Rattle.connection_model.specs.Pack.{Packing}
use Rattle.bit_io.specs.Lent.{bits_left, slice_bits}
use Rattle.link_end.specs.Packs.{Packs}
use Rattle.link_end.proofs.Offers.{offer_none}
use Rattle.bunch_packing.proofs.Offering.{same_full}
use Rattle.bunch_packing.proofs.FirstPart.{first_with, first_is, first_cut, first_packable, first_room}
use Rattle.bunch_packing.proofs.opens.has_first_room.Goals as goal

pub fits-requires : goal.fits-requires
fits-requires c =
    let r = c.requires.packing in
    let o = c.requires.open in
    let bits = first_cut c.args.payload.now (bits_left c.reader-reader.result) (slice_bits c.in-Ok.bits)
    (bits_left c.take.new.self) c.len.result c.cut-piece.result.end (c.reader-reader.ensures.left ∙ c.lend.ensures)
    c.len.ensures (ap (λ q. q.end) c.cut-piece.ensures) c.in-Ok.ensures.exact in
    let part = ap (λ q. q.part) c.cut-piece.ensures ∙ ap (λ k. part_at (part_count k) 0) c.len.ensures in
    record {
      begun =
          inr (
            r.0,
            r.1,
            r.2,
            r.3,
            first_packable r.0.version o.0 c.args.channel _ r.5
                (first_is o.0 c.args.channel c.args.exports c.args.payload.now
                (slice_bits c.in-Ok.bits) c.cut-piece.result.part 0
                c.requires.index o.1 part bits),
          );
    }

pub offer-requires : goal.offer-requires
offer-requires c =
    let r = c.requires.packing in
    let o = c.requires.open in
    let bits = first_cut c.args.payload.now (bits_left c.reader-reader.result) (slice_bits c.in-Ok.bits)
    (bits_left c.take.new.self) c.len.result c.cut-piece.result.end (c.reader-reader.ensures.left ∙ c.lend.ensures)
    c.len.ensures (ap (λ q. q.end) c.cut-piece.ensures) c.in-Ok.ensures.exact in
    let part = ap (λ q. q.part) c.cut-piece.ensures ∙ ap (λ k. part_at (part_count k) 0) c.len.ensures in
    record {
      begun =
          inr (
            r.0,
            r.1,
            r.2,
            r.3,
            r.4,
            first_packable r.0.version o.0 c.args.channel _ r.5
                (first_is o.0 c.args.channel c.args.exports c.args.payload.now
                (slice_bits c.in-Ok.bits) c.cut-piece.result.part 0
                c.requires.index o.1 part bits),
          );
    }

pub returns-then-fits-clause-room : goal.returns-then-fits-clause-room
returns-then-fits-clause-room c = λ end before p message number h o.
    let bits = first_cut c.args.payload.now (bits_left c.reader-reader.result) (slice_bits c.in-Ok.bits)
    (bits_left c.take.new.self) c.len.result c.cut-piece.result.end (c.reader-reader.ensures.left ∙ c.lend.ensures)
    c.len.ensures (ap (λ q. q.end) c.cut-piece.ensures) c.in-Ok.ensures.exact in
    let part = ap (λ q. q.part) c.cut-piece.ensures ∙ ap (λ k. part_at (part_count k) 0) c.len.ensures in
    let b = first_with c.args.channel c.args.exports c.cut-piece.result.part (slice_bits c.in-Ok.bits) in
    sym c.if-fits.true ∙ c.fits.ensures.room end before p (Carries c.args.channel number b) h refl
    ∙ sym (first_room end p message c.args.channel number b
    (first_is message c.args.channel c.args.exports c.args.payload.now (slice_bits c.in-Ok.bits) c.cut-piece.result.part
    (number + 0) c.requires.index o part bits))

pub returns-clause-room : goal.returns-clause-room
returns-clause-room c = λ end before p message number h o.
    let bits = first_cut c.args.payload.now (bits_left c.reader-reader.result) (slice_bits c.in-Ok.bits)
    (bits_left c.take.new.self) c.len.result c.cut-piece.result.end (c.reader-reader.ensures.left ∙ c.lend.ensures)
    c.len.ensures (ap (λ q. q.end) c.cut-piece.ensures) c.in-Ok.ensures.exact in
    let part = ap (λ q. q.part) c.cut-piece.ensures ∙ ap (λ k. part_at (part_count k) 0) c.len.ensures in
    let b = first_with c.args.channel c.args.exports c.cut-piece.result.part (slice_bits c.in-Ok.bits) in
    sym c.if-fits.false ∙ c.fits.ensures.room end before p (Carries c.args.channel number b) h refl
    ∙ sym (first_room end p message c.args.channel number b
    (first_is message c.args.channel c.args.exports c.args.payload.now (slice_bits c.in-Ok.bits) c.cut-piece.result.part
    (number + 0) c.requires.index o part bits))

pub returns-clause-full : goal.returns-clause-full
returns-clause-full c = λ no end before p h.
    let r = c.requires.packing in
    let b = first_with c.args.channel c.args.exports c.cut-piece.result.part (slice_bits c.in-Ok.bits) in
    let room = sym (c.fits.ensures.room end before p (Carries c.args.channel 0 b) h refl) ∙ c.if-fits.false in
    subst (λ (q : Packing). Packs c.offer.new.link end before q)
    (offer_none end p (Carries c.args.channel 0 b) (same_full c.args.link.now r.0 end r.1 before r.2 p r.3 h r.4) room)
    (c.in_ok-offer.ensures.packs end before p (Carries c.args.channel 0 b) h refl)

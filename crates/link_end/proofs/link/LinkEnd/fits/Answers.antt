use Rattle.std.proofs.Common.{◌∙◌, length, ap, sym, subst}
use Rattle.protocol_model.specs.declared.Version.{Version}
use Rattle.protocol_model.specs.Packet.{rec_bits}
use Rattle.connection_model.specs.Pack.{has_room}
use Rattle.packet_codec.specs.Values.{rec_of as rec_value}
use Rattle.link_end.specs.Link.{Link}
use Rattle.link_end.specs.Begun.{fits_after, may_with}
use Rattle.link_end.specs.Packs.{Packs}
use Rattle.link_end.specs.contracts.link.LinkEnd.{the_view}
use Rattle.link_end.proofs.Offers.{room_is, fits_then, fits_else}
use Rattle.link_end.proofs.link.LinkEnd.fits.Goals as goal

pub returns-then-fits-clause-room : goal.returns-then-fits-clause-room
returns-then-fits-clause-room c = λ end before p item h is.
    let P : Link → Type 0 = λ l. Packs l end before p in
    let inside : P (the_view c.self.inside) = subst P (sym c.self.view_is) h in
    let len = c.rec_len.ensures
    ∙ ap (λ (v : Version). length (rec_bits v (rec_value c.args.r.now))) (c.version.ensures
    ∙ inside.book.version) in
    fits_then c.fits.result (fits_after c.in-Some.packets.current c.rec_len.result)
    (may_with c.self.inside.budget c.self.inside.book c.in-Some.packets) (has_room end p item)
    c.fits.ensures c.if-fits.true
    (room_is (the_view c.self.inside) end before p item (rec_value c.args.r.now) c.in-Some.packets
    c.rec_len.result inside is c.in-Some.is len)

pub returns-else-fits-clause-room : goal.returns-else-fits-clause-room
returns-else-fits-clause-room c = λ end before p item h is.
    let P : Link → Type 0 = λ l. Packs l end before p in
    let inside : P (the_view c.self.inside) = subst P (sym c.self.view_is) h in
    let len = c.rec_len.ensures
    ∙ ap (λ (v : Version). length (rec_bits v (rec_value c.args.r.now))) (c.version.ensures
    ∙ inside.book.version) in
    fits_else c.may_begin.result c.fits.result (fits_after c.in-Some.packets.current c.rec_len.result)
    (may_with c.self.inside.budget c.self.inside.book c.in-Some.packets) (has_room end p item)
    c.fits.ensures c.if-fits.false c.may_begin.ensures
    (room_is (the_view c.self.inside) end before p item (rec_value c.args.r.now) c.in-Some.packets
    c.rec_len.result inside is c.in-Some.is len)

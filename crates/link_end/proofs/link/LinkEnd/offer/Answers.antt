use Rattle.std.proofs.Common.{◌≡◌, ◌∙◌, length, false, ap, sym, subst, refl, arith}
use Rattle.protocol_model.specs.declared.Version.{Version}
use Rattle.protocol_model.specs.Packet.{rec_bits}
use Rattle.packet_codec.specs.Values.{rec_of as rec_value}
use Rattle.link_end.specs.Link.{Link}
use Rattle.link_end.specs.Begun.{fits_after, with_bits}
use Rattle.link_end.specs.Packs.{Packs}
use Rattle.link_end.specs.contracts.link.LinkEnd.{the_view}
use Rattle.link_end.proofs.Live.{live}
use Rattle.link_end.proofs.Offers.{own_packets, offered, still_open, packs_number, had_room, refused}
use Rattle.link_end.proofs.link.LinkEnd.offer.Goals as goal

pub make_room-requires-clause-own : goal.make_room-requires-clause-own
make_room-requires-clause-own c =
    let r = live c.args.self.now c.requires.begun (ap (λ (l : Link). l.spent) (sym c.self.view_is)
    ∙ c.if-self.false) in
    let P : Link → Type 0 = λ l. Packs l r.0 r.1 r.2 in
    own_packets (the_view c.self.inside) r.0 r.1 r.2 c.in-Some.packets (subst P (sym c.self.view_is) r.3) c.in-Some.is

pub returns-in-Err-NoRoom-clause-no_room : goal.returns-in-Err-NoRoom-clause-no_room
returns-in-Err-NoRoom-clause-no_room c = λ end before p item h is e.
    let P : Link → Type 0 = λ l. Packs l end before p in
    let inside : P (the_view c.self.inside) = subst P (sym c.self.view_is) h in
    let told = rw c.in-Err-NoRoom.field-0-is at c.in-Err-NoRoom.ensures.no_room in
    let no = told refl in
    refused (the_view c.self.inside) end before p item (rec_value c.args.r.now) c.in-Some.packets
    c.make_room.new.packets c.make_room.new.book c.rec_len-bits.result inside is c.in-Some.is
    (c.rec_len-bits.ensures
    ∙ ap (λ (v : Version). length (rec_bits v (rec_value c.args.r.now))) (c.version-version.ensures
    ∙ inside.book.version))
    no.0 no.1 no.2 no.3

pub put-requires-clause-fits : goal.put-requires-clause-fits
put-requires-clause-fits c =
    let r = live c.args.self.now c.requires.begun (ap (λ (l : Link). l.spent) (sym c.self.view_is)
    ∙ c.if-self.false) in
    let P : Link → Type 0 = λ l. Packs l r.0 r.1 r.2 in
    let inside : P (the_view c.self.inside) = subst P (sym c.self.view_is) r.3 in
    let len = c.rec_len-bits.ensures
    ∙ ap (λ (v : Version). length (rec_bits v (rec_value c.args.r.now))) (c.version-version.ensures
    ∙ inside.book.version) in
    ap (fits_after c.make_room.new.packets.current) (sym c.rec_len-bits.ensures)
    ∙ c.in-Ok.ensures.room (omega (arith, len, r.5.1))

pub returns-clause-room : goal.returns-clause-room
returns-clause-room c = λ end before p item h is e.
    let P : Link → Type 0 = λ l. Packs l end before p in
    let inside : P (the_view c.self.inside) = subst P (sym c.self.view_is) h in
    had_room (the_view c.self.inside) end before p item (rec_value c.args.r.now) c.in-Some.packets
    c.rec_len-bits.result inside is c.in-Some.is
    (c.rec_len-bits.ensures
    ∙ ap (λ (v : Version). length (rec_bits v (rec_value c.args.r.now))) (c.version-version.ensures
    ∙ inside.book.version))
    c.in-Ok.ensures.may

pub returns-clause-stands : goal.returns-clause-stands
returns-clause-stands c = λ end before p item h is.
    let r = live c.args.self.now c.requires.begun (ap (λ (l : Link). l.spent) (sym c.self.view_is)
    ∙ c.if-self.false) in
    let P : Link → Type 0 = λ l. Packs l end before p in
    let Q : Link → Type 0 = λ l. Packs l r.0 r.1 r.2 in
    let inside : P (the_view c.self.inside) = subst P (sym c.self.view_is) h in
    let full : c.in-Some.packets.full ≡ false =
    still_open (the_view c.self.inside) r.0 r.1 r.2 c.in-Some.packets (subst Q (sym c.self.view_is) r.3)
    c.in-Some.is r.4 in
    let version : c.version-version.result ≡ end.version = c.version-version.ensures ∙ inside.book.version in
    offered (the_view c.self.inside) end before p item (rec_value c.args.r.now) c.in-Some.packets
    c.make_room.new.packets c.put.new.self c.make_room.new.book c.rec_len-bits.result
    inside full is c.in-Some.is (c.rec_len-bits.ensures
    ∙ ap (λ (v : Version). length (rec_bits v (rec_value c.args.r.now))) version)
    (λ e. ((c.in-Ok.ensures.fits e).1, (c.in-Ok.ensures.fits e).2)) c.in-Ok.ensures.may c.in-Ok.ensures.begun
    c.in-Ok.ensures.book
    (c.put.ensures ∙ ap (λ (v : Version). with_bits (rec_bits v (rec_value c.args.r.now)) c.make_room.new.packets)
    version)

pub returns-clause-number : goal.returns-clause-number
returns-clause-number c = λ end before p item h is.
    c.last_sent.ensures.kept ∙ packs_number _ end before p item (returns-clause-stands c end before p item h is)

use Rattle.std.proofs.Common.{◌≡◌, ◌∙◌, ◌<◌, ◌^◌, [], ap, sym, subst, refl, arith, false}
use Rattle.std.proofs.lemmas.List.Elements.{All-from_get_or}
use Rattle.protocol_model.specs.declared.Version.{Version}
use Rattle.protocol_model.specs.PacketReading.{packet_of}
use Rattle.packet_codec.specs.Values.{packet_value}
use Rattle.connection_model.specs.Fates.{is_new, top_of}
use Rattle.link_end.specs.Link.{Link}
use Rattle.link_end.specs.Rests.{Rests}
use Rattle.link_end.specs.Heard.{is_answered}
use Rattle.link_end.specs.contracts.link.LinkEnd.{the_view}
use Rattle.link_end.proofs.Live.{live}
use Rattle.link_end.proofs.Takes.{decoded, arrival_is, rests_taken, is_old, old_fits}
use Rattle.link_end.proofs.link.LinkEnd.take.Goals as goal

pub take_number-requires-clause-n_below : goal.take_number-requires-clause-n_below
take_number-requires-clause-n_below c =
    (decoded c.version.result c.version.result c.in-Ok.packet c.args.bytes.now
    (All-from_get_or (λ byte. byte < 256) c.args.bytes.now 0 (λ i lt. omega (arith, c.type_inv.bytes i)))
    c.in-Ok.ensures.exact refl).number

pub returns-in-Err-clause-answer : goal.returns-in-Err-clause-answer
returns-in-Err-clause-answer c = λ end past h.
    let r = live c.args.self.now c.requires (ap (λ (l : Link). l.spent) (sym c.self.view_is) ∙ c.if-self.false) in
    let P : Link → Type 0 = λ l. Rests l end past in
    let inside : P (the_view c.self.inside) = subst P (sym c.self.view_is) h in
    let small : top_of past < 2 ^ 61 =
    omega (arith, inside.book.top, c.top.ensures.kept, c.if-top-ge-LAST_NUMBER.false) in
    let old = c.in-Err.ensures.old end.version past inside.book in
    let stale : is_new past c.in-Ok.packet.number ≡ false =
    is_old (is_new past c.in-Ok.packet.number) (c.in-Err.ensures.taken end.version past inside.book).1 in (
      packet_value c.in-Ok.packet,
      ap (λ (v : Version). packet_of v c.args.bytes.now) (sym (c.version.ensures ∙ inside.book.version))
          ∙ c.in-Ok.ensures.exact,
      stale,
      old_fits past c.in-Ok.packet.number c.in-Err.old.number old.0 stale small,
      old.1,
    )

pub hear-requires-clause-stands : goal.hear-requires-clause-stands
hear-requires-clause-stands c =
    let r = live c.args.self.now c.requires (ap (λ (l : Link). l.spent) (sym c.self.view_is) ∙ c.if-self.false) in
    let P : Link → Type 0 = λ l. Rests l r.0 r.1 in
    let inside : P (the_view c.self.inside) = subst P (sym c.self.view_is) r.2 in
    let spelled = decoded r.0.version c.version.result c.in-Ok.packet c.args.bytes.now
    (All-from_get_or (λ byte. byte < 256) c.args.bytes.now 0 (λ i lt. omega (arith, c.type_inv.bytes i)))
    c.in-Ok.ensures.exact (c.version.ensures ∙ inside.book.version) in (
      r.0.version,
      r.1,
      c.in-Ok-take_number.number,
      [],
      c.in-Ok-take_number.ensures.keeps r.0.version r.1 inside.book,
      spelled.head,
      spelled.recs,
    )

pub returns-clause-answer : goal.returns-clause-answer
returns-clause-answer c = λ end past h.
    let P : Link → Type 0 = λ l. Rests l end past in
    let inside : P (the_view c.self.inside) = subst P (sym c.self.view_is) h in
    let keeps = c.in-Ok-take_number.ensures.keeps end.version past inside.book in (
      packet_value c.in-Ok.packet,
      ap (λ (v : Version). packet_of v c.args.bytes.now) (sym (c.version.ensures ∙ inside.book.version))
          ∙ c.in-Ok.ensures.exact,
      (c.in-Ok-take_number.ensures.taken end.version past inside.book).0 refl,
      arrival_is c.hear.new.book c.take_number.new.self end past c.in-Ok.packet c.in-Ok-hear.arrival
          c.in-Ok-take_number.number keeps
          (c.in-Ok-take_number.ensures.number end.version past inside.book) c.in-Ok-hear.ensures.number
          (c.in-Ok-hear.ensures.heard end.version past c.in-Ok-take_number.number [] keeps),
    )

pub returns-clause-stands : goal.returns-clause-stands
returns-clause-stands c = λ end past p handed h e none.
    let P : Link → Type 0 = λ l. Rests l end past in
    let inside : P (the_view c.self.inside) = subst P (sym c.self.view_is) h in
    let version : c.version.result ≡ end.version = c.version.ensures ∙ inside.book.version in
    let keeps = c.in-Ok-take_number.ensures.keeps end.version past inside.book in
    rests_taken (the_view c.self.inside) c.hear.new.book c.take_number.new.self end past c.in-Ok.packet p
    c.args.bytes.now c.in-Ok-take_number.number c.in-Ok-hear.arrival.number
    handed _ _ c.in-Ok-hear.arrival.bad inside (ap (λ (v : Version). packet_of v c.args.bytes.now) (sym version)
    ∙ c.in-Ok.ensures.exact) e keeps
    (λ k. c.in-Ok-hear.ensures.heard end.version past c.in-Ok-take_number.number handed k) none
    c.in-Ok-hear.ensures.number
    (c.answers-self-inside.ensures ∙ ap is_answered (c.version-2.ensures ∙ keeps.version)) c.in-Ok-hear.ensures.order

use Rattle.std.proofs.Common.{◌≡◌, ℕ, ◌+◌, ◌∙◌, List, Bool, length, ap, sym, refl, subst, arith}
use Rattle.protocol_model.specs.Payload.{part_count, parts_of, message_bits}
use Rattle.outgoing_channels.specs.Slots.{ArePieces}
use Rattle.outgoing_channels.proofs.Pushed.{keeps_made}
use Rattle.outgoing_channels.proofs.Settled.{marks_made, bit_zero, bit_same, some_kept}
use Rattle.outgoing_channels.proofs.Views.{shown, as_shown, keeps_slot, fits_after, shown_other, makes_shown}
use Rattle.outgoing_channels.proofs.channels.OutgoingChannels.push.Goals as goal

pub make_on-requires-clause-fits : goal.make_on-requires-clause-fits
make_on-requires-clause-fits c = (c.self.inside.high, (c.self.invariant.2 c.args.channel).window)

pub make_on-requires-clause-room : goal.make_on-requires-clause-room
make_on-requires-clause-room c =
    let h = keeps_slot c.self.inside.slots.items c.self.inside.span_sum c.self.inside.high c.self.inside.count c.requires.room.0 c.args.channel (as_shown _ _ c.requires.room.0 c.self.view_is c.requires.room.1) in
    omega (arith, h.count, c.requires.room.2, ap part_count c.len-len.ensures, c.in_ok-first.ensures.count)

pub returns-clause-number : goal.returns-clause-number
returns-clause-number c = λ past h.
    c.in_ok-number.ensures.number
    ∙ (keeps_slot c.self.inside.slots.items c.self.inside.span_sum c.self.inside.high c.self.inside.count past c.args.channel (as_shown _ _ past c.self.view_is h)).next

pub invariant_of-self-2 : goal.invariant_of-self-2
invariant_of-self-2 c = (
  c.in_ok-number.ensures.slots,
  marks_made c.self.inside.active c.put.new.self c.self.inside.slots.items c.make_on.new.slots.items c.args.channel c.self.invariant.1 c.in_ok-number.ensures.others
      (λ k low ne. bit_zero k c.args.channel _ _ _ ne (c.put.ensures k))
      (bit_same c.args.channel _ _ _ (c.put.ensures c.args.channel)
      ∙ some_kept _ (λ z. absurd (omega (arith, (c.in_ok-number.ensures.makes c.args.payload (sym c.len-len.ensures) c.in_ok-first.ensures.pieces).count, c.in_ok-first.ensures.count)))),
  fits_after c.self.inside.high c.self.inside.count (c.self.inside.count + c.parts-count.result) c.self.inside.slots.items c.make_on.new.slots.items c.args.channel c.self.invariant.2 c.in_ok-number.ensures.others (omega arith)
      (let f = c.self.invariant.2 c.args.channel in record {
        least = omega (arith, c.in_ok-number.ensures.next, f.least);
        most = omega (arith, c.in_ok-number.ensures.next, f.most, c.parts-count.ensures);
        window = c.in_ok-number.ensures.fits c.self.inside.high f.window;
      }),
)

pub returns-clause-keeps : goal.returns-clause-keeps
returns-clause-keeps c = λ past message h said is.
    let shows = as_shown (shown c.self.inside.slots.items c.self.inside.span_sum c.self.inside.high c.self.inside.count) _ past c.self.view_is h in
    let here = keeps_slot c.self.inside.slots.items c.self.inside.span_sum c.self.inside.high c.self.inside.count past c.args.channel shows in
    let other = as_shown (shown c.self.inside.slots.items c.self.inside.span_sum c.self.inside.high c.self.inside.count) _ c.requires.room.0 c.self.view_is c.requires.room.1 in
    let there = keeps_slot c.self.inside.slots.items c.self.inside.span_sum c.self.inside.high c.self.inside.count c.requires.room.0 c.args.channel other in
    let parts : parts_of message ≡ part_count (length c.args.payload) = ap (λ (p : List Bool). part_count (length p)) said in
    let counted : c.parts-count.result ≡ parts_of message = c.parts-count.ensures ∙ ap part_count c.len-len.ensures ∙ sym parts in
    keeps_made (shown c.self.inside.slots.items c.self.inside.span_sum c.self.inside.high c.self.inside.count) _ past c.args.channel c.args.mark message shows is
    (omega (arith, parts, c.requires.room.2, here.count, there.count, shows.span_sum, other.span_sum))
    (makes_shown c.args.mark (message_bits message) c.self.inside.slots.items c.make_on.new.slots.items c.args.channel (c.in_ok-number.ensures.makes (message_bits message) (ap length said ∙ sym c.len-len.ensures)
    (subst (λ (p : List Bool). ArePieces p c.in_ok-first.first c.in_ok-first.rest.items) (sym said) c.in_ok-first.ensures.pieces)))
    (shown_other c.self.inside.slots.items c.make_on.new.slots.items c.args.channel c.in_ok-number.ensures.others)
    (ap (λ (k : ℕ). c.self.inside.span_sum + k) counted) refl

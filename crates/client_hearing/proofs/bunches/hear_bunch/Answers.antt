use Rattle.std.proofs.Common.{◌∙◌, sym, ap, subst}
use Rattle.protocol_model.specs.Side.{AtClient}
use Rattle.packet_codec.specs.Values.{bunch_of}
use Rattle.receiving_laws.specs.Holders.{is_copied_on}
use Rattle.receiving_laws.specs.Receiving.{raws_heard}
use Rattle.incoming_channels.specs.Messages.{AreRaws}
use Rattle.outgoing_channels.specs.Made.{Made}
use Rattle.client_hearing.specs.declared.halt.Halt.{Halt}
use Rattle.client_hearing.specs.Moments.{past_at}
use Rattle.client_hearing.specs.Hearing.{IsBunchHeard}
use Rattle.client_hearing.proofs.Bunching.{bunch_comes, bunch_ok, bunch_ends, bunch_stops, count_stays}
use Rattle.client_hearing.proofs.Turns.{carried}
use Rattle.client_hearing.proofs.bunches.hear_bunch.Goals as goal

pub returns-in_err-delivered-clause-heard : goal.returns-in_err-delivered-clause-heard
returns-in_err-delivered-clause-heard c = λ version w h fit.
    carried (IsBunchHeard c.args.classes.now version c.receive.new.self c.args.names.now c.args.copies.now
    c.args.calls.now.items w (bunch_of c.args.b.now)) c.from_residual.result Halt.Memory
    c.from_residual.ensures.1 tt

pub returns-in_err-delivered-clause-count : goal.returns-in_err-delivered-clause-count
returns-in_err-delivered-clause-count c =
    ap (λ (m : Made). m.count) c.receive.ensures.made

pub hear_payloads-requires : goal.hear_payloads-requires
hear_payloads-requires c =
    let r = c.requires in
    let b = bunch_of c.args.b.now in
    let past = past_at r.1 in (
      r.0,
      r.1,
      b.channel,
      is_copied_on past b.channel,
      (raws_heard AtClient past b).whole,
      bunch_comes c.args.classes.now r.0 c.args.table.now c.receive.new.self.bound c.args.names.now
          c.args.copies.now c.args.calls.now.items r.1 b c.as_slice-whole.result.now c.receive.ensures.bound r.2 r.3
          (subst (AreRaws (raws_heard AtClient past b).whole) (sym c.as_slice-whole.ensures)
          (c.in_ok-delivered.ensures.whole AtClient past r.2.keeps.channels.bunches)),
    )

pub returns-in_err-hear_payloads-clause-heard : goal.returns-in_err-hear_payloads-clause-heard
returns-in_err-hear_payloads-clause-heard c = λ version w h fit.
    let b = bunch_of c.args.b.now in
    let raws = raws_heard AtClient (past_at w) b in
    let coming = bunch_comes c.args.classes.now version c.args.table.now c.receive.new.self.bound
    c.args.names.now c.args.copies.now c.args.calls.now.items w b c.as_slice-whole.result.now
    c.receive.ensures.bound h fit
    (subst (AreRaws raws.whole) (sym c.as_slice-whole.ensures)
    (c.in_ok-delivered.ensures.whole AtClient (past_at w) h.keeps.channels.bunches)) in
    carried (IsBunchHeard c.args.classes.now version c.hear_payloads.new.table c.hear_payloads.new.names
    c.hear_payloads.new.copies c.hear_payloads.new.calls.items w b)
    c.from_residual-in_err-hear_payloads.result
    c.in_err-hear_payloads.field-0.0 c.from_residual-in_err-hear_payloads.ensures.1
    (bunch_stops c.args.classes.now version c.args.table.now c.hear_payloads.new.table c.args.names.now
    c.hear_payloads.new.names c.args.copies.now c.hear_payloads.new.copies c.args.calls.now.items
    c.hear_payloads.new.calls.items w b c.in_err-hear_payloads.field-0.0 h fit
    (c.in_err-hear_payloads.ensures.heard version w b.channel (is_copied_on (past_at w) b.channel)
    raws.whole coming))

pub returns-in_err-hear_payloads-clause-count : goal.returns-in_err-hear_payloads-clause-count
returns-in_err-hear_payloads-clause-count c =
    count_stays c.args.table.now c.receive.new.self c.hear_payloads.new.table c.receive.ensures.made
    c.in_err-hear_payloads.ensures.rest

pub returns-in-Some-clause-heard : goal.returns-in-Some-clause-heard
returns-in-Some-clause-heard c = λ version w h fit.
    let b = bunch_of c.args.b.now in
    let raws = raws_heard AtClient (past_at w) b in
    let coming = bunch_comes c.args.classes.now version c.args.table.now c.receive.new.self.bound
    c.args.names.now c.args.copies.now c.args.calls.now.items w b c.as_slice-whole.result.now
    c.receive.ensures.bound h fit
    (subst (AreRaws raws.whole) (sym c.as_slice-whole.ensures)
    (c.in_ok-delivered.ensures.whole AtClient (past_at w) h.keeps.channels.bunches)) in
    bunch_ends c.args.classes.now version c.args.table.now c.hear_payloads.new.table c.args.names.now
    c.hear_payloads.new.names c.args.copies.now c.hear_payloads.new.copies c.args.calls.now.items
    c.hear_payloads.new.calls.items w b c.in-Some.cause h fit
    (sym (c.in_ok-delivered.ensures.cause AtClient (past_at w) h.keeps.channels.bunches) ∙ c.in-Some.is)
    (c.in_ok-hear_payloads.ensures.heard version w b.channel (is_copied_on (past_at w) b.channel)
    raws.whole coming)

pub returns-in-Some-clause-count : goal.returns-in-Some-clause-count
returns-in-Some-clause-count c =
    count_stays c.args.table.now c.receive.new.self c.hear_payloads.new.table c.receive.ensures.made
    c.in_ok-hear_payloads.ensures.rest

pub returns-clause-heard : goal.returns-clause-heard
returns-clause-heard c = λ version w h fit.
    let b = bunch_of c.args.b.now in
    let raws = raws_heard AtClient (past_at w) b in
    let bunches = h.keeps.channels.bunches in
    let coming = bunch_comes c.args.classes.now version c.args.table.now c.receive.new.self.bound
    c.args.names.now c.args.copies.now c.args.calls.now.items w b c.as_slice-whole.result.now
    c.receive.ensures.bound h fit
    (subst (AreRaws raws.whole) (sym c.as_slice-whole.ensures)
    (c.in_ok-delivered.ensures.whole AtClient (past_at w) bunches)) in
    bunch_ok c.args.classes.now version c.args.table.now c.receive.new.self c.hear_payloads.new.table
    c.args.names.now c.hear_payloads.new.names c.args.copies.now c.hear_payloads.new.copies
    c.args.calls.now.items c.hear_payloads.new.calls.items w b h fit
    (sym (c.in_ok-delivered.ensures.cause AtClient (past_at w) bunches) ∙ c.in_default.is)
    (c.in_ok-hear_payloads.ensures.heard version w b.channel (is_copied_on (past_at w) b.channel)
    raws.whole coming)
    c.receive.ensures.waiting c.in_ok-hear_payloads.ensures.rest
    (λ payloads read. c.in_ok-delivered.ensures.keeps AtClient w.taking.before w.taking.number w.entries
    w.handed payloads bunches c.in_default.is read)

pub returns-clause-count : goal.returns-clause-count
returns-clause-count c =
    count_stays c.args.table.now c.receive.new.self c.hear_payloads.new.table c.receive.ensures.made
    c.in_ok-hear_payloads.ensures.rest

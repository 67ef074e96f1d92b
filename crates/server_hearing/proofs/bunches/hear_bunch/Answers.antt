use Rattle.std.proofs.Common.{◌≡◌, List, Option, sym, subst, ◌∙◌, ap}
use Rattle.protocol_model.specs.Side.{Side, AtServer}
use Rattle.protocol_model.specs.declared.Cause.{Cause}
use Rattle.connection_model.specs.Verdict.{bunch_heard}
use Rattle.packet_codec.specs.Values.{bunch_of}
use Rattle.receiving_laws.specs.Receiving.{raws_heard, read_raws}
use Rattle.receiving_laws.proofs.Reading.{heard_is_read}
use Rattle.incoming_channels.specs.Messages.{AreRaws}
use Rattle.incoming_channels.specs.declared.message.Message.{Message}
use Rattle.hearing_laws.specs.Courses.{during}
use Rattle.hearing_laws.proofs.Calm.{payloads_plain}
use Rattle.sender_steps.proofs.Unseen.{alike_keeps}
use Rattle.server_hearing.specs.Payloads.{IsBunch}
use Rattle.server_hearing.proofs.Going.{Received, bunch_is, listens, read_at}
use Rattle.server_hearing.proofs.bunches.hear_bunch.Goals as goal

pub returns-clause-heard : goal.returns-clause-heard
returns-clause-heard c = λ k edits entries payloads samples h.
    let b = bunch_of c.args.bunch.now in
    let past = during k entries payloads in
    let raws = raws_heard AtServer past b in
    let got : Received c.args.sender.now c.args.table.now c.receive.new.self b c.in_ok-delivered.delivered.cause =
    record {
      told = λ past keeps. c.in_ok-delivered.ensures.cause AtServer past keeps;
      keeps = λ past m entries handed after keeps none read.
          c.in_ok-delivered.ensures.keeps AtServer past m entries handed after keeps none read;
      bound = c.receive.ensures.bound;
      waiting = c.receive.ensures.waiting;
      read = λ end past side. read_at end past b side;
      alike = λ one other samples alike keeps. alike_keeps c.args.sender.now one other samples alike keeps;
    } in
    subst (λ (broken : Option Cause). IsBunch c.args.world.now c.args.sender.now c.receive.new.self k edits
    c.args.player samples entries payloads b c.args.handed.now c.hear_payloads.new.handed broken)
    (sym c.first_of.ensures)
    (bunch_is c.args.world.now c.args.sender.now c.args.table.now c.receive.new.self k edits c.args.player samples
    entries payloads b c.args.handed.now c.hear_payloads.new.handed c.in_ok-broken.broken
    c.in_ok-delivered.delivered.cause got h
    (c.in_ok-broken.ensures k edits entries payloads samples raws.whole
    (listens c.args.world.now c.args.sender.now c.args.table.now c.receive.new.self k edits past samples h
    c.receive.ensures.bound)
    (subst (AreRaws raws.whole) (sym c.as_slice-messages.ensures)
    (c.in_ok-delivered.ensures.whole AtServer past h.both.table.bunches))
    (payloads_plain past b h.calm)))

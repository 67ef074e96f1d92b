use Rattle.std.proofs.Common.{◌≡◌, ◌++◌, List, drop, length, Option, Some, None, refl, sym, ap, ◌∙◌, subst, arith}
use Rattle.std.proofs.lemmas.Option.{slice_get_read}
use Rattle.protocol_model.specs.World.{Edits}
use Rattle.protocol_model.specs.declared.Cause.{Cause}
use Rattle.server_hearing.specs.Payloads.{IsPayload}
use Rattle.connection_model.specs.Feed.{Entry, Delivered}
use Rattle.receiving_laws.specs.Receiving.{Raw}
use Rattle.incoming_channels.specs.Messages.{AreRaws}
use Rattle.hearing_laws.specs.Courses.{Taking, during}
use Rattle.hearing_laws.specs.Plain.{BeginPlain}
use Rattle.server_hearing.proofs.Handing.{none_read, next_is, read_more, read_broken, none_left, read_all}
use Rattle.server_hearing.proofs.Going.{listens_on}
use Rattle.server_hearing.proofs.bunches.hear_payloads.Goals as goal

pub loop-message-init : goal.loop-message-init
loop-message-init c = λ k edits entries payloads samples raws h are plain.
    none_read k c.args.world.now.layout edits c.args.player entries payloads raws c.args.handed.now

pub returns-in-Some : goal.returns-in-Some
returns-in-Some c = λ k edits entries payloads samples raws h are plain.
    let r = c.loop-message.invariant k edits entries payloads samples raws h are plain in
    let n = next_is raws c.args.messages.now c.loop-message.message-index c.message-item.result are plain
    (slice_get_read c.args.messages.now (length c.args.messages.now) c.loop-message.message-index c.message-item.result
    refl c.loop-message-test.true c.message-item.is) in
    read_broken k c.args.world.now.layout edits c.args.player entries payloads raws c.loop-message.message-index
    c.message-item.result c.args.handed.now c.loop-message.handed c.hear_payload.new.handed c.in-Some.cause r n
    (subst (λ (o : Option Cause). IsPayload k.end c.args.world.now.layout edits c.args.player
    (during k entries (r.more ++ payloads)) n.raw c.loop-message.handed c.hear_payload.new.handed o) c.in-Some.is
    (c.in_ok-cause.ensures k.end edits (during k entries (r.more ++ payloads)) samples n.raw
    (listens_on c.args.world.now c.args.sender.now c.args.table.now k edits entries payloads (r.more ++ payloads)
    samples h) n.is n.plain))

pub loop-message-preserved : goal.loop-message-preserved
loop-message-preserved c = λ k edits entries payloads samples raws h are plain.
    let r = c.loop-message.invariant k edits entries payloads samples raws h are plain in
    let n = next_is raws c.args.messages.now c.loop-message.message-index c.message-item.result are plain
    (slice_get_read c.args.messages.now (length c.args.messages.now) c.loop-message.message-index c.message-item.result
    refl c.loop-message-test.true c.message-item.is) in
    read_more k c.args.world.now.layout edits c.args.player entries payloads raws c.loop-message.message-index
    c.message-item.result c.args.handed.now c.loop-message.handed c.hear_payload.new.handed r n
    (subst (λ (o : Option Cause). IsPayload k.end c.args.world.now.layout edits c.args.player
    (during k entries (r.more ++ payloads)) n.raw c.loop-message.handed c.hear_payload.new.handed o) c.in_default.is
    (c.in_ok-cause.ensures k.end edits (during k entries (r.more ++ payloads)) samples n.raw
    (listens_on c.args.world.now c.args.sender.now c.args.table.now k edits entries payloads (r.more ++ payloads)
    samples h) n.is n.plain))

pub returns : goal.returns
returns c = λ k edits entries payloads samples raws h are plain.
    read_all k c.args.world.now.layout edits c.args.player entries payloads raws c.loop-message.message-index
    c.args.handed.now c.loop-message.handed
    (c.loop-message.invariant k edits entries payloads samples raws h are plain)
    (none_left raws c.args.messages.now c.loop-message.message-index are (omega (arith, c.loop-message-test.false)))

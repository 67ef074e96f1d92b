use Rattle.std.proofs.Common.{◌≡◌, length, Ok, sym, ◌∙◌, subst}
use Rattle.protocol_model.specs.Value.{Class, goes_down}
use Rattle.connection_model.specs.PayloadReading.{call_at_end}
use Rattle.bit_io.specs.Lent.{bits_left}
use Rattle.class_layout.specs.Tables.{class_of}
use Rattle.payload_reading.specs.Values.{call_message}
use Rattle.payload_reading.proofs.Stops.{stops}
use Rattle.client_payloads.specs.Readings.{call_in}
use Rattle.client_payloads.specs.Messages.{call_payload}
use Rattle.client_payloads.proofs.PayloadSteps.{call_in_is, call_in_stop}
use Rattle.actor_copies.proofs.Following.{class_of_actor}
use Rattle.client_payloads.proofs.payloads.peer_call.Goals as goal

pub class_at-requires : goal.class_at-requires
class_at-requires c = class_of_actor (length c.args.classes.now.classes) c.args.copies.now c.in_ok-actor.actor
    c.in-Some.copy.now c.requires (sym c.in-Some.ensures)

pub returns-in_err-call : goal.returns-in_err-call
returns-in_err-call c =
    stops (call_message (class_of c.args.classes.now.segments c.class_at.result.now) c.in_ok-actor.actor)
    (call_at_end (class_of c.args.classes.now.segments c.class_at.result.now) c.in_ok-actor.actor goes_down
    c.args.reliable) c.actor.new.reader c.read_call.new.reader
    (call_payload c.args.classes.now) (call_in c.args.classes.now c.args.copies.now c.args.reliable)
    c.args.reader.now c.read_call.new.reader c.from_residual-in_err-call.result c.in_err-call.field-0.0
    c.from_residual-in_err-call.ensures.1
    (c.in_err-call.ensures c.args.classes.now.segments c.in_ok-actor.actor)
    (call_in_stop c.args.classes.now c.args.copies.now c.args.reliable (bits_left c.args.reader.now)
    (bits_left c.actor.new.reader) c.in_ok-actor.actor c.in-Some.copy.now
    (class_of c.args.classes.now.segments c.class_at.result.now) c.in_ok-actor.ensures c.in-Some.ensures
    c.class_at.ensures.class)

pub returns : goal.returns
returns c =
    call_in_is c.args.classes.now c.args.copies.now c.args.reliable (bits_left c.args.reader.now)
    (bits_left c.actor.new.reader) c.in_ok-actor.actor c.in-Some.copy.now c.in_ok-actor.ensures c.in-Some.ensures
    ∙ subst (λ (class : Class). call_at_end class c.in_ok-actor.actor goes_down c.args.reliable
    (bits_left c.actor.new.reader) ≡ Ok (
      call_message class c.in_ok-actor.actor c.in_ok-call.call,
      bits_left
          c.read_call.new.reader,
    )) c.class_at.ensures.class
    (c.in_ok-call.ensures c.args.classes.now.segments c.in_ok-actor.actor)

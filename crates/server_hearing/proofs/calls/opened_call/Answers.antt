use Rattle.std.proofs.Common.{◌≡◌, ℕ, ◌<◌, length, Some, None, Ok, Err, option_map, sym, ap, ◌∙◌, subst}
use Rattle.protocol_model.specs.Reading.{Broken}
use Rattle.protocol_model.specs.Value.{Class, goes_up}
use Rattle.protocol_model.specs.World.{class_at as class_in}
use Rattle.protocol_model.specs.declared.Cause.TheVariants.{UnknownGuid}
use Rattle.connection_model.specs.PayloadReading.{call_at_end}
use Rattle.bit_io.specs.Lent.{bits_left}
use Rattle.class_layout.specs.Tables.{Layout, class_of, table_in}
use Rattle.payload_reading.specs.Values.{call_message}
use Rattle.payload_reading.proofs.Stops.{stops}
use Rattle.server_hearing.specs.Calls.{call_payload, opened_call_at}
use Rattle.server_hearing.proofs.Judging.{opened_is, opened_stop, unknown_is}
use Rattle.server_hearing.proofs.calls.opened_call.Goals as goal

pub returns-in_default : goal.returns-in_default
returns-in_default c = λ edits past samples k.
    unknown_is past c.args.reliable (bits_left c.args.reader.now) (bits_left c.actor.new.reader) c.in_ok-actor.actor
    c.in_ok-actor.ensures (ap (option_map (class_in (table_in c.args.world.now.layout))) (sym c.in_default.is)
    ∙ c.class_opened.ensures.class edits past samples k)
    ∙ ap (λ (n : ℕ). Err (Broken n (Some (UnknownGuid c.in_ok-actor.actor)))) (sym c.left-left.ensures.count)
    ∙ ap (λ (a : ℕ). Err (Broken c.left-left.result (Some (UnknownGuid a)))) (sym c.actor-2.view_is)

pub class_at-requires : goal.class_at-requires
class_at-requires c = let r = c.requires in
    subst (λ (l : Layout). c.in-Some.class < length l.classes) (sym c.classes.ensures)
    (c.in-Some.ensures.within r.0 r.1 r.2 r.3)

pub returns-in_err-call : goal.returns-in_err-call
returns-in_err-call c = λ edits past samples k.
    stops (call_message (class_of c.classes.result.now.segments c.class_at.result.now) c.in_ok-actor.actor)
    (call_at_end (class_of c.classes.result.now.segments c.class_at.result.now) c.in_ok-actor.actor goes_up
    c.args.reliable) c.actor.new.reader c.read_call.new.reader
    (call_payload c.args.world.now.layout) (opened_call_at past c.args.reliable)
    c.args.reader.now c.read_call.new.reader c.from_residual-in_err-call.result c.in_err-call.field-0.0
    c.from_residual-in_err-call.ensures.1
    (c.in_err-call.ensures c.classes.result.now.segments c.in_ok-actor.actor)
    (opened_stop past c.args.reliable (bits_left c.args.reader.now) (bits_left c.actor.new.reader)
    c.in_ok-actor.actor (class_of c.classes.result.now.segments c.class_at.result.now) c.in_ok-actor.ensures
    (ap (λ (class : Class). Some class) (c.class_at.ensures.class
    ∙ ap (λ (l : Layout). class_in (table_in l) c.in-Some.class) c.classes.ensures)
    ∙ c.in-Some.ensures.class edits past samples k))

pub returns : goal.returns
returns c = λ edits past samples k.
    opened_is past c.args.reliable (bits_left c.args.reader.now) (bits_left c.actor.new.reader) c.in_ok-actor.actor
    (class_in (table_in c.args.world.now.layout) c.in-Some.class) c.in_ok-actor.ensures
    (c.in-Some.ensures.class edits past samples k)
    ∙ subst (λ (class : Class). call_at_end class c.in_ok-actor.actor goes_up c.args.reliable
    (bits_left c.actor.new.reader) ≡ Ok (
      call_message class c.in_ok-actor.actor c.in_ok-call.call,
      bits_left
          c.read_call.new.reader,
    )) (c.class_at.ensures.class ∙ ap (λ (l : Layout). class_in (table_in l) c.in-Some.class) c.classes.ensures)
    (c.in_ok-call.ensures c.classes.result.now.segments c.in_ok-actor.actor)

use Rattle.std.proofs.Common.{ℕ, ◌-◌, List, true, None, Err, cond, sym, ap, ◌∙◌, subst, arith}
use Rattle.protocol_model.specs.declared.Kind.{Kind}
use Rattle.protocol_model.specs.Reading.{Broken}
use Rattle.std.specs.List.{list_all}
use Rattle.table_model.specs.Facts.{is_type}
use Rattle.protocol_model.specs.Value as Model
use Rattle.connection_model.specs.PayloadReading.{args_at, end_at, call_at_end}
use Rattle.bit_io.specs.Lent.{bits_left}
use Rattle.class_layout.specs.Tables.{class_of}
use Rattle.class_members.specs.Members.{call_of}
use Rattle.payload_reading.specs.Reads.{itself}
use Rattle.payload_reading.specs.Values.{call_message, arg_values}
use Rattle.payload_reading.proofs.Stops.{StopsAs, stops}
use Rattle.payload_reading.proofs.CallSteps.{found_at, found_rule, lost_rule, args_readable, within_list, call_lost, call_args_stop, call_end_stop, call_read}
use Rattle.payload_reading.proofs.calls.read_call.Goals as goal

pub returns-in_default : goal.returns-in_default
returns-in_default c = λ segments actor.
    (let count = c.left-left.ensures.count in
    call_lost (class_of segments c.args.class.now) actor (cond c.args.up Model.goes_up Model.goes_down)
    c.args.reliable (bits_left c.args.reader.now) c.in_ok-n.n (bits_left c.number.new.reader)
    c.in_ok-n.ensures
    (lost_rule segments c.args.class.now c.in_ok-n.n c.args.up c.args.reliable c.in_default.ensures)
    ∙ ap (λ (n : ℕ). Err (Broken n None)) (sym count))

pub read_args-requires : goal.read_args-requires
read_args-requires c =
    ap (λ (kinds : List Kind). list_all (is_type true) kinds) c.as_slice.ensures
    ∙ args_readable c.args.class.now (c.in_ok-n.n - 1) c.in-Some.call.now c.requires c.in-Some.ensures.1

pub returns-in_err-args : goal.returns-in_err-args
returns-in_err-args c = λ segments actor.
    stops arg_values (args_at c.as_slice.result.now) c.number.new.reader c.read_args.new.reader (call_message
    (class_of segments c.args.class.now) actor) (call_at_end (class_of segments c.args.class.now) actor
    (cond c.args.up Model.goes_up Model.goes_down) c.args.reliable) c.args.reader.now c.read_args.new.reader
    c.from_residual-in_err-args.result c.in_err-args.field-0.0 c.from_residual-in_err-args.ensures.1
    c.in_err-args.ensures
    (subst (λ (kinds : List Kind). StopsAs (args_at kinds) (bits_left c.number.new.reader) (call_at_end
    (class_of segments c.args.class.now) actor (cond c.args.up Model.goes_up Model.goes_down)
    c.args.reliable) (bits_left c.args.reader.now)) (sym c.as_slice.ensures)
    (call_args_stop (class_of segments c.args.class.now) actor (cond c.args.up Model.goes_up Model.goes_down)
    c.args.reliable (bits_left c.args.reader.now) c.in_ok-n.n (bits_left c.number.new.reader)
    (call_of c.in-Some.call.now) c.in_ok-n.ensures
    (found_rule segments c.args.class.now c.in_ok-n.n c.args.up c.args.reliable c.in-Some.call.now
    c.in-Some.ensures.0 c.in-Some.ensures.1 c.in-Some.ensures.2 c.in-Some.ensures.3)
    (found_at segments c.args.class.now c.in_ok-n.n c.in-Some.call.now c.in-Some.ensures.0
    c.in-Some.ensures.1)))

pub returns-in_err-nothing_left : goal.returns-in_err-nothing_left
returns-in_err-nothing_left c = λ segments actor.
    stops itself end_at c.read_args.new.reader c.nothing_left.new.reader (call_message
    (class_of segments c.args.class.now) actor) (call_at_end (class_of segments c.args.class.now) actor
    (cond c.args.up Model.goes_up Model.goes_down) c.args.reliable) c.args.reader.now
    c.nothing_left.new.reader
    c.from_residual-in_err-nothing_left.result c.in_err-nothing_left.field-0.0
    c.from_residual-in_err-nothing_left.ensures.1 c.in_err-nothing_left.ensures
    (call_end_stop (class_of segments c.args.class.now) actor (cond c.args.up Model.goes_up Model.goes_down)
    c.args.reliable (bits_left c.args.reader.now) c.in_ok-n.n (bits_left c.number.new.reader)
    (call_of c.in-Some.call.now) (arg_values c.in_ok-args.args) (bits_left c.read_args.new.reader)
    c.in_ok-n.ensures
    (found_rule segments c.args.class.now c.in_ok-n.n c.args.up c.args.reliable c.in-Some.call.now
    c.in-Some.ensures.0 c.in-Some.ensures.1 c.in-Some.ensures.2 c.in-Some.ensures.3)
    (found_at segments c.args.class.now c.in_ok-n.n c.in-Some.call.now c.in-Some.ensures.0
    c.in-Some.ensures.1)
    (ap (λ (kinds : List Kind). args_at kinds (bits_left c.number.new.reader)) (sym c.as_slice.ensures) ∙
    c.in_ok-args.ensures))

pub overflow_cast-result : goal.overflow_cast-result
overflow_cast-result c =
    let most = c.requires.call_count in
    let low = c.in-Some.ensures.0 in
    let here = within_list c.args.class.now.calls (c.in_ok-n.n - 1) c.in-Some.call.now c.in-Some.ensures.1 in
    record { fits = omega (arith, most, low, here) }

pub returns : goal.returns
returns c = λ segments actor.
    call_read (class_of segments c.args.class.now) actor (cond c.args.up Model.goes_up Model.goes_down)
    c.args.reliable (bits_left c.args.reader.now) c.in_ok-n.n (bits_left c.number.new.reader)
    (call_of c.in-Some.call.now) (arg_values c.in_ok-args.args) (bits_left c.read_args.new.reader)
    c.in_ok-nothing_left.field-0 (bits_left c.nothing_left.new.reader) c.in_ok-n.ensures
    (found_rule segments c.args.class.now c.in_ok-n.n c.args.up c.args.reliable c.in-Some.call.now
    c.in-Some.ensures.0 c.in-Some.ensures.1 c.in-Some.ensures.2 c.in-Some.ensures.3)
    (found_at segments c.args.class.now c.in_ok-n.n c.in-Some.call.now c.in-Some.ensures.0
    c.in-Some.ensures.1)
    (ap (λ (kinds : List Kind). args_at kinds (bits_left c.number.new.reader)) (sym c.as_slice.ensures) ∙
    c.in_ok-args.ensures)
    c.in_ok-nothing_left.ensures

use Rattle.std.proofs.Common.{length, sym}
use Rattle.connection_model.specs.PayloadReading.{some_values_at, end_at}
use Rattle.bit_io.specs.Lent.{bits_left}
use Rattle.class_layout.specs.Tables.{class_of}
use Rattle.payload_reading.specs.Reads.{itself}
use Rattle.payload_reading.specs.Values.{pair_values}
use Rattle.payload_reading.proofs.Stops.{stops}
use Rattle.client_payloads.specs.Readings.{update_in}
use Rattle.client_payloads.specs.Messages.{update_payload}
use Rattle.client_payloads.proofs.PayloadSteps.{update_values_stop, update_end_stop, update_done}
use Rattle.actor_copies.proofs.Following.{class_on}
use Rattle.client_payloads.proofs.payloads.update.Goals as goal

pub class_at-requires : goal.class_at-requires
class_at-requires c = class_on (length c.args.classes.now.classes) c.args.copies.now c.args.channel
    c.in-Some.copy.now c.requires (sym c.in-Some.ensures)

pub returns-in_err-values : goal.returns-in_err-values
returns-in_err-values c =
    stops pair_values (some_values_at (class_of c.args.classes.now.segments c.class_at.result.now))
    c.args.reader.now c.read_some_values.new.reader
    (update_payload c.args.classes.now c.args.copies.now c.args.channel)
    (update_in c.args.classes.now c.args.copies.now c.args.channel) c.args.reader.now
    c.read_some_values.new.reader c.from_residual.result c.in_err-values.field-0.0 c.from_residual.ensures.1
    (c.in_err-values.ensures c.args.classes.now.segments)
    (update_values_stop c.args.classes.now c.args.copies.now c.args.channel
    (bits_left c.args.reader.now) c.in-Some.copy.now
    (class_of c.args.classes.now.segments c.class_at.result.now) c.in-Some.ensures c.class_at.ensures.class)

pub returns-in_err-nothing_left : goal.returns-in_err-nothing_left
returns-in_err-nothing_left c =
    stops itself end_at c.read_some_values.new.reader c.nothing_left.new.reader
    (update_payload c.args.classes.now c.args.copies.now c.args.channel)
    (update_in c.args.classes.now c.args.copies.now c.args.channel) c.args.reader.now c.nothing_left.new.reader
    c.from_residual-in_err-nothing_left.result c.in_err-nothing_left.field-0.0
    c.from_residual-in_err-nothing_left.ensures.1
    c.in_err-nothing_left.ensures
    (update_end_stop c.args.classes.now c.args.copies.now c.args.channel (bits_left c.args.reader.now)
    (bits_left c.read_some_values.new.reader) c.in-Some.copy.now
    (class_of c.args.classes.now.segments c.class_at.result.now)
    (pair_values c.in_ok-values.values) c.in-Some.ensures c.class_at.ensures.class
    (c.in_ok-values.ensures c.args.classes.now.segments))

pub returns : goal.returns
returns c =
    update_done c.args.classes.now c.args.copies.now c.args.channel (bits_left c.args.reader.now)
    (bits_left c.read_some_values.new.reader) (bits_left c.nothing_left.new.reader) c.in-Some.copy.now
    (class_of c.args.classes.now.segments c.class_at.result.now)
    (pair_values c.in_ok-values.values) c.in_ok-nothing_left.field-0
    c.in-Some.ensures c.class_at.ensures.class
    (c.in_ok-values.ensures c.args.classes.now.segments) c.in_ok-nothing_left.ensures

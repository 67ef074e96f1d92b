use Rattle.connection_model.specs.PayloadReading.{pairs_at, values_at}
use Rattle.bit_io.specs.Lent.{bits_left}
use Rattle.class_layout.specs.Tables.{class_of}
use Rattle.payload_reading.specs.Values.{pair_value, pair_values}
use Rattle.payload_reading.proofs.Stops.{collects_stops}
use Rattle.payload_reading.proofs.Collecting.{values_done, values_stop}
use Rattle.payload_reading.proofs.values.read_values.Goals as goal

pub returns-in_err-pairs : goal.returns-in_err-pairs
returns-in_err-pairs c = λ segments.
    collects_stops pair_value (pairs_at (class_of segments c.args.class.now) c.count_of.result 0)
    c.args.reader.now c.pairs.new.reader c.new-list.result c.pairs.new.list pair_values
    (values_at (class_of segments c.args.class.now)) c.args.reader.now c.pairs.new.reader
    c.from_residual.result c.in_err-pairs.field-0.0 c.from_residual.ensures.1
    (c.in_err-pairs.ensures segments)
    (values_stop (class_of segments c.args.class.now) c.count_of.result (bits_left c.args.reader.now)
    (c.count_of.ensures.count segments))

pub returns : goal.returns
returns c = λ segments.
    values_done (class_of segments c.args.class.now) c.new-list.result c.pairs.new.list c.count_of.result
    (bits_left c.args.reader.now) (bits_left c.pairs.new.reader) c.new-list.ensures
    (c.count_of.ensures.count segments) (c.in_ok-pairs.ensures segments)

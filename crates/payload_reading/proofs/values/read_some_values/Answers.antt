use Rattle.std.proofs.Common.{◌-◌, ◌∷◌, [], ◌++◌, ap, ◌∙◌}
use Rattle.connection_model.specs.PayloadReading.{pairs_at, some_values_at, field, number_at, value_at}
use Rattle.bit_io.specs.Lent.{bits_left}
use Rattle.class_layout.specs.Tables.{class_of}
use Rattle.value_codec.specs.Values.{whole_of}
use Rattle.payload_reading.specs.Reads.{itself}
use Rattle.payload_reading.specs.Values.{pair_value, pair_values}
use Rattle.payload_reading.proofs.Stops.{stops, collects_stops}
use Rattle.payload_reading.proofs.Collecting.{some_within, some_stop, some_value_stop, some_pairs_stop, some_done}
use Rattle.payload_reading.proofs.values.read_some_values.Goals as goal

pub returns-in_err-h : goal.returns-in_err-h
returns-in_err-h c = λ segments.
    stops itself (field number_at (some_within c.count_of-count.result)) c.args.reader.now
    c.first_handle.new.reader pair_values (some_values_at (class_of segments c.args.class.now))
    c.args.reader.now c.first_handle.new.reader
    c.from_residual.result c.in_err-h.field-0.0 c.from_residual.ensures.1 c.in_err-h.ensures.exact
    (some_stop (class_of segments c.args.class.now) c.count_of-count.result (bits_left c.args.reader.now)
    (c.count_of-count.ensures.count segments))

pub returns-in_err-v : goal.returns-in_err-v
returns-in_err-v c = λ segments.
    stops whole_of (value_at c.kind_of.result) c.first_handle.new.reader c.value.new.reader pair_values
    (some_values_at (class_of segments c.args.class.now)) c.args.reader.now c.value.new.reader
    c.from_residual-in_err-v.result c.in_err-v.field-0.0 c.from_residual-in_err-v.ensures.1 c.in_err-v.ensures
    (some_value_stop (class_of segments c.args.class.now) c.count_of-count.result c.in_ok-h.h c.kind_of.result
    (bits_left c.args.reader.now) (bits_left c.first_handle.new.reader)
    (c.count_of-count.ensures.count segments) c.in_ok-h.ensures.exact (c.kind_of.ensures.kind segments))

pub returns-in_err-pairs : goal.returns-in_err-pairs
returns-in_err-pairs c = λ segments.
    collects_stops pair_value
    (pairs_at (class_of segments c.args.class.now) (c.count_of-count.result - 1) c.in_ok-h.h)
    c.value.new.reader c.pairs.new.reader c.push.new.self c.pairs.new.list pair_values
    (some_values_at (class_of segments c.args.class.now)) c.args.reader.now c.pairs.new.reader
    c.from_residual-in_err-pairs.result c.in_err-pairs.field-0.0 c.from_residual-in_err-pairs.ensures.1
    (c.in_err-pairs.ensures segments)
    (some_pairs_stop (class_of segments c.args.class.now) c.count_of-count.result c.in_ok-h.h c.kind_of.result
    (whole_of c.in_ok-v.v) (bits_left c.args.reader.now) (bits_left c.first_handle.new.reader)
    (bits_left c.value.new.reader)
    (c.count_of-count.ensures.count segments) c.in_ok-h.ensures.exact (c.kind_of.ensures.kind segments)
    c.in_ok-v.ensures)

pub returns : goal.returns
returns c = λ segments.
    some_done (class_of segments c.args.class.now) c.count_of-count.result c.in_ok-h.h c.kind_of.result
    c.in_ok-v.v c.push.new.self c.pairs.new.list (bits_left c.args.reader.now)
    (bits_left c.first_handle.new.reader) (bits_left c.value.new.reader) (bits_left c.pairs.new.reader)
    (c.count_of-count.ensures.count segments) c.in_ok-h.ensures.exact (c.kind_of.ensures.kind segments)
    c.in_ok-v.ensures
    (c.in_ok-push.ensures.ok ∙ ap (λ list. list ++ record { prop = c.in_ok-h.h; value = c.in_ok-v.v } ∷ [])
    c.new-list.ensures) (c.in_ok-pairs.ensures segments)

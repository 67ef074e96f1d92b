use Rattle.connection_model.specs.PayloadReading.{values_at, end_at}
use Rattle.bit_io.specs.Lent.{bits_left}
use Rattle.class_layout.specs.Tables.{class_of}
use Rattle.payload_reading.specs.Reads.{itself}
use Rattle.payload_reading.specs.Values.{pair_values}
use Rattle.payload_reading.proofs.Stops.{stops}
use Rattle.client_payloads.specs.Readings.{opened_in}
use Rattle.actor_copies.specs.Applied.{open_message}
use Rattle.client_payloads.proofs.PayloadSteps.{open_values_stop, open_end_stop, open_done}
use Rattle.client_payloads.proofs.opens.opened.Goals as goal

pub returns-in_err-values-clause-exact : goal.returns-in_err-values-clause-exact
returns-in_err-values-clause-exact c = λ known exports st.
    stops pair_values (values_at (class_of c.args.classes.now.segments c.class_at.result.now))
    c.opened_class.new.reader c.read_values.new.reader
    (open_message c.args.classes.now exports) (opened_in c.args.classes.now c.args.copies.now c.args.channel known
    exports) c.args.reader.now c.read_values.new.reader c.from_residual-in_err-values.result
    c.in_err-values.field-0.0 c.from_residual-in_err-values.ensures.1
    (c.in_err-values.ensures c.args.classes.now.segments)
    (open_values_stop c.args.classes.now c.args.copies.now c.args.channel known exports
    (bits_left c.args.reader.now) (bits_left c.opening.new.reader)
    (bits_left c.opened_class.new.reader) c.in_ok-actor.actor c.in_ok-class.class
    (class_of c.args.classes.now.segments c.class_at.result.now)
    c.in_ok-actor.ensures (c.in_ok-class.ensures.exact known st) c.class_at.ensures.class)

pub returns-in_err-nothing_left-clause-exact : goal.returns-in_err-nothing_left-clause-exact
returns-in_err-nothing_left-clause-exact c = λ known exports st.
    stops itself end_at c.read_values.new.reader c.nothing_left.new.reader
    (open_message c.args.classes.now exports) (opened_in c.args.classes.now c.args.copies.now c.args.channel known
    exports) c.args.reader.now c.nothing_left.new.reader c.from_residual-in_err-nothing_left.result
    c.in_err-nothing_left.field-0.0 c.from_residual-in_err-nothing_left.ensures.1
    c.in_err-nothing_left.ensures
    (open_end_stop c.args.classes.now c.args.copies.now c.args.channel known exports (bits_left c.args.reader.now)
    (bits_left c.opening.new.reader) (bits_left c.opened_class.new.reader)
    (bits_left c.read_values.new.reader) c.in_ok-actor.actor c.in_ok-class.class
    (class_of c.args.classes.now.segments c.class_at.result.now) (pair_values c.in_ok-values.values)
    c.in_ok-actor.ensures (c.in_ok-class.ensures.exact known st) c.class_at.ensures.class
    (c.in_ok-values.ensures c.args.classes.now.segments))

pub returns-clause-exact : goal.returns-clause-exact
returns-clause-exact c = λ known exports st.
    open_done c.args.classes.now c.args.copies.now c.args.channel known exports (bits_left c.args.reader.now)
    (bits_left c.opening.new.reader) (bits_left c.opened_class.new.reader) (bits_left c.read_values.new.reader)
    (bits_left c.nothing_left.new.reader) c.in_ok-actor.actor c.in_ok-class.class
    (class_of c.args.classes.now.segments c.class_at.result.now)
    (pair_values c.in_ok-values.values) c.in_ok-nothing_left.field-0
    c.in_ok-actor.ensures (c.in_ok-class.ensures.exact known st) c.class_at.ensures.class
    (c.in_ok-values.ensures c.args.classes.now.segments) c.in_ok-nothing_left.ensures

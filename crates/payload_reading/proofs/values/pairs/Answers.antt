use Rattle.std.proofs.Common.{ℕ, ◌+◌, ◌≤◌, ◌==◌, List, Result, Ok, Err, sym, subst}
use Rattle.connection_model.specs.PayloadReading.{pairs_at, field, number_at, value_at}
use Rattle.bit_io.specs.declared.lent.BitReader.{BitReader}
use Rattle.value_codec.specs.Values.{whole_of}
use Rattle.class_layout.specs.Tables.{class_of}
use Rattle.class_layout.specs.declared.class.Class.{Class}
use Rattle.class_layout.specs.declared.class.Segment.{Segment}
use Rattle.value_codec.specs.declared.pair.Pair.{Pair}
use Rattle.payload_reading.specs.Reads.{Follows, Collects, itself}
use Rattle.payload_reading.specs.Values.{pair_value}
use Rattle.payload_reading.specs.declared.stop.Stop.{Stop}
use Rattle.payload_reading.proofs.Stops.{list_stops, list_stop_is}
use Rattle.payload_reading.proofs.Collecting.{PairsSoFar, within, pairs_step, pairs_done, pairs_stop, pairs_value_stop, pairs_over, pairs_over_stop}
use Rattle.payload_reading.proofs.values.pairs.Goals as goal

pub returns-in_err-h : goal.returns-in_err-h
returns-in_err-h c = λ segments.
    list_stops itself (field number_at (within c.count_of-most.result c.loop.last)) c.loop.reader
    c.handle.new.reader pair_value (pairs_at (class_of segments c.args.class.now) c.args.more c.args.last)
    c.args.reader.now c.handle.new.reader c.args.list.now c.loop.list c.from_residual.result
    c.in_err-h.field-0.0
    c.from_residual.ensures.1 c.in_err-h.ensures.exact
    (pairs_stop c.args.class.now c.args.reader.now c.loop.reader c.args.list.now c.loop.list c.args.more
    c.args.last c.loop.last c.loop.counter c.count_of-most.result c.loop.invariant c.loop-test.true
    c.count_of-most.ensures.count segments)

pub returns-then-h-eq0 : goal.returns-then-h-eq0
returns-then-h-eq0 c = λ segments.
    pairs_done c.args.class.now c.args.reader.now c.loop.reader c.handle.new.reader c.args.list.now
    c.loop.list c.args.more c.args.last c.loop.last c.loop.counter c.count_of-most.result c.in_ok-h.h
    c.loop.invariant c.loop-test.true c.count_of-most.ensures.count c.in_ok-h.ensures.exact c.if-h-eq0.true
    segments

pub returns-in_err-v : goal.returns-in_err-v
returns-in_err-v c = λ segments.
    list_stops whole_of (value_at c.kind_of.result) c.handle.new.reader c.value.new.reader pair_value
    (pairs_at (class_of segments c.args.class.now) c.args.more c.args.last) c.args.reader.now
    c.value.new.reader c.args.list.now c.loop.list c.from_residual-in_err-v.result c.in_err-v.field-0.0
    c.from_residual-in_err-v.ensures.1 c.in_err-v.ensures
    (pairs_value_stop c.args.class.now c.args.reader.now c.loop.reader c.handle.new.reader c.args.list.now
    c.loop.list c.args.more c.args.last c.loop.last c.loop.counter c.count_of-most.result c.in_ok-h.h
    c.kind_of.result
    c.loop.invariant c.loop-test.true c.count_of-most.ensures.count c.in_ok-h.ensures.exact c.if-h-eq0.false
    c.kind_of.ensures.kind segments)

pub loop-preserved : goal.loop-preserved
loop-preserved c =
    subst (λ (list : List Pair). PairsSoFar c.args.class.now c.args.reader.now c.value.new.reader
    c.args.list.now list c.args.more c.args.last c.in_ok-h.h (c.loop.counter + 1)) (sym
    c.in_ok-push.ensures.ok)
    (pairs_step c.args.class.now c.args.reader.now c.loop.reader c.handle.new.reader c.value.new.reader
    c.args.list.now c.loop.list c.args.more c.args.last c.loop.last c.loop.counter c.count_of-most.result
    c.in_ok-h.h c.kind_of.result c.in_ok-v.v
    c.loop.invariant c.loop-test.true c.count_of-most.ensures.count c.in_ok-h.ensures.exact c.if-h-eq0.false
    c.kind_of.ensures.kind c.in_ok-v.ensures)

over : (class : Class) (old new next : BitReader) (before after : List Pair) (more first last turns : ℕ)
    (result : Result Unit Stop)
    → PairsSoFar class old new before after more first last turns → more ≤ turns
    → Follows (λ done. 0) (field number_at (λ h. h == 0)) new next result → (segments : List Segment)
    → Collects pair_value (pairs_at (class_of segments class) more first) old next before after result
over class old new next before after more first last turns (Ok done) s l e segments =
    pairs_over class old new next before after more first last turns 0 s l e segments
over class old new next before after more first last turns (Err stop) s l e segments =
    list_stop_is {A = Unit} (λ done. 0) (field number_at (λ h. h == 0)) new next pair_value
    (pairs_at (class_of segments class) more first) old next before after stop e
    (pairs_over_stop class old new before after more first last turns s l segments)

pub returns : goal.returns
returns c =
    over c.args.class.now c.args.reader.now c.loop.reader c.no_handle.new.reader c.args.list.now c.loop.list
    c.args.more c.args.last c.loop.last c.loop.counter c.no_handle.result c.loop.invariant c.loop-test.false
    c.no_handle.ensures

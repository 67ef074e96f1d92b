use Rattle.std.proofs.Common.{◌≡◌, ℕ, ◌<◌, List, Ok, Err, sym, subst, length}
use Rattle.std.specs.Prelude.{IsErrAnd, Result}
use Rattle.protocol_model.specs.Value.{Segment}
use Rattle.connection_model.specs.PayloadReading.{segment_at, segments_at}
use Rattle.bit_io.specs.declared.lent.BitReader.{BitReader}
use Rattle.bit_io.specs.Lent.{bits_left}
use Rattle.netguid_map.specs.Names.{Stands}
use Rattle.payload_reading.specs.Values.{segment_value}
use Rattle.payload_reading.specs.declared.stop.Stop.{Stop}
use Rattle.client_payloads.specs.Learning.{Kept, Learns, IsLearning}
use Rattle.client_payloads.proofs.ExportSteps.{LearntSoFar, next_turn, turn_stops, turn_refused, learns_stops}
use Rattle.client_payloads.proofs.exports.segments.Goals as goal

pub returns-in_err-segment : goal.returns-in_err-segment
returns-in_err-segment c = λ known st.
    learns_stops segment_value segment_at c.loop.reader c.read_segment.new.reader
    (λ known. segments_at known c.args.count) known c.args.reader.now c.read_segment.new.reader c.loop.names
    c.from_residual.result c.in_err-segment.field-0.0 c.from_residual.ensures.1 c.in_err-segment.ensures
    (turn_stops known c.args.reader.now c.loop.reader c.loop.names c.args.count c.loop.counter
    (c.loop.invariant.so_far known st) c.loop-test.true)

refused : (known : List Segment) (old new mid : BitReader) (before after later : Kept) (count turns : ℕ)
    (s : Segment) (from : ℕ) (result : Result Unit Stop) (stop : Stop)
    → LearntSoFar old new before after count turns → Stands before known → turns < count
    → segment_at (bits_left new) ≡ Ok (s, bits_left mid)
    → IsErrAnd result (λ e. e ≡ stop) → ((known : List Segment) → Stands after known
    → IsLearning {A = Unit} known s from later (Err stop)) → from ≡ length (bits_left mid)
    → Learns (λ known. segments_at known count) known old mid later result
refused known old new mid before after later count turns s from (Ok done) stop so st l e is learns count_is =
    absurd is
refused known old new mid before after later count turns s from (Err it) stop so st l e is learns count_is =
    subst (λ (x : Stop). Learns {A = Unit} (λ known. segments_at known count) known old mid later (Err x)) (sym is)
    (turn_refused known old new mid after later count turns s from stop (so.so_far known st) l e learns count_is)

pub returns-in_err-learn : goal.returns-in_err-learn
returns-in_err-learn c = λ known st.
    (let count = c.left.ensures.count in
    refused known c.args.reader.now c.loop.reader c.read_segment.new.reader c.args.names.now c.loop.names
    c.learn.new.names c.args.count c.loop.counter
    (segment_value c.in_ok-segment.segment) c.left.result c.from_residual-in_err-learn.result
    c.in_err-learn.field-0.0
    c.loop.invariant st c.loop-test.true c.in_ok-segment.ensures c.from_residual-in_err-learn.ensures.1
    c.in_err-learn.ensures count)

pub loop-preserved : goal.loop-preserved
loop-preserved c =
    next_turn c.args.reader.now c.loop.reader c.read_segment.new.reader c.args.names.now c.loop.names
    c.learn.new.names c.args.count c.loop.counter
    (segment_value c.in_ok-segment.segment) c.left.result c.in_ok-learn.field-0
    c.loop.invariant c.loop-test.true c.in_ok-segment.ensures c.in_ok-learn.ensures

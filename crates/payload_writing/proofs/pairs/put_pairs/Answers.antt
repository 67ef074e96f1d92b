use Rattle.std.proofs.Common.{List, IsTrue, subst, arith}
use Rattle.std.proofs.lemmas.Bool.{and_parts}
use Rattle.protocol_model.specs.Payload.{pair_bits}
use Rattle.value_codec.specs.declared.pair.Pair.{Pair}
use Rattle.class_layout.specs.Tables.{class_of}
use Rattle.payload_reading.specs.Values.{pair_value}
use Rattle.payload_writing.specs.Values.{pairs_fit}
use Rattle.payload_writing.proofs.Loops.{mapped_put, mapped_all, next_item}
use Rattle.payload_writing.proofs.pairs.put_pairs.Goals as goal

pub loop-pair-preserved : goal.loop-pair-preserved
loop-pair-preserved c =
    let pairs = c.args.pairs.now in
    let pair = c.pair-item.result in
    let fit = c.loop-pair.invariant.fit in
    let item = next_item pairs c.loop-pair.pair-index pair pair c.loop-pair-test.true c.pair-item.is in
    let fitting = subst (λ (rest : List Pair). IsTrue (pairs_fit (class_of fit.0 c.args.class.now) rest)) item fit.1 in
    record {
      left = λ segments.
          mapped_put (pair_bits (class_of segments c.args.class.now)) pair_value pairs c.loop-pair.pair-index pair
          c.args.w.now c.loop-pair.w c.put_pair.new.w c.loop-pair-test.true c.pair-item.is
          (c.loop-pair.invariant.left segments) (c.put_pair.ensures.bits segments);
      fit = (fit.0, (and_parts _ _ fitting).1);
      room = omega (arith, c.loop-pair.invariant.room, c.put_pair.ensures.room);
    }

pub returns-clause-bits : goal.returns-clause-bits
returns-clause-bits c = λ segments.
    mapped_all (pair_bits (class_of segments c.args.class.now)) pair_value c.args.pairs.now c.loop-pair.pair-index
    c.args.w.now c.loop-pair.w c.loop-pair-test.false (c.loop-pair.invariant.left segments)

use Rattle.std.proofs.Common.{subst, arith}
use Rattle.protocol_model.specs.Payload.{segment_bits}
use Rattle.class_layout.specs.Tables.{segment_at}
use Rattle.netguid_map.specs.Chains.{AreThere}
use Rattle.payload_writing.proofs.Loops.{mapped_put, mapped_all, next_item}
use Rattle.payload_writing.proofs.segments.put_segments.Goals as goal

pub put_segment-requires-clause-there : goal.put_segment-requires-clause-there
put_segment-requires-clause-there c =
    let guid = c.guid-item.result in
    let item = next_item c.args.guids.now c.loop-guid.guid-index guid guid c.loop-guid-test.true c.guid-item.is in
    (subst (AreThere c.args.classes.now.segments) item c.loop-guid.invariant.there).0

pub loop-guid-preserved : goal.loop-guid-preserved
loop-guid-preserved c =
    let segments = c.args.classes.now.segments in
    let guid = c.guid-item.result in
    let item = next_item c.args.guids.now c.loop-guid.guid-index guid guid c.loop-guid-test.true c.guid-item.is in
    record {
      left = mapped_put segment_bits (segment_at segments) c.args.guids.now c.loop-guid.guid-index guid c.args.w.now
          c.loop-guid.w c.put_segment.new.w c.loop-guid-test.true c.guid-item.is c.loop-guid.invariant.left
          c.put_segment.ensures.bits;
      there = (subst (AreThere segments) item c.loop-guid.invariant.there).1;
      room = omega (arith, c.loop-guid.invariant.room, c.put_segment.ensures.room);
    }

pub returns-clause-bits : goal.returns-clause-bits
returns-clause-bits c =
    mapped_all segment_bits (segment_at c.args.classes.now.segments) c.args.guids.now c.loop-guid.guid-index
    c.args.w.now c.loop-guid.w c.loop-guid-test.false c.loop-guid.invariant.left

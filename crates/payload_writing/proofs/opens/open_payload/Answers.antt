use Rattle.std.proofs.Common.{◌∙◌, ℕ, ◌++◌, IsTrue, ap, sym, subst, arith, map}
use Rattle.std.specs.List.{flat_map}
use Rattle.protocol_model.specs.Bits.{packed_bits}
use Rattle.protocol_model.specs.Value.{Class, class_guid}
use Rattle.protocol_model.specs.Payload.{exports_bits, list_bits, pair_bits}
use Rattle.class_layout.specs.Tables.{class_of, segment_at}
use Rattle.payload_reading.specs.Values.{pair_values}
use Rattle.payload_writing.specs.Values.{pairs_fit}
use Rattle.payload_writing.proofs.Lengths.{packed_takes}
use Rattle.payload_writing.proofs.Loops.{five_put}
use Rattle.payload_writing.proofs.opens.open_payload.Goals as goal

pub put_guid-requires-2 : goal.put_guid-requires-2
put_guid-requires-2 c =
    omega (arith, c.in_ok-w.ensures.room, c.put_exports.ensures.room, packed_takes _ c.put_guid.ensures)

pub put_pairs-requires-clause-fit : goal.put_pairs-requires-clause-fit
put_pairs-requires-clause-fit c = (
  c.args.classes.now.segments,
  subst (λ (class : Class). IsTrue (pairs_fit class c.args.values.now)) (sym c.class_at-class.ensures.class)
      c.requires.fit,
)

pub put_pairs-requires-clause-room : goal.put_pairs-requires-clause-room
put_pairs-requires-clause-room c =
    omega (
      arith,
      c.in_ok-w.ensures.room,
      c.put_exports.ensures.room,
      packed_takes _ c.put_guid.ensures,
      packed_takes _ c.put_guid-2.ensures,
    )

pub put_packed-requires : goal.put_packed-requires
put_packed-requires c = record {
  room = omega (
    arith,
    c.in_ok-w.ensures.room,
    c.put_exports.ensures.room,
    packed_takes _ c.put_guid.ensures,
    packed_takes _ c.put_guid-2.ensures,
    c.put_pairs.ensures.room,
  );
}

pub returns : goal.returns
returns c =
    let segments = c.args.classes.now.segments in
    let exports = exports_bits (map (segment_at segments) c.args.exports.now) in
    let class = class_of segments c.class_at-class.result.now in
    let values = pair_values c.args.values.now in
    let pairs = flat_map (pair_bits class) values in
    let front = exports ++ packed_bits c.args.actor in
    let put = five_put exports (packed_bits c.args.actor) (packed_bits c.class_guid.result) pairs (packed_bits 0)
    c.in_ok-w.ensures.empty c.put_exports.ensures.bits c.put_guid.ensures c.put_guid-2.ensures
    (c.put_pairs.ensures.bits segments) c.put_packed.ensures in
    c.into_bits.ensures ∙ put
    ∙ ap (λ (guid : ℕ). front ++ packed_bits guid ++ list_bits class values) (c.class_guid.ensures segments)
    ∙ ap (λ (class : Class). front ++ packed_bits (class_guid class) ++ list_bits class values)
    c.class_at-class.ensures.class

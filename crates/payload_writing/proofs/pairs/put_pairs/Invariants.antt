use Rattle.std.proofs.Common.{◌+◌, ◌*◌, ◌≤◌, IsTrue, List, drop}
use Rattle.std.specs.List.{flat_map}
use Rattle.protocol_model.specs.Payload.{pair_bits}
use Rattle.class_layout.specs.Tables.{class_of}
use Rattle.class_layout.specs.declared.class.Segment.{Segment}
use Rattle.payload_reading.specs.Values.{pair_values}
use Rattle.payload_writing.specs.Values.{pairs_fit}
use Rattle.payload_writing.specs.Room.{pair_room}
use Rattle.payload_writing.proofs.Loops.{IsLeft}
use Rattle.payload_writing.proofs.pairs.put_pairs.Given as goal

abbrev pub invariant-loop-pair : goal.invariant-loop-pair
invariant-loop-pair l = record {
  left : (segments : List Segment) → IsLeft l.fn.w l.w
      (flat_map (pair_bits (class_of segments l.class)) (pair_values l.pairs))
      (flat_map (pair_bits (class_of segments l.class)) (pair_values (drop l.pair-index l.pairs)));
  fit : (segments : List Segment) × IsTrue (pairs_fit (class_of segments l.class) (drop l.pair-index l.pairs));
  room : l.fn.w.spare ≤ l.w.spare + pair_room * l.pair-index;
}

use Rattle.std.proofs.Common.{◌+◌, ◌*◌, ◌≤◌, drop, map}
use Rattle.std.specs.List.{flat_map}
use Rattle.protocol_model.specs.Payload.{segment_bits}
use Rattle.class_layout.specs.Tables.{segment_at}
use Rattle.netguid_map.specs.Chains.{AreThere}
use Rattle.payload_writing.specs.Room.{segment_room}
use Rattle.payload_writing.proofs.Loops.{IsLeft}
use Rattle.payload_writing.proofs.segments.put_segments.Given as goal

abbrev pub invariant-loop-guid : goal.invariant-loop-guid
invariant-loop-guid l = record {
  left : IsLeft l.fn.w l.w (flat_map segment_bits (map (segment_at l.classes.segments) l.guids))
      (flat_map segment_bits (map (segment_at l.classes.segments) (drop l.guid-index l.guids)));
  there : AreThere l.classes.segments (drop l.guid-index l.guids);
  room : l.fn.w.spare ≤ l.w.spare + segment_room * l.guid-index;
}

use Rattle.std.proofs.Common.{◌≡◌, ◌+◌, ◌*◌, ◌≤◌, length}
use Rattle.protocol_model.specs.Limits.{update_bits}
use Rattle.protocol_model.specs.World.{class_at}
use Rattle.class_layout.specs.Tables.{table_in}
use Rattle.payload_writing.specs.Room.{pair_room}
use Rattle.payload_writing.proofs.Longest.{begun}
use Rattle.payload_writing.proofs.updates.update_payload.Given as goal

abbrev pub invariant-loop-count : goal.invariant-loop-count
invariant-loop-count l = record {
  bits : l.w.bits ≡ begun (class_at (table_in l.classes) l.fn.class) l.values l.count;
  short : length l.w.bits + 8 ≤ update_bits;
  room : l.initial.w.spare ≤ l.w.spare + pair_room * l.count;
  total : length l.w.bits + l.w.spare ≡ l.initial.w.spare + 1;
}

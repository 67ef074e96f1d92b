use Rattle.std.proofs.Common.{◌+◌, ◌*◌, ◌≤◌, drop}
use Rattle.protocol_model.specs.Payload.{octets_bits}
use Rattle.payload_writing.proofs.Loops.{IsLeft}
use Rattle.payload_writing.proofs.fields.put_octets.Given as goal

abbrev pub invariant-loop-byte : goal.invariant-loop-byte
invariant-loop-byte l = record {
  left : IsLeft l.fn.w l.w (octets_bits l.bytes) (octets_bits (drop l.byte-index l.bytes));
  room : l.fn.w.spare ≤ l.w.spare + 8 * l.byte-index;
}

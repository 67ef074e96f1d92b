use Rattle.std.proofs.Common.{◌≡◌, ◌<◌, ◌≤◌, ◌+◌, ◌*◌, ◌^◌, length}
use Rattle.protocol_laws.specs.Packed.{number_of_bytes}
use Rattle.bit_io.proofs.words.add_by_bytes.Given as goal

abbrev pub invariant-loop-left : goal.invariant-loop-left
invariant-loop-left l = record {
  same : number_of_bytes l.bytes.items + l.rest * 2 ^ l.place ≡ number_of_bytes l.initial.bytes.items + l.value * 2 ^ l.at;
  rest : l.rest < 2 ^ l.left;
  clear : number_of_bytes l.bytes.items < 2 ^ l.place;
  room : l.place + l.left ≤ 8 * length l.bytes.items;
  width : l.left ≤ 64;
  len : length l.bytes.items ≡ length l.initial.bytes.items;
}

abbrev pub decreases-loop-left : goal.decreases-loop-left
decreases-loop-left l = l.left

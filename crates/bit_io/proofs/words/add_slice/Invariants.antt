use Rattle.std.proofs.Common.{◌-◌, ◌≡◌, ◌<◌, ◌≤◌, ◌+◌, ◌*◌, ◌/◌, ◌%◌, ◌^◌, length}
use Rattle.protocol_laws.specs.Packed.{number_of_bytes}
use Rattle.bit_io.proofs.words.add_slice.Given as goal

abbrev pub invariant-loop-done : goal.invariant-loop-done
invariant-loop-done l = record {
  same : number_of_bytes l.bytes.items ≡ number_of_bytes l.initial.bytes.items + number_of_bytes l.source / 2 ^ l.from % 2 ^ l.done * 2 ^ l.at;
  clear : number_of_bytes l.bytes.items < 2 ^ (l.at + l.done);
  within : l.done ≤ l.count;
  len : length l.bytes.items ≡ length l.initial.bytes.items;
}

abbrev pub decreases-loop-done : goal.decreases-loop-done
decreases-loop-done l = l.count - l.done

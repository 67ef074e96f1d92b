use Rattle.std.proofs.Common.{◌≡◌, ◌≤◌, ◌-◌, ◌^◌, ◌/◌, ◌%◌}
use Rattle.protocol_laws.specs.Packed.{number_of_bytes}
use Rattle.bit_io.proofs.words.bits_by_bytes.Given as goal

abbrev pub invariant-loop-done : goal.invariant-loop-done
invariant-loop-done l = record {
  value : l.value ≡ number_of_bytes l.bytes / 2 ^ l.at % 2 ^ l.done;
  within : l.done ≤ l.width;
}

abbrev pub decreases-loop-done : goal.decreases-loop-done
decreases-loop-done l = l.width - l.done

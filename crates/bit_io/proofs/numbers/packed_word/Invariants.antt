use Rattle.std.proofs.Common.{◌≡◌, ◌<◌, ◌≤◌, ◌-◌, ◌*◌, ◌/◌, ◌%◌, ◌^◌, ◌++◌}
use Rattle.protocol_model.specs.Bits.{digits, packed_in, packed_bits}
use Rattle.bit_io.proofs.numbers.packed_word.Given as goal

abbrev pub invariant-loop-rest : goal.invariant-loop-rest
invariant-loop-rest l = record {
  spelling : digits l.width l.word ++ packed_in (5 - l.width / 8) l.rest ≡ packed_bits l.value;
  below : l.word < 2 ^ l.width;
  whole : l.width % 8 ≡ 0;
  bound : l.width ≤ 32;
  rest : l.rest < 2 ^ (32 - 7 * (l.width / 8));
}

abbrev pub decreases-loop-rest : goal.decreases-loop-rest
decreases-loop-rest l = l.rest

use Rattle.std.proofs.Common.{◌≡◌, take, length}
use Rattle.packet_codec.specs.Values.{recs_bits}
use Rattle.packet_codec.proofs.sizes.entries_bits.Given as goal

abbrev pub invariant-loop-rec : goal.invariant-loop-rec
invariant-loop-rec l = l.bits ≡ length (recs_bits l.version (take l.rec-index l.recs))

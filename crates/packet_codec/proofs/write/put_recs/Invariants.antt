use Rattle.std.proofs.Common.{take}
use Rattle.bit_io.specs.Written.{Appends}
use Rattle.packet_codec.specs.Values.{recs_bits}
use Rattle.packet_codec.proofs.write.put_recs.Given as goal

abbrev pub invariant-loop-rec : goal.invariant-loop-rec
invariant-loop-rec l = Appends l.fn.w l.w (recs_bits l.version (take l.rec-index l.recs))

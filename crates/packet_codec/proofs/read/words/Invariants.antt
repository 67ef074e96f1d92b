use Rattle.packet_codec.proofs.Loops.{WordsSoFar}
use Rattle.packet_codec.proofs.read.words.Given as goal

abbrev pub invariant-loop-i : goal.invariant-loop-i
invariant-loop-i l = WordsSoFar l.fn.reader l.reader l.words l.count l.i

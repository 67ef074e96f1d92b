use Rattle.std.proofs.Common.{◌-◌}
use Rattle.packet_codec.proofs.Loops.{RecsSoFar}
use Rattle.packet_codec.proofs.read.entries.Given as goal

abbrev pub invariant-loop-version : goal.invariant-loop-version
invariant-loop-version l = RecsSoFar l.version l.fn.reader l.reader l.recs.items

abbrev pub decreases-loop-version : goal.decreases-loop-version
decreases-loop-version l = l.reader.to - l.reader.place

use Rattle.std.proofs.Common.{take}
use Rattle.sample_summary.proofs.Replayed.{CountedSoFar}
use Rattle.sample_summary.proofs.replaying.count_line.Given as goal

abbrev pub invariant-loop-event : goal.invariant-loop-event
invariant-loop-event l = CountedSoFar l.classes l.fn.tally l.tally (take l.event-index l.event-items)

use Rattle.sender_steps.proofs.Showing.{ShownSoFar}
use Rattle.sender_steps.proofs.taking.show_all.Given as goal

abbrev pub invariant-loop-seen : goal.invariant-loop-seen
invariant-loop-seen l = ShownSoFar l.tick l.sight l.seen-index l.initial.records.entries l.records.entries

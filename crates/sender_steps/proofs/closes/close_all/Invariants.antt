use Rattle.sender_steps.proofs.Live.{ClosedSoFar}
use Rattle.sender_steps.proofs.closes.close_all.Given as goal

abbrev pub invariant-loop-actor : goal.invariant-loop-actor
invariant-loop-actor l = ClosedSoFar l.initial.records.entries l.initial.pending.items l.initial.table l.live l.classes
    l.sight l.tick l.actor-index l.at
    l.records.entries l.pending.items l.table

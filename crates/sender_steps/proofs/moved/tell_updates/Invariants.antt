use Rattle.sender_steps.proofs.Telling.{Tells}
use Rattle.sender_steps.proofs.moved.tell_updates.Given as goal

abbrev pub invariant-loop-sent : goal.invariant-loop-sent
invariant-loop-sent l = Tells l.from l.to l.updates l.sent-index l.initial.records.entries l.records.entries

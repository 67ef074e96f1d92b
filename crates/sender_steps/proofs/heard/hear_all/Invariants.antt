use Rattle.sender_steps.proofs.Hears.{Hears}
use Rattle.sender_steps.proofs.heard.hear_all.Given as goal

abbrev pub invariant-loop-actor : goal.invariant-loop-actor
invariant-loop-actor l = Hears l.pending l.actor-index l.initial.records.entries l.records.entries l.initial.table
    l.table

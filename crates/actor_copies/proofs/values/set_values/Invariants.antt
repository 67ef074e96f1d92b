use Rattle.actor_copies.proofs.ValueSteps.{SetSoFar}
use Rattle.actor_copies.proofs.values.set_values.Given as goal

abbrev pub invariant-loop-rest : goal.invariant-loop-rest
invariant-loop-rest l = SetSoFar l.initial.values l.values l.pairs l.rest

abbrev pub decreases-loop-rest : goal.decreases-loop-rest
decreases-loop-rest l = l.rest

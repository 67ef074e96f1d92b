use Rattle.actor_copies.proofs.Initial.{InitsSoFar}
use Rattle.actor_copies.proofs.values.initial.Given as goal

abbrev pub invariant-loop-prop : goal.invariant-loop-prop
invariant-loop-prop l = InitsSoFar l.list l.class.props l.handle l.prop-index

use Rattle.actor_copies.proofs.Following.{stands_first, stands_still}
use Rattle.actor_copies.proofs.laws.nothing_handed_on_changes_nothing.Goals as goal

pub returns-clause-first : goal.returns-clause-first
returns-clause-first c = stands_first

pub returns-clause-still : goal.returns-clause-still
returns-clause-still c = stands_still

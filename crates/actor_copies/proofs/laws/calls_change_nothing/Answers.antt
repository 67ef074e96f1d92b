use Rattle.actor_copies.proofs.Following.{call_follows}
use Rattle.actor_copies.proofs.laws.calls_change_nothing.Goals as goal

pub returns : goal.returns
returns c = call_follows

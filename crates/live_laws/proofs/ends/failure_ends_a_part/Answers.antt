use Rattle.live_laws.proofs.CallerParts.{failure_ends}
use Rattle.live_laws.proofs.ends.failure_ends_a_part.Goals as goal

pub returns : goal.returns
returns c caller part from bytes was are few nobody answer isnt =
    failure_ends caller part from bytes was are few nobody answer isnt

use Rattle.client_laws.proofs.Still.{holds_nothing, holds_still}
use Rattle.client_laws.proofs.bunches.all_holds_still.Goals as goal

pub returns-clause-first : goal.returns-clause-first
returns-clause-first c = holds_nothing

pub returns-clause-still : goal.returns-clause-still
returns-clause-still c = holds_still

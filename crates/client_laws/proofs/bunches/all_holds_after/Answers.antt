use Rattle.client_laws.proofs.After.{holds_after}
use Rattle.client_laws.proofs.bunches.all_holds_after.Goals as goal

pub returns : goal.returns
returns c = holds_after

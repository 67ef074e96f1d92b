use Rattle.driver_laws.proofs.Calling.{call_leaves}
use Rattle.driver_laws.proofs.calls_open_nothing.Goals as goal

pub returns-clause-closed : goal.returns-clause-closed
returns-clause-closed c = λ past a n args short. (call_leaves past a n args short).closed

pub returns-clause-short : goal.returns-clause-short
returns-clause-short c = λ past a n args short. (call_leaves past a n args short).short

use Rattle.sender_laws.proofs.Free.{free_is}
use Rattle.sender_laws.proofs.states.free_index_is_least.Goals as goal

pub returns : goal.returns
returns c = λ past r some free clear below. free_is past r some free clear below

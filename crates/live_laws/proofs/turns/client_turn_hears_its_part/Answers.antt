use Rattle.live_laws.proofs.CallerTurns.{caller_turn_leaves}
use Rattle.live_laws.proofs.turns.client_turn_hears_its_part.Goals as goal

pub returns : goal.returns
returns c = caller_turn_leaves

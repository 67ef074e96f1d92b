use Rattle.live_laws.proofs.ServerTurns.{turn_leaves}
use Rattle.live_laws.proofs.turns.server_turn_hears_its_part.Goals as goal

pub returns : goal.returns
returns c = turn_leaves

use Rattle.client_laws.proofs.Heard.{heard_in_turn}
use Rattle.client_laws.proofs.bunches.payloads_come_in_turn.Goals as goal

pub returns : goal.returns
returns c = heard_in_turn

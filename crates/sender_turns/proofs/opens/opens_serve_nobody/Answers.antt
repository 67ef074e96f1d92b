use Rattle.sender_turns.proofs.Offered.{unserved_open}
use Rattle.sender_turns.proofs.opens.opens_serve_nobody.Goals as goal

pub returns : goal.returns
returns c = unserved_open

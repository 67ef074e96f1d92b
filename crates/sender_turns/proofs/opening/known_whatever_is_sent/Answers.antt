use Rattle.sender_turns.proofs.KnownAfter.{made_opened}
use Rattle.sender_steps.proofs.KnownMade.{known_sent}
use Rattle.sender_turns.proofs.opening.known_whatever_is_sent.Goals as goal

pub returns-clause-sent : goal.returns-clause-sent
returns-clause-sent c = known_sent

pub returns-clause-opened : goal.returns-clause-opened
returns-clause-opened c = made_opened

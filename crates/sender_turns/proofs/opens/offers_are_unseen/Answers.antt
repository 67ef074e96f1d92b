use Rattle.sender_turns.proofs.Offered.{keeps_offers, unserved_offers}
use Rattle.sender_turns.proofs.opens.offers_are_unseen.Goals as goal

pub returns-clause-keeps : goal.returns-clause-keeps
returns-clause-keeps c = keeps_offers

pub returns-clause-unserved : goal.returns-clause-unserved
returns-clause-unserved c = unserved_offers

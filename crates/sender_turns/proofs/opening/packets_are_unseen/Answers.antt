use Rattle.sender_turns.proofs.Packed.{keeps_begun, keeps_item}
use Rattle.sender_turns.proofs.opening.packets_are_unseen.Goals as goal

pub returns-clause-begun : goal.returns-clause-begun
returns-clause-begun c = keeps_begun

pub returns-clause-item : goal.returns-clause-item
returns-clause-item c = keeps_item

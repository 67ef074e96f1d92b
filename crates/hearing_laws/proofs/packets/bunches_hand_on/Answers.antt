use Rattle.hearing_laws.proofs.Going.{hands_on}
use Rattle.hearing_laws.proofs.packets.bunches_hand_on.Goals as goal

pub returns : goal.returns
returns c = hands_on

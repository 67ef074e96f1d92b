use Rattle.hearing_laws.proofs.Unseen.{move_waiting, move_handed}
use Rattle.hearing_laws.proofs.packets.moves_are_unseen.Goals as goal

pub returns-clause-waiting : goal.returns-clause-waiting
returns-clause-waiting c = move_waiting

pub returns-clause-handed : goal.returns-clause-handed
returns-clause-handed c = move_handed

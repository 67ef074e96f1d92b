use Rattle.hearing_laws.proofs.Leading.{lead}
use Rattle.hearing_laws.proofs.moves_lead_on.Goals as goal

pub returns : goal.returns
returns c = lead

use Rattle.hearing_laws.proofs.Leading.{entry_leads}
use Rattle.hearing_laws.proofs.entry_leads_on.Goals as goal

pub returns : goal.returns
returns c = entry_leads

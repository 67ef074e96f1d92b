use Rattle.sender_laws.proofs.Samples.{by_stays}
use Rattle.sender_laws.proofs.values.later_samples_leave_values.Goals as goal

pub returns : goal.returns
returns c = λ later samples tick place above. by_stays later samples tick place above

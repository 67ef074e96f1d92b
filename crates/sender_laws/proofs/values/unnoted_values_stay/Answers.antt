use Rattle.sender_laws.proofs.Samples.{value_stays}
use Rattle.sender_laws.proofs.values.unnoted_values_stay.Goals as goal

pub returns : goal.returns
returns c = λ samples tick place e. value_stays samples tick place e

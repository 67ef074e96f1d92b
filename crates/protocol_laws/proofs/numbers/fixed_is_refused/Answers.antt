use Rattle.protocol_laws.proofs.FixedLaws.{fixed-refused}
use Rattle.protocol_laws.proofs.numbers.fixed_is_refused.Goals as goal

pub returns : goal.returns
returns c = fixed-refused

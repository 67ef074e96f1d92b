use Rattle.protocol_laws.proofs.FixedLaws.{fixed-alone}
use Rattle.protocol_laws.proofs.numbers.fixed_begins_no_other.Goals as goal

pub returns : goal.returns
returns c = fixed-alone

use Rattle.protocol_laws.proofs.IntLaws.{int-alone}
use Rattle.protocol_laws.proofs.numbers.int_begins_no_other.Goals as goal

pub returns : goal.returns
returns c = int-alone

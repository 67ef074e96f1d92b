use Rattle.protocol_laws.proofs.IntLaws.{int-refused}
use Rattle.protocol_laws.proofs.numbers.int_is_refused.Goals as goal

pub returns : goal.returns
returns c = int-refused

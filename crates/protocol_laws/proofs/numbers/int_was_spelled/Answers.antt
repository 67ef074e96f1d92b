use Rattle.protocol_laws.proofs.IntLaws.{int-spelled}
use Rattle.protocol_laws.proofs.numbers.int_was_spelled.Goals as goal

pub returns : goal.returns
returns c = int-spelled

use Rattle.protocol_laws.proofs.IntLaws.{int-read}
use Rattle.protocol_laws.proofs.numbers.int_is_read_back.Goals as goal

pub returns : goal.returns
returns c = int-read

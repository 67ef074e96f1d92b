use Rattle.protocol_laws.proofs.PackedLaws.{packed-read}
use Rattle.protocol_laws.proofs.numbers.packed_is_read_back.Goals as goal

pub returns : goal.returns
returns c = packed-read

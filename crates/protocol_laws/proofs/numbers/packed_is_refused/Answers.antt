use Rattle.protocol_laws.proofs.PackedLaws.{packed-refused}
use Rattle.protocol_laws.proofs.numbers.packed_is_refused.Goals as goal

pub returns : goal.returns
returns c = packed-refused

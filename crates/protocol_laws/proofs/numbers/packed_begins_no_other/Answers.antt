use Rattle.protocol_laws.proofs.PackedLaws.{packed-alone}
use Rattle.protocol_laws.proofs.numbers.packed_begins_no_other.Goals as goal

pub returns : goal.returns
returns c = packed-alone

use Rattle.protocol_laws.proofs.PackedLaws.{packed-spelled}
use Rattle.protocol_laws.proofs.numbers.packed_was_spelled.Goals as goal

pub returns : goal.returns
returns c = packed-spelled

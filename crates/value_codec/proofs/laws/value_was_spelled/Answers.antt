use Rattle.value_codec.proofs.Spelled.{value-was}
use Rattle.value_codec.proofs.laws.value_was_spelled.Goals as goal

pub returns : goal.returns
returns c = value-was

use Rattle.value_codec.proofs.Spelled.{value_short}
use Rattle.value_codec.proofs.laws.value_is_short.Goals as goal

pub returns : goal.returns
returns c = value_short

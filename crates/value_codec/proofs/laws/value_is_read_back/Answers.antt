use Rattle.value_codec.proofs.Back.{value-back}
use Rattle.value_codec.proofs.laws.value_is_read_back.Goals as goal

pub returns : goal.returns
returns c = value-back

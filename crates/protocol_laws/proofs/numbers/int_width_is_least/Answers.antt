use Rattle.protocol_laws.proofs.Widths.{int_width-least}
use Rattle.protocol_laws.proofs.numbers.int_width_is_least.Goals as goal

pub returns : goal.returns
returns c = λ max v below small. int_width-least max v small

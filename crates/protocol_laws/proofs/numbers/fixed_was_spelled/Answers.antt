use Rattle.protocol_laws.proofs.Reading.{leading_fixed-spelled}
use Rattle.protocol_laws.proofs.numbers.fixed_was_spelled.Goals as goal

pub returns : goal.returns
returns c = leading_fixed-spelled

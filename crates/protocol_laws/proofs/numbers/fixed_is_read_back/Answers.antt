use Rattle.protocol_laws.proofs.Reading.{leading_fixed-append}
use Rattle.protocol_laws.proofs.numbers.fixed_is_read_back.Goals as goal

pub returns : goal.returns
returns c = leading_fixed-append

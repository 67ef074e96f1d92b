use Rattle.bit_io.proofs.Places.{between-front}
use Rattle.bit_io.proofs.lent.BitReader.new.Goals as goal

pub returns-clause-left : goal.returns-clause-left
returns-clause-left c = between-front c.args.bytes.now c.args.to

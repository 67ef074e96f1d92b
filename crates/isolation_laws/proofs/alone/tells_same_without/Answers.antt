use Rattle.isolation_laws.proofs.LeftOut.{tells_same}
use Rattle.isolation_laws.proofs.alone.tells_same_without.Goals as goal

pub returns : goal.returns
returns c = tells_same

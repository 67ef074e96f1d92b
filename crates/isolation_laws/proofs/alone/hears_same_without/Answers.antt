use Rattle.isolation_laws.proofs.LeftOut.{hears_same}
use Rattle.isolation_laws.proofs.alone.hears_same_without.Goals as goal

pub returns : goal.returns
returns c = hears_same

use Rattle.isolation_laws.proofs.LeftOut.{others_out}
use Rattle.isolation_laws.proofs.alone.others_are_left_out.Goals as goal

pub returns : goal.returns
returns c = others_out

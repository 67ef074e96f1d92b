use Rattle.isolation_laws.proofs.LeftOut.{read_alone}
use Rattle.isolation_laws.proofs.alone.scripts_serve_each_alone.Goals as goal

pub returns : goal.returns
returns c = read_alone

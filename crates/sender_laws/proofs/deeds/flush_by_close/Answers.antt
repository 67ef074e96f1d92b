use Rattle.sender_laws.proofs.Makes.{flush_made}
use Rattle.sender_laws.proofs.deeds.flush_by_close.Goals as goal

pub returns : goal.returns
returns c = λ past ch a m. flush_made past ch m a

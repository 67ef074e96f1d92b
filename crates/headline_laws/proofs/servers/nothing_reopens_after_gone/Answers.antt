use Rattle.headline_laws.proofs.MarksInOrder.{marks_come}
use Rattle.headline_laws.proofs.servers.nothing_reopens_after_gone.Goals as goal

pub returns : goal.returns
returns c = λ entries player edits end past actor is ok run see. marks_come entries is player edits ok end past run see actor

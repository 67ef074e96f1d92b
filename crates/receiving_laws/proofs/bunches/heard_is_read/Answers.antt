use Rattle.receiving_laws.proofs.Reading.{heard_is_read}
use Rattle.receiving_laws.proofs.bunches.heard_is_read.Goals as goal

pub returns : goal.returns
returns c = λ end past b e. rw e (heard_is_read end.version end.budget end.table past b)

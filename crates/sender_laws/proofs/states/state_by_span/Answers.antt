use Rattle.sender_laws.proofs.Arriving.{open_by_span, close_by_span, state_stays}
use Rattle.sender_laws.proofs.states.state_by_span.Goals as goal

pub returns-clause-opens : goal.returns-clause-opens
returns-clause-opens c = λ past a mark is opens last some below. open_by_span past a mark is opens last some below

pub returns-clause-closes : goal.returns-clause-closes
returns-clause-closes c = λ past a mark is closes last. close_by_span past a mark is closes last

pub returns-clause-stays : goal.returns-clause-stays
returns-clause-stays c = λ past later a grows same rests. state_stays past later a grows same rests

use Rattle.hearing_laws.proofs.Telling.{tick_same, call_same}
use Rattle.hearing_laws.proofs.plain.only_datagrams_tell.Goals as goal

pub returns-clause-ticked : goal.returns-clause-ticked
returns-clause-ticked c = tick_same

pub returns-clause-called : goal.returns-clause-called
returns-clause-called c = λ end past a n args. call_same end.side past a n args

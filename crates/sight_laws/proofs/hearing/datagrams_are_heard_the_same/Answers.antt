use Rattle.sight_laws.proofs.Datagrams.{got_keeps, verdict_same}
use Rattle.sight_laws.proofs.hearing.datagrams_are_heard_the_same.Goals as goal

pub returns-clause-keeps : goal.returns-clause-keeps
returns-clause-keeps c = λ end past other bytes h. got_keeps end past other bytes h

pub returns-clause-verdict : goal.returns-clause-verdict
returns-clause-verdict c = λ end past other bytes h. verdict_same end past other bytes h

use Rattle.sight_laws.proofs.Calling.{call_keeps, answer_same}
use Rattle.sight_laws.proofs.hearing.calls_are_answered_the_same.Goals as goal

pub returns-clause-keeps : goal.returns-clause-keeps
returns-clause-keeps c = λ side past other a n args h. call_keeps side past other h a n args

pub returns-clause-answer : goal.returns-clause-answer
returns-clause-answer c = λ side past other a n args h. answer_same side past other h a n args

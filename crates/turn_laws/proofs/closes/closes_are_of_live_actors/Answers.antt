use Rattle.turn_laws.proofs.Closed.{closed_passed, closes_of_live}
use Rattle.turn_laws.proofs.closes.closes_are_of_live_actors.Goals as goal

pub returns-clause-passed : goal.returns-clause-passed
returns-clause-passed c = λ past a e. closed_passed past a e

pub returns-clause-live : goal.returns-clause-live
returns-clause-live c = λ past live h. closes_of_live past live h

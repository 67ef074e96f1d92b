use Rattle.turn_laws.proofs.Stepping.{closed_sight, firsts_are, tick_steps}
use Rattle.turn_laws.proofs.steps.ticks_go_by_steps.Goals as goal

pub returns-clause-sight : goal.returns-clause-sight
returns-clause-sight c = λ past sight. closed_sight past sight

pub returns-clause-first : goal.returns-clause-first
returns-clause-first c = λ end past sight some few. firsts_are end past sight some few

pub returns-clause-tick : goal.returns-clause-tick
returns-clause-tick c = λ end past sight alive order some few. tick_steps end past sight alive order some few

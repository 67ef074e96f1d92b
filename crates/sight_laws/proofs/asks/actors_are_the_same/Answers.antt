use Rattle.sight_laws.proofs.Unsighted.{carry_same, due_pairs_same, settled_same, count_same, service_same}
use Rattle.sight_laws.proofs.Relevance.{idle_same, first_same, score_same}
use Rattle.sight_laws.proofs.asks.actors_are_the_same.Goals as goal

pub returns-clause-carry : goal.returns-clause-carry
returns-clause-carry c = λ past other a h s. carry_same past other s.done a h

pub returns-clause-due : goal.returns-clause-due
returns-clause-due c = λ past other seen h. due_pairs_same past other h.done seen

pub returns-clause-settled : goal.returns-clause-settled
returns-clause-settled c = λ past other seen h. settled_same past other h.done seen

pub returns-clause-ticks : goal.returns-clause-ticks
returns-clause-ticks c = λ past other h. count_same past other h.done

pub returns-clause-idle : goal.returns-clause-idle
returns-clause-idle c = λ past other a h. idle_same past other h a

pub returns-clause-first : goal.returns-clause-first
returns-clause-first c = λ past other a h. first_same past other h a

pub returns-clause-service : goal.returns-clause-service
returns-clause-service c = λ past other a h. service_same past other h.done a

pub returns-clause-score : goal.returns-clause-score
returns-clause-score c = λ past other seen h. score_same past other h seen

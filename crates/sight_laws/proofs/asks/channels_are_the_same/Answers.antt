use Rattle.sight_laws.proofs.Unsighted.{states_same, indexes_same, class_same, free_same, needed_same, known_same}
use Rattle.sight_laws.proofs.asks.channels_are_the_same.Goals as goal

pub returns-clause-state : goal.returns-clause-state
returns-clause-state c = λ past other a h. states_same past other h.done a

pub returns-clause-index : goal.returns-clause-index
returns-clause-index c = λ past other a h. indexes_same past other h.done a

pub returns-clause-class : goal.returns-clause-class
returns-clause-class c = λ past other a h. class_same past other h.done a

pub returns-clause-free : goal.returns-clause-free
returns-clause-free c = λ past other h. free_same past other h.done

pub returns-clause-needed : goal.returns-clause-needed
returns-clause-needed c = λ past other class h. needed_same past other h.done class

pub returns-clause-known : goal.returns-clause-known
returns-clause-known c = λ past other g h. known_same past other h.done g

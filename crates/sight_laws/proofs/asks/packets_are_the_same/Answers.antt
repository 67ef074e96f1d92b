use Rattle.sight_laws.proofs.Unsighted.{ended_same, sent_same, moved_same, fate_same, owed_same, header_same}
use Rattle.sight_laws.proofs.asks.packets_are_the_same.Goals as goal

pub returns-clause-ended : goal.returns-clause-ended
returns-clause-ended c = λ past other h. ended_same past other h.done

pub returns-clause-last : goal.returns-clause-last
returns-clause-last c = λ past other h. sent_same past other h.done

pub returns-clause-moved : goal.returns-clause-moved
returns-clause-moved c = λ past other h. moved_same past other h.done

pub returns-clause-fate : goal.returns-clause-fate
returns-clause-fate c = λ past other n h. fate_same past other h.done n

pub returns-clause-owed : goal.returns-clause-owed
returns-clause-owed c = λ past other v h. owed_same past other h.done v

pub returns-clause-head : goal.returns-clause-head
returns-clause-head c = λ past other v h. header_same past other h.done v

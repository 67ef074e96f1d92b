use Rattle.channel_laws.proofs.Alike.{same_span, same_room}
use Rattle.sight_laws.proofs.Unsighted.{alike, arrivals_same, due_same, waiting_same}
use Rattle.sight_laws.proofs.asks.bunches_are_the_same.Goals as goal

pub returns-clause-count : goal.returns-clause-count
returns-clause-count c = λ past other ch h. (alike past other h.done).made.count ch

pub returns-clause-arrived : goal.returns-clause-arrived
returns-clause-arrived c = λ past other ch n h. arrivals_same past other h.done ch n

pub returns-clause-span : goal.returns-clause-span
returns-clause-span c = λ past other ch h. same_span past other (alike past other h.done) ch

pub returns-clause-room : goal.returns-clause-room
returns-clause-room c = λ past other ch h. same_room past other (alike past other h.done) ch

pub returns-clause-due : goal.returns-clause-due
returns-clause-due c = λ past other h. due_same past other h.done

pub returns-clause-waiting : goal.returns-clause-waiting
returns-clause-waiting c = λ past other h. waiting_same past other h.done

use Rattle.protocol_model.specs.Payload.{Opens}
use Rattle.connection_model.specs.Bunches.{after_making}
use Rattle.turn_laws.proofs.Untouched.{other_opens, wants_stays, due_stays}
use Rattle.turn_laws.proofs.turns.opens_leave_other_actors.Goals as goal

pub returns-clause-state : goal.returns-clause-state
returns-clause-state c = λ past ch exports seen other ne. (other_opens past ch seen exports other.actor ne).state

pub returns-clause-index : goal.returns-clause-index
returns-clause-index c = λ past ch exports seen other ne. (other_opens past ch seen exports other.actor ne).index

pub returns-clause-wants : goal.returns-clause-wants
returns-clause-wants c = λ past ch exports seen other ne.
    wants_stays past (after_making past ch (Opens exports seen.actor seen.class seen.values)) other
    (other_opens past ch seen exports other.actor ne)

pub returns-clause-due : goal.returns-clause-due
returns-clause-due c = λ past ch exports seen other ne.
    due_stays past (after_making past ch (Opens exports seen.actor seen.class seen.values)) other
    (other_opens past ch seen exports other.actor ne)

use Rattle.protocol_model.specs.Side.{AtClient}
use Rattle.connection_model.specs.CallAnswers.{after_call}
use Rattle.client_sending.proofs.laws.sending_changes_no_copy.Goals as goal

pub returns-clause-call : goal.returns-clause-call
returns-clause-call c = λ layout copies past actor number args h.
    c.nothing_handed_on_changes_nothing.ensures.still layout copies past (after_call AtClient past actor number args)
    (c.ticks_and_calls_deliver_nothing.ensures.call AtClient past actor number args) h

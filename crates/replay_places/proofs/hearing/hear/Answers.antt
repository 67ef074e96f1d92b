use Rattle.std.proofs.Common.{List, subst}
use Rattle.protocol_model.specs.Side.{AtClient}
use Rattle.handovers.specs.Handovers.{Handover}
use Rattle.class_layout.specs.Tables.{table_in}
use Rattle.replay_places.specs.Doing.{Adds, handover_reports}
use Rattle.replay_places.proofs.hearing.hear.Goals as goal

pub returns-clause-told : goal.returns-clause-told
returns-clause-told c = λ past h.
    subst (λ (hs : List Handover). Adds (table_in c.args.client.now.layout) c.args.events.now c.tell_handed.new.events
    (handover_reports AtClient c.args.player hs))
    (c.in_ok-outcome.ensures.handed past h) (c.in_ok-tell_handed.ensures c.args.client.now.layout)

use Rattle.std.proofs.Common.{◌∙◌, sym, subst}
use Rattle.protocol_model.specs.Side.{AtServer}
use Rattle.shadow_changes.specs.Samples.{samples_of}
use Rattle.sender_records.specs.declared.actor.ActorRecord.{ActorRecord}
use Rattle.sender_records.specs.Actors.{KeepsActor}
use Rattle.actor_sender.proofs.sender.ActorSender.settled.Goals as goal

pub returns-in-Some : goal.returns-in-Some
returns-in-Some c = λ past samples h.
    c.is_settled.ensures AtServer past (samples_of samples c.args.seen.now.actor)
    (subst (λ (r : ActorRecord). KeepsActor past (samples_of samples c.args.seen.now.actor) c.args.seen.now.actor r)
    (sym c.in-Some.ensures) (h.sender.each c.args.seen.now.actor))
    h.table.bunches

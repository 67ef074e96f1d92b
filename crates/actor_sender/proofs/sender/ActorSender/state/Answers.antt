use Rattle.std.proofs.Common.{◌∙◌, ap, sym}
use Rattle.sender_records.specs.declared.actor.ActorRecord.{ActorRecord}
use Rattle.sender_records.specs.Life.{state_value}
use Rattle.actor_sender.proofs.sender.ActorSender.state.Goals as goal

pub returns-in-Some : goal.returns-in-Some
returns-in-Some c = λ past samples h. ap (λ (r : ActorRecord). state_value r.life.state) c.in-Some.ensures
    ∙ (h.each c.args.actor).life.state

pub returns-in-None : goal.returns-in-None
returns-in-None c = λ past samples h. ap (λ (r : ActorRecord). state_value r.life.state) c.in-None.ensures
    ∙ (h.each c.args.actor).life.state

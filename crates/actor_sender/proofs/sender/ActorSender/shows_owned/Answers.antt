use Rattle.std.proofs.Common.{◌≡◌, ◌∙◌, ℕ, ap, sym, subst}
use Rattle.sender_records.specs.declared.actor.ActorRecord.{ActorRecord}
use Rattle.sender_records.specs.Service.{KeepsService, fresh_service}
use Rattle.sender_steps.specs.Sender.{Sender}
use Rattle.actor_sender.proofs.sender.ActorSender.shows_owned.Goals as goal

pub returns-in-Some : goal.returns-in-Some
returns-in-Some c = λ past samples h.
    c.owned.ensures past c.args.actor
    (subst (λ (r : ActorRecord). KeepsService past c.args.actor r.service) (sym c.in-Some.ensures)
    (h.each c.args.actor).service)
    (ap (λ (s : Sender). s.ticks) c.self.view_is ∙ h.ticks)

pub returns-in-None : goal.returns-in-None
returns-in-None c = λ past samples h.
    let k : KeepsService past c.args.actor fresh_service = subst
    (λ (r : ActorRecord). KeepsService past c.args.actor r.service) (sym c.in-None.ensures)
    (h.each c.args.actor).service in
    sym k.owned

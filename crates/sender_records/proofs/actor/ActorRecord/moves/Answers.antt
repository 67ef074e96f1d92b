use Rattle.std.proofs.Common.{◌∙◌, sym}
use Rattle.sender_laws.proofs.Views.{ticks_alike, sight_alike, service_alike}
use Rattle.sender_laws.proofs.Fated.{moved_grows}
use Rattle.sender_records.proofs.ServiceSteps.{service_same}
use Rattle.sender_records.proofs.actor.ActorRecord.moves.Goals as goal

pub returns-clause-keeps : goal.returns-clause-keeps
returns-clause-keeps c = λ past later samples actor k m clear. record {
  life =
      c.hears.ensures.keeps past later actor k.life
      (record { done = m.done; grows = moved_grows c.args.from c.args.to past later m; all = clear });
  service =
      service_same past later actor c.args.self.now.service (ticks_alike past later m.done)
      (sight_alike past later m.done) (service_alike past later m.done actor) k.service;
  handles = λ o. c.moves.ensures.keeps past later actor samples (k.handles (sym c.hears.ensures.same_open ∙ o)) m;
}

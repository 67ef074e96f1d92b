use Rattle.std.proofs.Common.{map, refl}
use Rattle.std.proofs.lemmas.Bool.{eq-eqb}
use Rattle.protocol_model.specs.Payload.{Updates}
use Rattle.connection_model.specs.Feed.{Loose}
use Rattle.sender_records.specs.Handles.{pair_value}
use Rattle.sender_records.proofs.Frames.{life_sent}
use Rattle.sender_records.proofs.actor.ActorRecord.carries.Goals as goal

pub returns-clause-keeps : goal.returns-clause-keeps
returns-clause-keeps c = λ items class bunch past samples actor k none new some apart agrees now. record {
  life =
      life_sent c.args.packet c.args.tick items
      (Loose (Updates actor class (map pair_value c.args.values.now)) bunch) past actor c.args.self.now.life new tt
      k.life;
  service =
      c.serves.ensures.updated c.args.packet actor items
      (Loose (Updates actor class (map pair_value c.args.values.now)) bunch) past k.service
      (eq-eqb actor actor refl) some;
  handles =
      λ o. c.carries.ensures.keeps c.args.tick items class bunch past actor samples
      (k.handles o) none new apart agrees now;
}

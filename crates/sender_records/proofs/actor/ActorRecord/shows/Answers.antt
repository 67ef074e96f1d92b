use Rattle.std.proofs.Common.{◌∷◌, refl, arith}
use Rattle.connection_model.specs.Feed.{Ticked}
use Rattle.sender_laws.proofs.Ticks.{count_ticked}
use Rattle.sender_records.proofs.Frames.{life_ticked, handles_like}
use Rattle.sender_records.proofs.actor.ActorRecord.shows.Goals as goal

pub returns : goal.returns
returns c = record {
  keeps = λ past sight samples actor k now shown owned. record {
    life = life_ticked past c.args.tick sight actor c.args.self.now.life k.life;
    service = c.shows.ensures.keeps past sight actor k.service now shown owned;
    handles =
        λ o. handles_like past (Ticked c.args.tick sight ∷ past) samples actor c.args.self.now.handles (λ h. refl) refl
        (omega (arith, count_ticked past c.args.tick sight)) (k.handles o);
  };
}

use Rattle.std.proofs.Common.{◌∙◌, [], sym, ap, refl}
use Rattle.std.proofs.lemmas.Bool.{false≢true}
use Rattle.protocol_model.specs.Payload.{Gone}
use Rattle.connection_model.specs.Bunches.{after_making}
use Rattle.connection_model.specs.State.{is_open}
use Rattle.sender_laws.proofs.Makes.{ticks_under, sight_under, service_elsewhere}
use Rattle.sender_records.specs.declared.state.ActorState.{ActorState}
use Rattle.sender_records.specs.Life.{state_value}
use Rattle.sender_records.proofs.ServiceSteps.{service_same}
use Rattle.sender_records.proofs.actor.ActorRecord.goes.Goals as goal

pub returns : goal.returns
returns c = record {
  keeps = λ past samples actor ch k. record {
    life = c.goes.ensures.keeps past actor ch k.life;
    service =
        service_same past (after_making past ch (Gone actor)) actor c.args.self.now.service
        (ticks_under [] past ch (Gone actor))
        (sight_under [] past ch (Gone actor)) (service_elsewhere [] past refl ch (Gone actor) actor refl) k.service;
    handles =
        λ o. absurd (false≢true (sym (ap (λ (s : ActorState). is_open (state_value s)) c.goes.ensures.state) ∙ o));
  };
}

use Rattle.std.proofs.Common.{◌∙◌, [], sym, ap, refl}
use Rattle.std.proofs.lemmas.Bool.{false≢true}
use Rattle.protocol_model.specs.Payload.{Closes}
use Rattle.connection_model.specs.Bunches.{after_making}
use Rattle.connection_model.specs.State.{is_open}
use Rattle.sender_laws.proofs.Makes.{ticks_under, sight_under, service_elsewhere}
use Rattle.sender_records.specs.declared.state.ActorState.{ActorState}
use Rattle.sender_records.specs.Life.{state_value}
use Rattle.sender_records.proofs.ServiceSteps.{service_same}
use Rattle.sender_records.proofs.actor.ActorRecord.closes.Goals as goal

pub returns : goal.returns
returns c = record {
  keeps = λ past samples actor ch k at made seen. record {
    life = c.closes.ensures.keeps past actor ch k.life at made seen;
    service =
        service_same past (after_making past ch (Closes actor c.args.sleeps)) actor c.args.self.now.service
        (ticks_under [] past ch (Closes actor c.args.sleeps))
        (sight_under [] past ch (Closes actor c.args.sleeps))
        (service_elsewhere [] past refl ch (Closes actor c.args.sleeps) actor refl) k.service;
    handles =
        λ o. absurd (false≢true (sym (ap (λ (s : ActorState). is_open (state_value s)) c.closes.ensures.state) ∙ o));
  };
}

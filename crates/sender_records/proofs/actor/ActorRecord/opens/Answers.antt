use Rattle.std.proofs.Common.{refl}
use Rattle.std.proofs.lemmas.Bool.{eq-eqb}
use Rattle.protocol_model.specs.Payload.{Opens}
use Rattle.sender_records.specs.Handles.{pairs_of}
use Rattle.sender_records.proofs.actor.ActorRecord.opens.Goals as goal

pub returns-clause-keeps : goal.returns-clause-keeps
returns-clause-keeps c = λ sent past actor exports shown samples k e none made clear now some sampled turn. record {
  life = c.opens-2.ensures.keeps sent past exports actor shown (pairs_of c.args.values.now) k.life e made clear;
  service =
      c.serves.ensures.opened sent past c.args.index actor (Opens exports actor shown (pairs_of c.args.values.now))
      k.service e none (eq-eqb actor actor refl) now some;
  handles = λ o. c.in_ok-opens.ensures.keeps sent past c.args.index actor exports shown samples e none now sampled turn;
}

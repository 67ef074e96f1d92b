use Rattle.std.proofs.Common.{inr, map}
use Rattle.value_codec.specs.Values.{arg_of}
use Rattle.replay_places.proofs.Delivered.{on_ok_then}
use Rattle.replay_core.proofs.Heard.{has_seat}
use Rattle.replay_core.proofs.Served.{called_done, made_at}
use Rattle.replay_core.proofs.server.call.Goals as goal

pub call-requires : goal.call-requires
call-requires c =
    let r = c.requires.there in
    record {
      stands = inr (
        r.5.served,
        r.5.serves,
        has_seat r.0 c.args.driver.now r.1 r.2 r.3 r.4 c.args.player r.5 r.6 r.7,
        made_at r.0 c.args.driver.now r.1 r.2 c.args.actor c.args.number c.args.args.now r.5 r.8,
      );
    }

pub returns : goal.returns
returns c =
    on_ok_then c.push.result _ _ c.push.ensures.ok
    (λ pushes layout edits players i p h at who. called_done layout c.args.driver.now c.call.new.self edits players i p
    c.args.player c.args.actor c.args.number
    (map arg_of c.args.args.now) c.in_ok-answer.answer _ _ h at who
    c.in_ok-answer.ensures.serves c.in_ok-answer.ensures.layout c.in_ok-answer.ensures.answer pushes)

use Rattle.std.proofs.Common.{inr}
use Rattle.replay_places.proofs.Delivered.{on_ok_then}
use Rattle.replay_core.proofs.Heard.{has_seat}
use Rattle.replay_core.proofs.Served.{settled_done}
use Rattle.replay_core.proofs.server.settled.Goals as goal

pub settled-requires : goal.settled-requires
settled-requires c =
    let r = c.requires.there in
    record {
      stands = inr (
        r.5.served,
        r.5.serves,
        has_seat r.0 c.args.driver.now r.1 r.2 r.3 r.4 c.args.player r.5 r.6
            r.7,
      );
    }

pub returns : goal.returns
returns c =
    on_ok_then c.push.result _ _ c.push.ensures.ok
    (λ pushes layout edits players i p h at who. settled_done layout c.args.driver.now edits players i p c.args.player
    c.args.actor c.in_ok-holds.holds _ _ h at who
    c.in_ok-holds.ensures.settled pushes)

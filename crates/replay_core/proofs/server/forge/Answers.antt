use Rattle.replay_places.proofs.Delivered.{on_ok_then}
use Rattle.replay_core.proofs.Served.{forged_done}
use Rattle.replay_core.proofs.server.forge.Goals as goal

pub returns : goal.returns
returns c =
    on_ok_then c.push.result _ _ c.push.ensures.ok
    (λ pushes layout edits players i p h at who. forged_done layout c.args.driver.now c.hear.new.driver edits players i
    p c.args.player c.args.bytes.now
    c.in_ok-verdict.verdict _ _ _ h at who (c.in_ok-verdict.ensures layout) pushes)

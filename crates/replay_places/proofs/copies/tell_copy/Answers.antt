use Rattle.replay_places.proofs.Copied.{copy_told}
use Rattle.replay_places.proofs.Delivered.{on_ok_then}
use Rattle.replay_places.proofs.copies.tell_copy.Goals as goal

pub returns : goal.returns
returns c =
    on_ok_then c.push.result _ _ c.push.ensures.ok
    (λ pushes layout. copy_told layout c.args.player c.args.copy.now c.in_ok-values.values _ _ c.in_ok-values.ensures
    pushes)

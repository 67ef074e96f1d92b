use Rattle.actor_lists.proofs.Counts.{found_more}
use Rattle.actor_lists.proofs.pieces.has.Goals as goal

pub loop-other-preserved : goal.loop-other-preserved
loop-other-preserved c =
    rw c.eq-found.ensures
    (found_more c.loop-other.found c.args.actor c.args.actors.now c.loop-other.other-index c.other-item.result
    c.loop-other-test.true c.other-item.is c.loop-other.invariant)

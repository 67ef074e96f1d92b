use Rattle.std.proofs.Common.{arith}
use Rattle.std.proofs.lemmas.Bool.Decides.{nat_tests}
use Rattle.actor_lists.proofs.Counts.{count_of-more}
use Rattle.actor_lists.proofs.pieces.index_of.Goals as goal

pub loop-index-preserved : goal.loop-index-preserved
loop-index-preserved c =
    let more =
    count_of-more c.args.actor c.args.actors.now c.loop-index.index c.index-actors-index.result
    c.loop-index-test.true c.index-actors-index.is in
    grind (arith, nat_tests)

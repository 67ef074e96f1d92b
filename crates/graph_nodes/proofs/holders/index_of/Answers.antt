use Rattle.std.proofs.Common.{arith}
use Rattle.std.proofs.lemmas.Bool.Decides.{nat_tests}
use Rattle.actor_lists.proofs.Counts.{count_of-more}
use Rattle.graph_nodes.proofs.holders.index_of.Goals as goal

pub loop-index-preserved : goal.loop-index-preserved
loop-index-preserved c =
    let more =
    count_of-more c.args.player c.args.players.now c.loop-index.index c.index-players-index.result
    c.loop-index-test.true c.index-players-index.is in
    grind (arith, nat_tests)

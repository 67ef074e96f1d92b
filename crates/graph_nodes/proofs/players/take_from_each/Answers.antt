use Rattle.std.proofs.Common.{◌==◌}
use Rattle.actor_lists.proofs.Counts.{count_of-more}
use Rattle.graph_nodes.proofs.PlayerLists.{taken_more}
use Rattle.graph_nodes.proofs.players.take_from_each.Goals as goal

pub loop-player-preserved : goal.loop-player-preserved
loop-player-preserved c = λ k a.
    taken_more c.player-item.result k _ _ (c.args.actor == a) _ _ _
    (count_of-more k c.args.players.now c.loop-player.player-index c.player-item.result c.loop-player-test.true
    c.player-item.is)
    (c.loop-player.invariant k a) (c.in_ok-take.ensures k a)

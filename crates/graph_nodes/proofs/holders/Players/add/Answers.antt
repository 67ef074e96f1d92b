use Rattle.std.proofs.Common.{arith}
use Rattle.actor_lists.proofs.Counts.{count_of-push}
use Rattle.graph_nodes.proofs.holders.Players.add.Goals as goal

pub returns-clause-ok : goal.returns-clause-ok
returns-clause-ok c = λ p.
    let more = count_of-push p c.self.inside.players.items c.args.player in
    rw (c.in_ok-push.ensures.items, ← c.self.view_is) (omega arith)

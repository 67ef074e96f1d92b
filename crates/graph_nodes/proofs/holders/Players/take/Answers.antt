use Rattle.std.proofs.Common.{arith}
use Rattle.actor_lists.proofs.Counts.{count_of-remove}
use Rattle.graph_nodes.proofs.holders.Players.take.Goals as goal

pub returns-in-Some : goal.returns-in-Some
returns-in-Some c = λ p.
    let there = rw c.deref.ensures.value at c.in-Some.ensures.some in
    let less = count_of-remove p c.self.inside.players.items c.in-Some.index c.args.player there in
    rw (c.remove.ensures.items, ← c.self.view_is) (omega arith)

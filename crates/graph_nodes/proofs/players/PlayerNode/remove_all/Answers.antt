use Rattle.std.proofs.Common.{subst, sym}
use Rattle.graph_nodes.specs.Players.{Kept, Stands}
use Rattle.graph_nodes.proofs.PlayerLists.{removed_all}
use Rattle.graph_nodes.proofs.players.PlayerNode.remove_all.Goals as goal

pub returns-clause-stands : goal.returns-clause-stands
returns-clause-stands c = λ spots stands.
    removed_all _ _ spots c.args.actor
    (rw (c.as_slice.ensures, c.take_all-players.ensures.players) at c.in_ok-take_from_each.ensures)
    c.take_all-players.ensures.others
    (subst (λ (n : Kept). Stands n spots) (sym c.self.view_is) stands)

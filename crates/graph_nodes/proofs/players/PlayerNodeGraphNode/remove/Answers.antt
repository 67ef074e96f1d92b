use Rattle.std.proofs.Common.{subst, sym}
use Rattle.graph_nodes.specs.Held.{player_in}
use Rattle.graph_nodes.specs.Players.{Kept, Stands}
use Rattle.graph_nodes.proofs.PlayerLists.{removed}
use Rattle.graph_nodes.proofs.players.PlayerNodeGraphNode.remove.Goals as goal

pub returns-clause-stands : goal.returns-clause-stands
returns-clause-stands c = λ spots stands.
    removed _ _ spots c.args.actor (player_in c.args.player) (rw c.named-player.ensures at c.in_ok-take.ensures)
    (rw c.named-player.ensures at c.take-2.ensures)
    (subst (λ (n : Kept). Stands n spots) (sym c.self.view_is) stands)

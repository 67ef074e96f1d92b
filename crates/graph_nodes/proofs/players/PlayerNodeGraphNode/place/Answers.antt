use Rattle.std.proofs.Common.{subst, sym}
use Rattle.graph_nodes.specs.Held.{spot_in}
use Rattle.graph_nodes.specs.Players.{Kept, Stands}
use Rattle.graph_nodes.proofs.PlayerLists.{placed}
use Rattle.graph_nodes.proofs.players.PlayerNodeGraphNode.place.Goals as goal

pub returns-clause-stands : goal.returns-clause-stands
returns-clause-stands c = λ spots stands can.
    placed _ _ spots (spot_in c.args.s) (rw c.named-player.ensures at c.in_ok-add.ensures)
    (rw c.named-player.ensures at c.in_ok-add-2.ensures)
    (subst (λ (n : Kept). Stands n spots) (sym c.self.view_is) stands) can

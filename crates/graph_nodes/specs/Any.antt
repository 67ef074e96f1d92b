-- What a node of any row means.
use Rattle.std.specs.Prelude.{ℕ, Bool, List, nat_eq, ◌==◌, [], if◌then◌else◌}
use Rattle.graph_model.specs.Nodes as row
use Rattle.graph_model.specs.Nodes.{Viewer}
use Rattle.graph_nodes.specs.declared.any.AnyNode.{AnyNode}
use Rattle.graph_nodes.specs.declared.any.AnyNode.TheVariants.{Grid, Always, Player, Dormant, Team}
use Rattle.graph_nodes.specs.Held.{Spots}
use Rattle.actor_lists.specs.Shared.{list_at}
use Rattle.graph_nodes.specs.Always as always
use Rattle.graph_nodes.specs.Players as players
use Rattle.graph_nodes.specs.Teams as teams
use Rattle.graph_nodes.specs.Grid as grid
use Rattle.graph_nodes.specs.Dormant as dormant

abbrev pub row_of : AnyNode → row.Node
row_of (Grid node) = row.GridNode
row_of (Always node) = row.AlwaysNode
row_of (Player node) = row.PlayerNode
row_of (Dormant node) = row.DormantNode
row_of (Team node) = row.TeamNode

-- the node of that row stands for the spots
abbrev pub Stands : AnyNode → Spots → Type 0
Stands (Grid node) spots = grid.Stands node spots
Stands (Always node) spots = always.Stands node spots
Stands (Player node) spots = players.Stands node spots
Stands (Dormant node) spots = dormant.Stands node spots
Stands (Team node) spots = teams.Stands node spots

abbrev pub given_by : AnyNode → Viewer → List ℕ
given_by (Grid node) v = grid.given_by node v
given_by (Always node) v = node.actors
given_by (Player node) v = list_at nat_eq node.lists v.player
given_by (Dormant node) v = dormant.given_by node v
given_by (Team node) v = if v.team == 0 then [] else list_at nat_eq node.members.lists v.team

abbrev pub is_spent : AnyNode → Bool
is_spent (Grid node) = node.spent
is_spent (Always node) = node.spent
is_spent (Player node) = node.spent
is_spent (Dormant node) = node.spent
is_spent (Team node) = node.spent

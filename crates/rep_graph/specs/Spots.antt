-- The spots that each node holds for a world.
use Rattle.std.specs.Prelude.{◌≡◌, ℕ, ◌==◌, Bool, ◌&&◌, List, [], ◌∷◌, count_by, find, if◌then◌else◌}
use Rattle.std.specs.List.{Contains}
use Rattle.std.specs.Bool.{then_some}
use Rattle.graph_model.specs.Nodes.{Node, GridNode, AlwaysNode, PlayerNode, DormantNode, TeamNode, Spot, is_held_in, spot_of}
use Rattle.protocol_model.specs.Value.{Table}
use Rattle.protocol_model.specs.World.{Edits}
use Rattle.graph_nodes.specs.Held.{Spots}

-- the rows of the table of nodes, in their order
abbrev pub rows : List Node
rows = GridNode ∷ AlwaysNode ∷ PlayerNode ∷ DormantNode ∷ TeamNode ∷ []

-- the spots that the row names for the world
abbrev pub world_spots : Node → Table → Edits → Spots
world_spots row table edits a player = then_some (is_held_in row table edits a player) (spot_of table edits a player)

-- the spot is of this actor and this player
abbrev pub is_of : (actor player : ℕ) → Spot → Bool
is_of a player spot = spot.actor == a && spot.player == player

-- the spots of a list, by actor and player
abbrev pub listed_spots : List Spot → Spots
listed_spots spots a player = find (is_of a player) spots

-- the list has exactly the spots that the row names for the world, each pair of an actor and a player once
pub record HoldsSpots (row : Node) (table : Table) (edits : Edits) (spots : List Spot) : Type 0 where
  pub each : (spot : Spot) → Contains spots spot → spot ≡ spot_of table edits spot.actor spot.player
  pub counts : (a player : ℕ)
      → count_by (is_of a player) spots ≡ (if is_held_in row table edits a player then 1 else 0)

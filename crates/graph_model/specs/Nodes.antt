-- The nodes of the Replication Graph: which spots each holds for a world, and which viewers it admits.
-- Together they admit each viewer to whom the actor is relevant, and others, since cells are coarser than distances.
use Rattle.std.specs.Prelude.{ℕ, ◌==◌, Bool, true, false, not, ◌&&◌, ◌||◌, nat_le, ℤ, pos, int_le, ◌+ℤ◌, ◌-ℤ◌}
use Rattle.std.specs.Int.{int_div_euclid}
use Rattle.protocol_model.specs.Value.{Table, is_always, is_owner_only}
use Rattle.protocol_model.specs.declared.Reach.{Reach}
use Rattle.protocol_model.specs.declared.Reach.TheVariants.{Always, Near, Owner}
use Rattle.protocol_model.specs.World.{Edits, class_of, lives, value_of, owns, is_added, is_dormant, given_of, team_of, viewer_of}

-- cells are squares of 10,000
abbrev pub cell_of : ℤ → ℤ
cell_of v = int_div_euclid v (pos 10000)

-- from v - r to v + r, ends included, touches the cell of the viewer
abbrev pub touches : (cull : ℕ) → (v viewer : ℤ) → Bool
touches cull v viewer =
    int_le (cell_of (v -ℤ pos cull)) (cell_of viewer) && int_le (cell_of viewer) (cell_of (v +ℤ pos cull))

-- the nodes: near actors by cells, those relevant to all, a player's own and added ones, sleeping ones, a team's
pub data Node : Type 0 where
  GridNode : Node
  AlwaysNode : Node
  PlayerNode : Node
  DormantNode : Node
  TeamNode : Node

-- an actor as a node holds it; player 0 is none
pub record Spot : Type 0 where
  pub actor : ℕ
  pub x : ℤ
  pub y : ℤ
  pub reach : Reach
  pub player : ℕ
  pub team : ℕ

-- where a player looks from, and its team
pub record Viewer : Type 0 where
  pub player : ℕ
  pub x : ℤ
  pub y : ℤ
  pub team : ℕ

-- the spot of an actor of the world, for a player in the player's node alone
abbrev pub spot_of : Table → Edits → (actor player : ℕ) → Spot
spot_of table edits a player = record {
  actor = a;
  x = value_of table edits a 1;
  y = value_of table edits a 2;
  reach = (class_of table edits a).reach;
  player = player;
  team = given_of edits a;
}

-- how the player views the world
abbrev pub viewer_at : Edits → (player : ℕ) → Viewer
viewer_at edits player = record {
  player = player;
  x = (viewer_of edits player).0;
  y = (viewer_of edits player).1;
  team = team_of edits player;
}

-- the actor is relevant to those within its cull distance
abbrev pub is_near : Reach → Bool
is_near (Near cull) = true
is_near Always = false
is_near Owner = false

-- the node's rule for a living actor, and a player where there is one
abbrev pub belongs : Node → Reach → (dormant : Bool) → Edits → (actor player : ℕ) → Bool
belongs GridNode reach dormant edits a player = player == 0 && is_near reach && not dormant
belongs AlwaysNode reach dormant edits a player = player == 0 && is_always reach && not dormant
belongs PlayerNode reach dormant edits a player =
    owns edits player a || (not (is_owner_only reach) && nat_le 1 player && is_added edits a player)
belongs DormantNode reach dormant edits a player = player == 0 && not (is_owner_only reach) && dormant
belongs TeamNode reach dormant edits a player = player == 0 && not (is_owner_only reach) && not (given_of edits a == 0)

-- the node holds the pair; a destroyed actor is held nowhere
abbrev pub is_held_in : Node → Table → Edits → (actor player : ℕ) → Bool
is_held_in node table edits a player =
    lives edits a && belongs node (class_of table edits a).reach (is_dormant edits a) edits a player

-- as the grid, or the node of those relevant to all
abbrev pub admits_by_reach : Reach → Spot → Viewer → Bool
admits_by_reach (Near cull) s v = touches cull s.x v.x && touches cull s.y v.y
admits_by_reach Always s v = true
admits_by_reach Owner s v = false

-- the node gives the spot's actor to the viewer
abbrev pub admits : Node → Spot → Viewer → Bool
admits GridNode s v = admits_by_reach s.reach s v
admits AlwaysNode s v = true
admits PlayerNode s v = s.player == v.player
admits DormantNode s v = admits_by_reach s.reach s v
admits TeamNode s v = s.team == v.team && not (v.team == 0)

-- What a node holds: spots, each by its actor and its player, in no order.
use Rattle.std.specs.Prelude.{◌≡◌, ℕ, Bool, true, ◌&&◌, not, ◌==◌, nat_le, Option, Some, None, IsSome, unwrap_or, if◌then◌else◌}
use Rattle.protocol_model.specs.declared.Reach.{Reach}
use Rattle.protocol_model.specs.declared.Reach.TheVariants.{Always, Near, Owner}
use Rattle.protocol_model.specs.Limits.{cull_limit}
use Rattle.protocol_model.specs.Value.{is_always, is_owner_only}
use Rattle.graph_model.specs.Nodes.{Node, GridNode, AlwaysNode, PlayerNode, DormantNode, TeamNode, Spot, Viewer, is_near}
use Rattle.graph_nodes.specs.declared.spot.Spot.{Spot as Given}
use Rattle.graph_nodes.specs.declared.spot.Viewer.{Viewer as Looks}

-- the spots of a node: the one of an actor and a player, 0 for no player, where there is one
abbrev pub Spots : Type 0
Spots = (actor player : ℕ) → Option Spot

-- no spots
abbrev pub no_spots : Spots
no_spots a p = None

-- the same, and this spot in place of the one that its pair had
abbrev pub with_spot : Spots → Spot → Spots
with_spot spots s a p = if a == s.actor && p == s.player then Some s else spots a p

-- the same but for the pair's spot
abbrev pub without_pair : Spots → (actor player : ℕ) → Spots
without_pair spots actor player a p = if a == actor && p == player then None else spots a p

-- the same but for an actor's spots
abbrev pub without_actor : Spots → (actor : ℕ) → Spots
without_actor spots actor a p = if a == actor then None else spots a p

-- the player of a pair, 0 for none
abbrev pub player_in : Option ℕ → ℕ
player_in player = unwrap_or player 0

-- the spot that is handed to a node
abbrev pub spot_in : Given → Spot
spot_in s = record {
  actor = s.actor;
  x = s.x;
  y = s.y;
  reach = s.reach;
  player = player_in s.player;
  team = s.team;
}

-- the viewer that is handed to a node
abbrev pub viewer_in : Looks → Viewer
viewer_in v = record { player = v.player; x = v.x; y = v.y; team = v.team }

-- a cull distance is at most 50,000
abbrev pub is_bounded : Reach → Bool
is_bounded (Near cull) = nat_le cull cull_limit
is_bounded Always = true
is_bounded Owner = true

-- spots that the node's row names: by reach, and with a player in the players' node alone
abbrev pub takes : Node → Spot → Bool
takes GridNode s = is_near s.reach && is_bounded s.reach && s.player == 0
takes AlwaysNode s = is_always s.reach && s.player == 0
takes PlayerNode s = is_bounded s.reach && nat_le 1 s.player
takes DormantNode s = not (is_owner_only s.reach) && is_bounded s.reach && s.player == 0
takes TeamNode s = not (is_owner_only s.reach) && is_bounded s.reach && s.player == 0

-- the node's row names the spot, and its pair isn't held
pub record CanPlace (node : Node) (spots : Spots) (s : Spot) : Type 0 where
  pub taken : takes node s ≡ true
  pub free : spots s.actor s.player ≡ None

-- the node's row names the spot, and its pair is held
pub record CanMove (node : Node) (spots : Spots) (s : Spot) : Type 0 where
  pub taken : takes node s ≡ true
  pub held : IsSome (spots s.actor s.player)

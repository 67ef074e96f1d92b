-- What a graph keeps, and the world that it stands for.
use Rattle.std.specs.Prelude.{◌≡◌, ℕ, ◌*◌, ◌≤◌, ◌∷◌, Bool, true, false, Option, None}
use Rattle.protocol_model.specs.Limits.{player_limit, spawn_limit}
use Rattle.protocol_model.specs.Value.{Table}
use Rattle.protocol_model.specs.World.{Edits, spawn_count, spawn_of, owner_of, is_added, is_player}
use Rattle.graph_model.specs.Nodes.{Node, GridNode, AlwaysNode, PlayerNode, DormantNode, TeamNode}
use Rattle.graph_nodes.specs.declared.any.AnyNode.{AnyNode}
use Rattle.graph_nodes.specs.Any as any
use Rattle.class_layout.specs.Tables.{table_in}
use Rattle.world_table.specs.Answers.{edit_of, refusal_in}
use Rattle.world_table.specs.Kept as kept
use Rattle.world_table.specs.Stands as world
use Rattle.world_table.specs.Stands.{history_of, untold}
use Rattle.world_table.specs.declared.edit.Edit.{Edit}
use Rattle.world_table.specs.declared.edit.Look.{Look}
use Rattle.rep_graph.specs.declared.nodes.Nodes.{Nodes}
use Rattle.rep_graph.specs.Spots.{world_spots}
use Rattle.rep_graph.specs.Standings.{look_before}

-- a graph's nodes, and whether it is spent
pub record Graph : Type 0 where
  pub nodes : Nodes
  pub spent : Bool

-- a node of that row that stands for exactly the spots that the row names for the world
pub record Holds (row : Node) (node : AnyNode) (table : Table) (edits : Edits) : Type 0 where
  pub row_is : any.row_of node ≡ row
  pub spots : any.Stands node (world_spots row table edits)

-- what accepted edits keep: of an actor that wasn't spawned nothing is told, players have numbers from 1 to the
-- greatest, and there are no more spawns than a world takes
pub record IsLawful (edits : Edits) : Type 0 where
  pub fresh : (a : ℕ) → spawn_of edits a ≡ None → history_of edits a ≡ untold
  pub unadded : (a player : ℕ) → spawn_of edits a ≡ None → is_added edits a player ≡ false
  pub added : (a player : ℕ) → is_added edits a player ≡ true → is_player player ≡ true
  pub owners : (a : ℕ) → owner_of edits a ≤ player_limit
  pub few : spawn_count edits ≤ spawn_limit

-- the four nodes whose spots have no player hold those of the world
pub record HoldFour (nodes : Nodes) (table : Table) (edits : Edits) : Type 0 where
  pub grid : Holds GridNode nodes.grid table edits
  pub always : Holds AlwaysNode nodes.always table edits
  pub dormant : Holds DormantNode nodes.dormant table edits
  pub teams : Holds TeamNode nodes.teams table edits

-- each node holds the spots of the world, and the last actor is known
pub record Keeps (nodes : Nodes) (table : Table) (edits : Edits) : Type 0 where
  pub four : HoldFour nodes table edits
  pub players : Holds PlayerNode nodes.players table edits
  pub last : nodes.last ≡ 2 * spawn_count edits
  pub lawful : IsLawful edits

-- the graph stands for the world of these accepted edits
abbrev pub Stands : Graph → Table → Edits → Type 0
Stands graph table edits = Keeps graph.nodes table edits

-- an accepted edit of the world for which nodes stood: the world is the one after it, and this is the look that the
-- actor that it names had before it
pub record IsTurn (nodes : Nodes) (w : kept.Kept) (e : Edit) (before : Option Look) (edits : Edits) : Type 0 where
  pub stood : Keeps nodes (table_in w.layout) edits
  pub accepted : refusal_in (table_in w.layout) edits e ≡ None
  pub after : world.Stands w (edit_of e ∷ edits)
  pub before_is : before ≡ look_before (table_in w.layout) edits e

-- Which actors the nodes together list for a player, and how many: what a tick looks at for one connection.
use Rattle.std.specs.Prelude.{ℕ, Bool, true, ◌&&◌, ◌||◌, count_by}
use Rattle.protocol_model.specs.Value.{Table}
use Rattle.protocol_model.specs.declared.Reach.{Reach}
use Rattle.protocol_model.specs.declared.Reach.TheVariants.{Always, Near, Owner}
use Rattle.protocol_model.specs.World.{Edits, actors_of, class_of, lives, value_of, owns, viewer_of, is_added}
use Rattle.protocol_model.specs.Sight.{are_teamed}
use Rattle.graph_model.specs.Nodes.{touches}

-- the square of the actor touches the cell of the player's viewer
abbrev pub touches_viewer : (cull : ℕ) → Table → Edits → (player actor : ℕ) → Bool
touches_viewer cull table edits player a =
    touches cull (value_of table edits a 1) (viewer_of edits player).0
    && touches cull (value_of table edits a 2) (viewer_of edits player).1

-- the node of an actor of this reach lists it for the player
abbrev pub listed_as : Reach → Table → Edits → (player actor : ℕ) → Bool
listed_as Always table edits player a = true
listed_as Owner table edits player a = owns edits player a
listed_as (Near cull) table edits player a =
    owns edits player a || is_added edits a player || are_teamed edits player a
    || touches_viewer cull table edits player a

-- a living actor that the nodes list for the player
abbrev pub is_listed : Table → Edits → (player actor : ℕ) → Bool
is_listed table edits player a = lives edits a && listed_as (class_of table edits a).reach table edits player a

-- how many actors the nodes list for the player
abbrev pub listed_count : Table → Edits → (player : ℕ) → ℕ
listed_count table edits player = count_by (is_listed table edits player) (actors_of edits)

-- How an actor stands, as far as nodes go by it, and which edit changes that.
use Rattle.std.specs.Prelude.{ℕ, ◌+◌, ◌*◌, List, [], ◌∷◌, ◌==◌, ℤ, pos, int_le, ◌+ℤ◌, ◌-ℤ◌, ◌*ℤ◌, nat_le, Bool, true, false, not, ◌&&◌, ◌||◌, Option, Some, None, is_some, option_and_then, if◌then◌else◌}
use Rattle.std.specs.Bool.{then_some}
use Rattle.graph_model.specs.Nodes.{Node, GridNode, AlwaysNode, PlayerNode, DormantNode, TeamNode, Spot, is_near}
use Rattle.protocol_model.specs.Value.{Table, is_always, is_owner_only}
use Rattle.protocol_model.specs.World.{Edits, class_at, class_in, named_actor}
use Rattle.world_table.specs.Answers.{edit_of, look_of}
use Rattle.world_table.specs.Stands.{History, told_value}
use Rattle.world_table.specs.declared.edit.Edit.{Edit}
use Rattle.world_table.specs.declared.edit.Look.{Look}
use Rattle.rep_graph.specs.declared.standing.Standing.{Standing}
use Rattle.rep_graph.specs.declared.standing.Row.{Row}

-- the actor, if the look says that it lives
abbrev pub standing_in : Table → Option Look → Option Standing
standing_in table None = None
standing_in table (Some look) = then_some look.alive
    (record { x = look.x; y = look.y; reach = (class_at table look.class).reach; dormant = look.dormant })

-- the same by what edits tell of it
abbrev pub standing_by : Table → History → Option Standing
standing_by table told = then_some (is_some told.spawn && not told.destroyed)
    (record {
      x = told_value table told 1;
      y = told_value table told 2;
      reach = (class_in table told.spawn).reach;
      dormant = told.dormant;
    })

-- the look that the actor named by an edit had before it
abbrev pub look_before : Table → Edits → Edit → Option Look
look_before table edits e = option_and_then (look_of table edits) (named_actor (edit_of e))

-- the rows whose spots have no player
abbrev pub row_of : Row → Node
row_of Row.Grid = GridNode
row_of Row.Always = AlwaysNode
row_of Row.Dormant = DormantNode
row_of Row.Team = TeamNode

-- such a row names the actor's spot
abbrev pub belongs_by : Node → Standing → (team : ℕ) → Bool
belongs_by GridNode s team = is_near s.reach && not s.dormant
belongs_by AlwaysNode s team = is_always s.reach && not s.dormant
belongs_by PlayerNode s team = false
belongs_by DormantNode s team = not (is_owner_only s.reach) && s.dormant
belongs_by TeamNode s team = not (is_owner_only s.reach) && not (team == 0)

-- the spot, if the row names it
abbrev pub spot_by : Node → (actor : ℕ) → Option Standing → (team : ℕ) → Option Spot
spot_by row a None team = None
spot_by row a (Some s) team = then_some (belongs_by row s team)
    (record { actor = a; x = s.x; y = s.y; reach = s.reach; player = 0; team = team })

-- the actor whose spots or pairs an edit may change, where the next actor to be spawned has that guid; handles 1 and
-- 2 are x and y
abbrev pub subject_of : (next : ℕ) → Edit → Option ℕ
subject_of next (Edit.Spawn class x y) = Some next
subject_of next (Edit.Destroy actor) = Some actor
subject_of next (Edit.Set actor prop value) = if nat_le prop 2 then Some actor else None
subject_of next (Edit.Own actor player) = Some actor
subject_of next (Edit.View player x y) = None
subject_of next (Edit.Add actor player on) = Some actor
subject_of next (Edit.Dormant actor) = Some actor
subject_of next (Edit.Wake actor) = Some actor
subject_of next (Edit.Flush actor) = None
subject_of next (Edit.Switch actor prop on) = None
subject_of next (Edit.Team player team) = None
subject_of next (Edit.Give actor team) = Some actor

-- the guid of the actor that was spawned last, after an edit
abbrev pub last_of : (last next : ℕ) → Edit → ℕ
last_of last next (Edit.Spawn class x y) = next
last_of last next e = last

-- the owner that a look names
abbrev pub owner_in : Option Look → Option ℕ
owner_in None = None
owner_in (Some look) = look.owner

-- the owner is this player
abbrev pub owner_is : (player : ℕ) → Option ℕ → Bool
owner_is player None = false
owner_is player (Some owner) = owner == player

-- the pair of an actor that looks so and a player is held
abbrev pub held_by_look : Table → Option Look → (added : Bool) → (player : ℕ) → Bool
held_by_look table None added player = false
held_by_look table (Some look) added player =
    look.alive && (owner_is player look.owner
    || (not (is_owner_only (class_at table look.class).reach) && nat_le 1 player && added))

-- the two places are at most so far apart
abbrev pub is_near_to : (x y from_x from_y : ℤ) → (cull : ℕ) → Bool
is_near_to x y from_x from_y cull =
    int_le ((x -ℤ from_x) *ℤ (x -ℤ from_x) +ℤ (y -ℤ from_y) *ℤ (y -ℤ from_y)) (pos (cull * cull))

-- the number alone, or none
abbrev pub then_one : Bool → ℕ → List ℕ
then_one true n = n ∷ []
then_one false n = []

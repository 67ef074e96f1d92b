-- How what a world keeps follows from the edits that it took.
use Rattle.std.specs.Prelude.{◌≡◌, ℕ, ◌+◌, ◌≤◌, ◌<◌, ℤ, List, length, Bool, true, false, not, ◌&&◌, IsTrue, Option, Some, None, is_some, unwrap_or, slice_get}
use Rattle.std.specs.List.{list_any}
use Rattle.protocol_model.specs.Search.{newest_of}
use Rattle.protocol_model.specs.Value.{Table, Prop}
use Rattle.protocol_model.specs.World.{Edits, Spawned, spawn_count, spawn_of, spawned_value, class_at, destroys, value_in, owner_of, is_dormant, flush_of, is_on, given_of, is_added, viewer_of, team_of, is_custom}
use Rattle.value_codec.specs.Values.{whole_of, value_fits}
use Rattle.class_layout.specs.Tables.{Layout, IsLayout, table_in}
use Rattle.world_table.specs.declared.edit.Look.{Look}
use Rattle.world_table.specs.declared.actor.Actor.{Actor}
use Rattle.world_table.specs.declared.actor.Cell.{Cell}
use Rattle.world_table.specs.declared.seat.Seat.{Seat}
use Rattle.world_table.specs.Answers.{player_of}
use Rattle.world_table.specs.Kept.{Kept, actor_at, seat_at, has_pair}

-- what edits tell of an actor: how it was spawned, and what came since
pub record History : Type 0 where
  pub spawn : Option Spawned
  pub destroyed : Bool
  pub set : (handle : ℕ) → Option ℤ
  pub owner : ℕ
  pub dormant : Bool
  pub flush : ℕ
  pub on : (handle : ℕ) → Bool
  pub given : ℕ

-- what these edits tell of an actor
abbrev pub history_of : Edits → (actor : ℕ) → History
history_of edits a = record {
  spawn = spawn_of edits a;
  destroyed = list_any (destroys a) edits;
  set = λ h. newest_of (value_in a h) edits;
  owner = owner_of edits a;
  dormant = is_dormant edits a;
  flush = flush_of edits a;
  on = λ h. is_on edits a h;
  given = given_of edits a;
}

-- what edits tell of an actor that they don't name
abbrev pub untold : History
untold = record {
  spawn = None;
  destroyed = false;
  set = λ h. None;
  owner = 0;
  dormant = false;
  flush = 0;
  on = λ h. true;
  given = 0;
}

-- the value of a handle by what was told
abbrev pub told_value : Table → History → (handle : ℕ) → ℤ
told_value table told h = unwrap_or (told.set h) (spawned_value table told.spawn h)

-- how an actor stands by what was told
abbrev pub told_look : Table → History → Spawned → Look
told_look table told spawned = record {
  class = spawned.class;
  alive = is_some told.spawn && not told.destroyed;
  x = told_value table told 1;
  y = told_value table told 2;
  owner = player_of told.owner;
  dormant = told.dormant;
  flush = told.flush;
}

-- a cell holds the value and the switch of a property: the value that was set, or else the initial one; it is one of
-- the property's kind where the table keeps its rules
pub record Holds (layout : Layout) (set : Option ℤ) (switch : Bool) (p : Prop) (cell : Cell) : Type 0 where
  pub value : whole_of cell.value ≡ unwrap_or set p.init
  pub on : cell.on ≡ (is_custom p.cond && switch)
  pub fits : IsLayout layout → IsTrue (value_fits p.kind cell.value)

-- there is a cell, and it holds them
abbrev pub HasCell : Layout → (set : Option ℤ) → (switch : Bool) → Prop → Option Cell → Type 0
HasCell layout set switch p None = ⊥
HasCell layout set switch p (Some cell) = Holds layout set switch p cell

-- the record is right about all that was told of its actor, and so are the cells that it has
pub record ActorIs (layout : Layout) (cells : List Cell) (told : History) (r : Actor) : Type 0 where
  pub spawned : Spawned
  pub spawn : told.spawn ≡ Some spawned
  pub look : r.look ≡ told_look (table_in layout) told spawned
  pub given : r.given ≡ told.given
  pub past : r.past ≡ r.first + length (class_at (table_in layout) spawned.class).props
  pub within : r.past ≤ length cells
  pub holds : (k : ℕ) (p : Prop) → slice_get (class_at (table_in layout) spawned.class).props k ≡ Some p
      → HasCell layout (told.set (4 + k)) (told.on (4 + k)) p (slice_get cells (r.first + k))

-- an actor without a record is named by no edit
abbrev pub IsKept : Layout → List Cell → History → Option Actor → Type 0
IsKept layout cells told None = told ≡ untold
IsKept layout cells told (Some r) = ActorIs layout cells told r

-- what a list of edits says of a player
abbrev pub seat_of : Edits → (player : ℕ) → Seat
seat_of edits player = record {
  x = (viewer_of edits player).0;
  y = (viewer_of edits player).1;
  team = team_of edits player;
}

-- the world is what these edits leave: there are as many records as spawns, each is right, the cells of two actors lie
-- apart, and seats and pairs are those of the edits
pub record Stands (w : Kept) (edits : Edits) : Type 0 where
  pub count : length w.actors ≡ spawn_count edits
  pub actors : (a : ℕ) → IsKept w.layout w.cells (history_of edits a) (actor_at w.actors a)
  pub apart : (a b : ℕ) (r s : Actor) → a < b → actor_at w.actors a ≡ Some r → actor_at w.actors b ≡ Some s
      → r.past ≤ s.first
  pub seats : (player : ℕ) → seat_at w.seats player ≡ seat_of edits player
  pub added : (a player : ℕ) → has_pair w.added a player ≡ is_added edits a player

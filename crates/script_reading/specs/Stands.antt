-- What is kept stands for the lines before.
use Rattle.std.specs.Prelude.{◌≡◌, ℕ, ◌+◌, ◌*◌, ◌≤◌, length, false, not, Option, option_map, slice_get}
use Rattle.std.specs.List.{list_any}
use Rattle.protocol_model.specs.Limits.{spawn_limit}
use Rattle.protocol_model.specs.Search.{is_among}
use Rattle.protocol_model.specs.Value.{Table}
use Rattle.protocol_model.specs.World.{Edits, Spawned, spawn_count, spawn_of, class_at, destroys}
use Rattle.script_model.specs.ScriptRules.{Before}
use Rattle.script_reading.specs.Kept.{Kept, Actor}

-- an actor of this spawn
abbrev pub seen_in : Table → Edits → (actor : ℕ) → Spawned → Actor
seen_in table edits a spawned =
    record { class = class_at table spawned.class; alive = not (list_any (destroys a) edits) }

-- an actor, after these edits
abbrev pub seen_at : Table → Edits → (actor : ℕ) → Option Actor
seen_at table edits a = option_map (seen_in table edits a) (spawn_of edits a)

-- the actors and players are those of the lines before, and nobody who isn't spawned yet is destroyed
pub record Stands (table : Table) (kept : Kept) (before : Before) : Type 0 where
  pub count : length kept.actors ≡ spawn_count before.edits
  pub few : length kept.actors ≤ spawn_limit
  pub actors : (n : ℕ) → slice_get kept.actors n ≡ seen_at table before.edits (2 * (n + 1))
  pub fresh : (n : ℕ) → length kept.actors ≤ n → list_any (destroys (2 * (n + 1))) before.edits ≡ false
  pub players : (p : ℕ) → is_among p kept.players ≡ is_among p before.joined
  pub joined : length kept.players ≡ length before.joined

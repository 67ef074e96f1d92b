-- What is kept of the lines before: a class for each actor and whether it lives, and the players who joined.
use Rattle.std.specs.Prelude.{ℕ, zero, suc, ◌-◌, ◌*◌, ◌/◌, ◌&&◌, ◌==◌, nat_le, List, [], ◌∷◌, ◌++◌, Bool, true, false, Option, Some, None, option_map, slice_get, if◌then◌else◌, ℤ}
use Rattle.protocol_model.specs.Limits.{spawn_limit}
use Rattle.protocol_model.specs.Payload.{natural}
use Rattle.protocol_model.specs.Value.{Table, Class}
use Rattle.protocol_model.specs.World as world
use Rattle.protocol_model.specs.World.{class_at, no_class}
use Rattle.script_model.specs.Lines as story
use Rattle.script_model.specs.Lines.{Line}
use Rattle.script_model.specs.ScriptRules.{is_from_to, guid_of}

-- an actor that was spawned
pub record Actor : Type 0 where
  pub class : Class
  pub alive : Bool

-- the actors in the order of their spawns, and the players in the order of their joins
pub record Kept : Type 0 where
  pub actors : List Actor
  pub players : List ℕ

-- before the first line
abbrev pub nothing : Kept
nothing = record { actors = []; players = [] }

-- the actor of this spawn, counted from 1, and its guid
abbrev pub actor_at : Kept → ℤ → Option (ℕ × Actor)
actor_at kept z =
    if is_from_to 1 spawn_limit z
    then option_map (λ (a : Actor). (guid_of z, a)) (slice_get kept.actors (natural z - 1)) else None

-- the class of an actor that was spawned
abbrev pub class_if : Option Actor → Class
class_if None = no_class
class_if (Some actor) = actor.class

-- the class of the actor of a guid; the n-th spawn has guid 2n
abbrev pub class_kept : Kept → (actor : ℕ) → Class
class_kept kept a =
    if nat_le 2 a && a == 2 * (a / 2) then class_if (slice_get kept.actors (a / 2 - 1)) else no_class

-- the actor at this place is destroyed
abbrev pub destroyed_at : ℕ → List Actor → List Actor
destroyed_at n [] = []
destroyed_at zero (a ∷ actors) = record { class = a.class; alive = false } ∷ actors
destroyed_at (suc n) (a ∷ actors) = a ∷ destroyed_at n actors

-- what is kept after an edit
abbrev pub kept_with : Table → Kept → world.Edit → Kept
kept_with table kept (world.Spawn class x y) =
    record kept { actors = kept.actors ++ record { class = class_at table class; alive = true } ∷ [] }
kept_with table kept (world.Destroy a) = record kept { actors = destroyed_at (a / 2 - 1) kept.actors }
kept_with table kept edit = kept

-- what is kept after a line
abbrev pub kept_after : Table → Kept → Line → Kept
kept_after table kept (story.Join player budget version) =
    record kept { players = kept.players ++ player ∷ [] }
kept_after table kept (story.ApplyEdit edit) = kept_with table kept edit
kept_after table kept line = kept

-- what is kept after a line that may do nothing
abbrev pub kept_some : Table → Kept → Option Line → Kept
kept_some table kept None = kept
kept_some table kept (Some line) = kept_after table kept line

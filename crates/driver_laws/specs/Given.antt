-- The sight that the sender of a player's end is handed.
use Rattle.std.specs.Prelude.{◌≡◌, ℕ, List, Bool, true, false, Option, Some, None, filter_map, if◌then◌else◌}
use Rattle.protocol_model.specs.Search.{is_among}
use Rattle.protocol_model.specs.Value.{Table}
use Rattle.protocol_model.specs.World.{Edits, actors_of, lives}
use Rattle.protocol_model.specs.Sight.{Seen, is_relevant, seen_of, destroyed_of}
use Rattle.connection_model.specs.Feed.{Past}
use Rattle.connection_model.specs.Items.{is_quiet}
use Rattle.connection_model.specs.State.{state_of, is_closed}
use Rattle.sight_laws.specs.Sights.{unvalued}

-- an entry, without its values where the actor is quiet at the end
abbrev pub shown_as : Past → Seen → Seen
shown_as past seen = if is_quiet past seen then unvalued seen else seen

-- an actor's entry: it is relevant, or is one of these
abbrev pub given_entry : Table → Edits → (player : ℕ) → Past → (gone : ℕ → Bool) → (actor : ℕ)
    → Option Seen
given_entry table edits player past gone a =
    if is_relevant table edits player a then Some (shown_as past (seen_of table edits player a))
    else if gone a then Some (destroyed_of table edits a)
    else None

-- the entries, ascending by actor
abbrev pub given_sight : Table → Edits → (player : ℕ) → Past → (gone : ℕ → Bool) → List Seen
given_sight table edits player past gone =
    filter_map (given_entry table edits player past gone) (actors_of edits)

-- these are destroyed actors that were shown, and all such of which something is left to close
pub record AreGone (edits : Edits) (past : Past) (earlier : List ℕ) (gone : ℕ → Bool) : Type 0 where
  pub dead : (a : ℕ) → gone a ≡ true → lives edits a ≡ false
  pub shown : (a : ℕ) → gone a ≡ true → is_among a earlier ≡ true
  pub all : (a : ℕ) → lives edits a ≡ false → is_among a earlier ≡ true → gone a ≡ false
      → is_closed (state_of past a) ≡ true

-- What a player sees of the world.
use Rattle.std.specs.Prelude.{ℕ, ◌*◌, List, [], ◌∷◌, map, Bool, true, false, not, ◌&&◌, ◌||◌, ◌==◌, Option, Some, None, IsTrue, filter, filter_map, if◌then◌else◌, ℤ, pos, ◌+ℤ◌, ◌-ℤ◌, ◌*ℤ◌}
use Rattle.std.specs.Prelude.{int_le}
use Rattle.protocol_model.specs.Cond.{visible}
use Rattle.protocol_model.specs.Value.{Table, Class, Prop, Pair, handles_of}
use Rattle.protocol_model.specs.declared.Reach.{Reach}
use Rattle.protocol_model.specs.declared.Reach.TheVariants.{Always, Near, Owner}
use Rattle.protocol_model.specs.World.{Edits, actors_of, class_of, lives, value_of, owns, viewer_of, is_added, is_dormant, flush_of, is_on, team_of, given_of}
use Rattle.protocol_model.specs.Search.{is_among}

-- what a player sees of an actor
pub record Seen : Type 0 where
  pub actor : ℕ
  pub class : Class
  pub owns : Bool
  pub relevant : Bool
  pub destroyed : Bool
  pub dormant : Bool
  pub flush : ℕ
  pub values : List Pair

-- the square of how far the actor is from where the player looks from
abbrev pub distance_squared : Table → Edits → (player actor : ℕ) → ℤ
distance_squared table edits player a =
    let dx = value_of table edits a 1 -ℤ (viewer_of edits player).0 in
    let dy = value_of table edits a 2 -ℤ (viewer_of edits player).1 in
    dx *ℤ dx +ℤ dy *ℤ dy

-- the two are in one team
abbrev pub are_teamed : Edits → (player actor : ℕ) → Bool
are_teamed edits player a = given_of edits a == team_of edits player && not (given_of edits a == 0)

-- within reach of the player, for a living actor
abbrev pub reaches : Reach → Table → Edits → (player actor : ℕ) → Bool
reaches Owner table edits player a = owns edits player a
reaches Always table edits player a = true
reaches (Near cull) table edits player a =
    owns edits player a || is_added edits a player || are_teamed edits player a
    || int_le (distance_squared table edits player a) (pos (cull * cull))

-- the actor is relevant to the player
abbrev pub is_relevant : Table → Edits → (player actor : ℕ) → Bool
is_relevant table edits player a = lives edits a && reaches (class_of table edits a).reach table edits player a

-- the value that the player would see: the role tells whether the player owns the actor
abbrev pub seen_value : Table → Edits → (player actor handle : ℕ) → ℤ
seen_value table edits player a h =
    if h == 3 then pos (if owns edits player a then 1 else 0) else value_of table edits a h

-- each visible handle with its value, ascending
abbrev pub visible_pairs : Table → Edits → (player actor : ℕ) → List Pair
visible_pairs table edits player a =
    map (λ (entry : ℕ × Prop). record { handle = entry.0; value = seen_value table edits player a entry.0 })
    (filter (λ (entry : ℕ × Prop). visible entry.1.cond (owns edits player a) (is_on edits a entry.0)) (handles_of (class_of table edits a)))

-- how the player sees a relevant actor
abbrev pub seen_of : Table → Edits → (player actor : ℕ) → Seen
seen_of table edits player a = record {
  actor = a;
  class = class_of table edits a;
  owns = owns edits player a;
  relevant = true;
  destroyed = false;
  dormant = is_dormant edits a;
  flush = flush_of edits a;
  values = visible_pairs table edits player a;
}

-- how the player sees an actor that is gone
abbrev pub destroyed_of : Table → Edits → (actor : ℕ) → Seen
destroyed_of table edits a = record {
  actor = a;
  class = class_of table edits a;
  owns = false;
  relevant = false;
  destroyed = true;
  dormant = false;
  flush = 0;
  values = [];
}

-- an actor's entry in the sight, if it has one
abbrev pub entry_of : Table → Edits → (player : ℕ) → (earlier : List ℕ) → (actor : ℕ) → Option Seen
entry_of table edits player earlier a =
    if is_relevant table edits player a then Some (seen_of table edits player a)
    else if not (lives edits a) && is_among a earlier then Some (destroyed_of table edits a)
    else None

-- ascending: each relevant actor, and each destroyed one that was relevant in an earlier sight
abbrev pub sight : Table → Edits → (player : ℕ) → (earlier : List ℕ) → List Seen
sight table edits player earlier = filter_map (entry_of table edits player earlier) (actors_of edits)

-- a sight handed to a sender shows the same, but the values of an actor that is quiet there may be left out
pub data ShowsSame (is_quiet : Seen → Bool) : List Seen → List Seen → Type 0 where
  none : ShowsSame is_quiet [] []
  as_it_is : {seen : Seen} {sight given : List Seen} → ShowsSame is_quiet sight given → ShowsSame is_quiet (seen ∷ sight) (seen ∷ given)
  without_values : {seen : Seen} {sight given : List Seen} → IsTrue (is_quiet seen) → ShowsSame is_quiet sight given
      → ShowsSame is_quiet (seen ∷ sight) (record seen { values = [] } ∷ given)

-- The handles that a player sees.
use Rattle.std.specs.Prelude.{ℕ, List, map, filter}
use Rattle.protocol_model.specs.Cond.{visible}
use Rattle.protocol_model.specs.Value.{Table, Prop, Pair}
use Rattle.protocol_model.specs.World.{Edits, owns, is_on}
use Rattle.protocol_model.specs.Sight.{seen_value}

-- those of these handles that the player sees, with their values
abbrev pub visible_among : Table → Edits → (player actor : ℕ) → List (ℕ × Prop) → List Pair
visible_among table edits player a entries =
    map (λ (entry : ℕ × Prop). record { handle = entry.0; value = seen_value table edits player a entry.0 })
    (filter (λ (entry : ℕ × Prop). visible entry.1.cond (owns edits player a) (is_on edits a entry.0)) entries)

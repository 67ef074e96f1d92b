-- What a server saw, tick by tick, of a world that grew to this one.
use Rattle.std.specs.Prelude.{◌≡◌, ℕ, List, [], ◌∷◌, ◌++◌, option_map, Option, filter_map}
use Rattle.protocol_model.specs.Value.{Table}
use Rattle.protocol_model.specs.World.{Edits}
use Rattle.protocol_model.specs.Sight.{Seen, sight}
use Rattle.connection_model.specs.Feed.{Past, Deed, tick_in}

-- the sight of a tick
abbrev pub sight_in : Deed → Option (List Seen)
sight_in deed = option_map (λ (tick : ℕ × List Seen). tick.1) (tick_in deed)

-- the sights of a past's ticks, the newest first
abbrev pub sights_of : Past → List (List Seen)
sights_of past = filter_map sight_in past

-- the sights, the newest first, were the player's: the newest of a world that grew to these edits, and each
-- of one that grew to the world of the next
abbrev pub Seeing : Table → (player : ℕ) → Edits → List (List Seen) → Type 0
Seeing table player edits [] = Unit {0}
Seeing table player edits (s ∷ sights) =
    (more before : Edits) × (earlier : List ℕ) × (edits ≡ more ++ before)
    × (s ≡ sight table before player earlier)
    × Seeing table player before sights

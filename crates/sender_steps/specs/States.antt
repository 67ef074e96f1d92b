-- Which actors are quiet.
use Rattle.std.specs.Prelude.{ℕ, ◌==◌, Bool, false, ◌&&◌, unwrap_or, option_map}
use Rattle.connection_model.specs.Feed.{Past}
use Rattle.connection_model.specs.State.{state_of, is_asleep}
use Rattle.connection_model.specs.Items.{kept_flush}

-- asleep, and dormant with the flush number that was kept
abbrev pub is_quiet_as : Past → (actor : ℕ) → (dormant : Bool) → (flush : ℕ) → Bool
is_quiet_as past a dormant flush =
    is_asleep (state_of past a) && dormant
    && unwrap_or (option_map (λ kept. kept == flush) (kept_flush past a)) false

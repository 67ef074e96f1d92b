-- The order of the players' chairs.
use Rattle.std.specs.Prelude.{ℕ, ◌==◌, List, Bool, nat_lt, Option, Some, None, find, option_map, if◌then◌else◌}
use Rattle.net_driver.specs.declared.chair.Chair.{Chair}
use Rattle.net_driver.specs.declared.chair.Place.{Place}
use Rattle.net_driver.specs.declared.chair.Place.TheVariants.{Living, Dead}

abbrev pub sits_before : Chair → Chair → Bool
sits_before one two = nat_lt one.player two.player

-- the player's end is dead, and took this greatest number; all others stay
abbrev pub dead_for : (player top : ℕ) → Chair → Chair
dead_for player top c = if c.player == player then record c { place = Dead top } else c

-- where a player's end is
abbrev pub place_in : List Chair → (player : ℕ) → Option Place
place_in chairs player = option_map (λ (c : Chair). c.place)
    (find (λ (c : Chair). c.player == player) chairs)

-- the key of an end that is alive
abbrev pub living_key : Option Place → Option ℕ
living_key (Some (Living key)) = Some key
living_key (Some (Dead top)) = None
living_key None = None

-- The due bunches in the order in which they are sent again.
use Rattle.std.specs.Prelude.{ℕ, ◌==◌, List, map, Bool, not, ◌&&◌, ◌||◌, nat_lt, Option, filter, find}
use Rattle.std.specs.List.{range_with_len, flat_map}
use Rattle.connection_model.specs.Feed.{Past}
use Rattle.connection_model.specs.Bunches.{made_count, channels_of, is_due}

-- the due bunches of a channel, by number
abbrev pub due_on : Past → (channel : ℕ) → List (ℕ × ℕ)
due_on past ch = map (λ n. (ch, n)) (filter (is_due past ch) (range_with_len 1 (made_count past ch)))

-- the due bunches by channel and number
abbrev pub due_places : Past → List (ℕ × ℕ)
due_places past = flat_map (due_on past) (channels_of past)

-- the place isn't before this one
abbrev pub is_from : (channel number : ℕ) → ℕ × ℕ → Bool
is_from ch n place = nat_lt ch place.0 || (place.0 == ch && not (nat_lt place.1 n))

-- the next due bunch at or after a place
abbrev pub next_due : Past → (channel from : ℕ) → Option (ℕ × ℕ)
next_due past ch from = find (is_from ch from) (due_places past)

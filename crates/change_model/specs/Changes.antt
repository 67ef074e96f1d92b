-- Change lists: which values of an actor differed from the sample before, and when that was last noted.
-- A list of samples stands for one actor, the newest first.
use Rattle.std.specs.Prelude.{ℕ, ◌+◌, List, [], ◌∷◌, length, Bool, true, not, ◌&&◌, nat_lt, Option, None, filter_map, slice_get, unwrap_or, option_map, if◌then◌else◌, ℤ, pos}
use Rattle.std.specs.Bool.{then_some}
use Rattle.std.specs.List.{range_with_len}
use Rattle.std.specs.Ordering.{int_eq}
use Rattle.protocol_model.specs.Search.{or_else}

-- an actor's values at a tick: x and y, and then its class's properties; the role is none of them
pub record Sample : Type 0 where
  pub tick : ℕ
  pub values : List ℤ

-- the i-th value of a sample, counted from 0
abbrev pub sampled_value : Sample → (i : ℕ) → ℤ
sampled_value s i = unwrap_or (slice_get s.values i) (pos 0)

-- the i-th value differs from the sample before, or there is none before
abbrev pub is_noted : Sample → List Sample → (i : ℕ) → Bool
is_noted s [] i = true
is_noted s (before ∷ samples) i = not (int_eq (sampled_value s i) (sampled_value before i))

-- the newest tick above this one at which the i-th value was noted; the newest sample stands first
abbrev pub noted_tick : List Sample → (tick i : ℕ) → Option ℕ
noted_tick [] tick i = None
noted_tick (s ∷ samples) tick i =
    or_else (then_some (nat_lt tick s.tick && is_noted s samples i) s.tick) (noted_tick samples tick i)

-- the handle of the i-th value: the role's is left out
abbrev pub handle_of : ℕ → ℕ
handle_of i = if nat_lt i 2 then i + 1 else i + 2

-- a handle with its newest tick
pub record Change : Type 0 where
  pub handle : ℕ
  pub tick : ℕ

-- the i-th value's handle, if it was noted above the tick
abbrev pub change_of : List Sample → (tick i : ℕ) → Option Change
change_of samples tick i =
    option_map (λ (noted : ℕ). record { handle = handle_of i; tick = noted }) (noted_tick samples tick i)

-- how many values the newest sample has
abbrev pub value_count : List Sample → ℕ
value_count [] = 0
value_count (s ∷ samples) = length s.values

-- each handle noted above the tick, ascending, with its newest tick
abbrev pub changes_since : List Sample → (tick : ℕ) → List Change
changes_since samples tick = filter_map (change_of samples tick) (range_with_len 0 (value_count samples))

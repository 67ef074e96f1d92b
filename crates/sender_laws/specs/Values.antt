-- Values of an actor as they were sampled, by place from 0.
use Rattle.std.specs.Prelude.{◌≡◌, ◌-◌, ◌<◌, ◌≤◌, ℕ, List, [], ◌∷◌, nat_lt, nat_le, Option, Some, None, ℤ, if◌then◌else◌, ⊤}
use Rattle.std.specs.Bool.{then_some}
use Rattle.protocol_model.specs.Search.{newest_of}
use Rattle.change_model.specs.Changes.{Sample, sampled_value, noted_tick, value_count}

-- the place of a handle in a sample; the role has none
abbrev pub place_of : (handle : ℕ) → ℕ
place_of h = if nat_lt h 3 then h - 1 else h - 2

-- the value at a place in the newest sample
abbrev pub value_now : List Sample → (place : ℕ) → Option ℤ
value_now samples i = newest_of (λ (s : Sample). Some (sampled_value s i)) samples

-- the value at a place in the newest sample at or before a tick
abbrev pub value_by : List Sample → (tick place : ℕ) → Option ℤ
value_by samples tick i = newest_of (λ (s : Sample). then_some (nat_le s.tick tick) (sampled_value s i)) samples

-- the tick of the newest sample, 0 where there is none
abbrev pub tick_now : List Sample → ℕ
tick_now [] = 0
tick_now (s ∷ samples) = s.tick

-- no sample has a tick below that of one before it
abbrev pub AreInTurn : List Sample → Type 0
AreInTurn [] = ⊤
AreInTurn (s ∷ samples) = (tick_now samples ≤ s.tick) × AreInTurn samples

-- each of these samples has a tick above this one
abbrev pub AreAbove : (tick : ℕ) → List Sample → Type 0
AreAbove tick [] = ⊤
AreAbove tick (s ∷ samples) = (tick < s.tick) × AreAbove tick samples

-- no change is noted above the tick
abbrev pub IsCurrent : List Sample → (tick : ℕ) → Type 0
IsCurrent samples tick = (i : ℕ) → i < value_count samples → noted_tick samples tick i ≡ None

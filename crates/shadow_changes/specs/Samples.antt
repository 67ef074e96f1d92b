-- The samples of all actors, and the change lists that stand for them.
use Rattle.std.specs.Prelude.{◌≡◌, ℕ, ◌==◌, List, [], ◌∷◌, map, length, Bool, ◌&&◌, nat_lt, Option, None, unwrap_or, slice_index_or, filter_map, true, false}
use Rattle.std.specs.Bool.{then_some}
use Rattle.change_model.specs.Changes.{Sample, Change}
use Rattle.value_codec.specs.Values.{whole_of}
use Rattle.value_codec.specs.declared.value.Value.{Value}
use Rattle.shadow_changes.specs.declared.change.Change.{Change as ChangeValue}
use Rattle.shadow_changes.specs.Lists.{Lists, no_lists, KeepsLists}

-- each sample with its actor, the newest first
abbrev pub Samples : Type 0
Samples = List (ℕ × Sample)

-- the samples of one actor
abbrev pub samples_of : Samples → (actor : ℕ) → List Sample
samples_of samples a = filter_map (λ (s : ℕ × Sample). then_some (s.0 == a) s.1) samples

-- a sample of these values
abbrev pub sample_of : (tick : ℕ) → List Value → Sample
sample_of tick values = record { tick = tick; values = map whole_of values }

-- a change as the program has it
abbrev pub change_value : ChangeValue → Change
change_value c = record { handle = c.prop; tick = c.tick }

-- the change lists of each actor, at the place of its guid
pub record Shadows : Type 0 where
  pub lists : List (Option Lists)
  pub spent : Bool

-- the lists of an actor
abbrev pub lists_in : List (Option Lists) → (actor : ℕ) → Lists
lists_in lists a = unwrap_or (slice_index_or lists a None) no_lists

-- the change lists answer as the samples do, for each actor
pub record Keeps (s : Shadows) (samples : Samples) : Type 0 where
  pub each : (a : ℕ) → KeepsLists (lists_in s.lists a) (samples_of samples a)
  pub kept : s.spent ≡ false

-- want of memory ended them
abbrev pub IsSpent : Shadows → Type 0
IsSpent s = s.spent ≡ true

-- the tick is above those of these samples
abbrev pub is_after : List Sample → (tick : ℕ) → Bool
is_after [] tick = true
is_after (s ∷ samples) tick = nat_lt s.tick tick

-- these samples have so many values, if there are any
abbrev pub have_count : List Sample → (count : ℕ) → Bool
have_count [] count = true
have_count (s ∷ samples) count = length s.values == count

-- a sample at this tick, of so many values, may follow these samples
abbrev pub may_follow : List Sample → (tick count : ℕ) → Bool
may_follow samples tick count = is_after samples tick && have_count samples count

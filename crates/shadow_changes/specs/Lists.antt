-- The change lists of one actor, and what they say of its samples.
use Rattle.std.specs.Prelude.{◌≡◌, ℕ, ◌+◌, ◌<◌, ◌≤◌, ◌==◌, List, [], ◌∷◌, Bool, true, false, not, nat_lt, Option, Some, None, if◌then◌else◌, option_map, slice_get, length, ℤ, ⊤}
use Rattle.std.specs.Bool.{then_some}
use Rattle.std.specs.Ordering.{int_eq}
use Rattle.protocol_model.specs.Search.{or_else}
use Rattle.change_model.specs.Changes.{Sample, is_noted, handle_of}
use Rattle.value_codec.specs.Values.{whole_of}
use Rattle.value_codec.specs.declared.value.Value.{Value}
use Rattle.shadow_changes.specs.declared.change.Change.{Change}
use Rattle.shadow_changes.specs.declared.noted.Noted.{Noted}

-- most lists of an actor
abbrev pub list_limit : ℕ
list_limit = 64

-- what is kept of one actor: the tick and the values of its newest sample, and the lists, the newest first
pub record Lists : Type 0 where
  pub tick : Option ℕ
  pub last : List ℤ
  pub lists : List Noted

-- the lists of an actor that wasn't sampled
abbrev pub no_lists : Lists
no_lists = record { tick = None; last = []; lists = [] }

-- ---- samples

-- the values of the newest sample
abbrev pub newest_values : List Sample → List ℤ
newest_values [] = []
newest_values (s ∷ samples) = s.values

-- its tick
abbrev pub newest_tick : List Sample → Option ℕ
newest_tick [] = None
newest_tick (s ∷ samples) = Some s.tick

-- its tick, 0 where there is none
abbrev pub last_tick : List Sample → ℕ
last_tick [] = 0
last_tick (s ∷ samples) = s.tick

-- no tick is below that of a sample before it
abbrev pub AreRising : List Sample → Type 0
AreRising [] = ⊤
AreRising (s ∷ samples) = (last_tick samples ≤ s.tick) × AreRising samples

-- the newest tick at which the i-th value was noted
abbrev pub newest_noted : List Sample → (i : ℕ) → Option ℕ
newest_noted [] i = None
newest_noted (s ∷ samples) i = if is_noted s samples i then Some s.tick else newest_noted samples i

-- the number differs from the one before, or there is none before
abbrev pub is_other : ℤ → (before : Option ℤ) → Bool
is_other z None = true
is_other z (Some before) = not (int_eq z before)

-- a value that is there differs from the number before
abbrev pub is_changed_from : (value : Option Value) → (before : Option ℤ) → Bool
is_changed_from None before = false
is_changed_from (Some v) before = is_other (whole_of v) before

-- the i-th value is there and differs from the last one
abbrev pub is_changed : (last : List ℤ) → (values : List Value) → (i : ℕ) → Bool
is_changed last values i = is_changed_from (slice_get values i) (slice_get last i)

-- the change of the i-th value at a tick
abbrev pub changed_at : (last : List ℤ) → (values : List Value) → (tick i : ℕ) → Option Change
changed_at last values tick i =
    option_map (λ (t : ℕ). record { prop = handle_of i; tick = t }) (then_some (is_changed last values i) tick)

-- ---- lists

-- the tick of a handle in a list, by the first that has it
abbrev pub tick_of : List Change → (handle : ℕ) → Option ℕ
tick_of [] h = None
tick_of (c ∷ changes) h = if c.prop == h then Some c.tick else tick_of changes h

-- the newest tick of a handle in these lists
abbrev pub newest_in : List Noted → (handle : ℕ) → Option ℕ
newest_in [] h = None
newest_in (n ∷ lists) h = or_else (tick_of n.changes h) (newest_in lists h)

-- the tick, where it is above another
abbrev pub above : ℕ → Option ℕ → Option ℕ
above tick None = None
above tick (Some t) = then_some (nat_lt tick t) t

-- it is the handle of one of so many values
abbrev pub IsHandle : (count handle : ℕ) → Type 0
IsHandle count h = (i : ℕ) × (i < count) × (h ≡ handle_of i)

-- the handles ascend from the least one and are those of so many values, and no tick is above the newest
abbrev pub AreListed : (count newest least : ℕ) → List Change → Type 0
AreListed count newest least [] = ⊤
AreListed count newest least (c ∷ changes) =
    (least ≤ c.prop) × (c.tick ≤ newest) × IsHandle count c.prop × AreListed count newest (c.prop + 1) changes

-- each list is one, and neither its tick nor one in it is above that of a newer list
abbrev pub AreFalling : (count newest : ℕ) → List Noted → Type 0
AreFalling count newest [] = ⊤
AreFalling count newest (n ∷ lists) =
    (n.tick ≤ newest) × AreListed count n.tick 0 n.changes × AreFalling count n.tick lists

-- ---- both

-- the lists of an actor say of each value when it was noted last
pub record KeepsLists (l : Lists) (samples : List Sample) : Type 0 where
  pub tick : l.tick ≡ newest_tick samples
  pub last : l.last ≡ newest_values samples
  pub noted : (i : ℕ) → i < length l.last → newest_in l.lists (handle_of i) ≡ newest_noted samples i
  pub falling : AreFalling (length l.last) (last_tick samples) l.lists
  pub rising : AreRising samples

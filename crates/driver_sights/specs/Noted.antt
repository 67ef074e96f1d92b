-- What a tick samples, each actor once for all players.
use Rattle.std.specs.Prelude.{◌≡◌, ◌≢◌, ℕ, ◌∷◌, nat_eq, List, [], Bool, true, false, Some, None, is_some, map}
use Rattle.std.specs.Map.{lookup}
use Rattle.protocol_model.specs.Value.{Table}
use Rattle.protocol_model.specs.World.{Edits, spawn_of, class_of}
use Rattle.change_model.specs.Changes.{Sample}
use Rattle.value_codec.specs.Values.{whole_of}
use Rattle.value_codec.specs.declared.value.Value.{Value}
use Rattle.shadow_changes.specs.Samples.{Samples, Shadows, Keeps, samples_of, is_after, have_count}
use Rattle.driver_laws.specs.Counted.{cells_of}
use Rattle.actor_sights.specs.Sampled.{values_of, AreOf}

-- the tick, and the values that were sampled at it, each actor's by its guid
pub record NotedKept : Type 0 where
  pub tick : ℕ
  pub values : List (ℕ × List Value)

-- the actor was sampled
abbrev pub is_noted : NotedKept → (actor : ℕ) → Bool
is_noted n a = is_some (lookup (nat_eq a) n.values)

-- the sample of an actor at a tick
abbrev pub sample_now : Table → Edits → (tick actor : ℕ) → Sample
sample_now table edits tick a = record { tick = tick; values = values_of table edits a }

-- an actor's samples, once it was sampled or not
abbrev pub with_sample : Bool → Sample → List Sample → List Sample
with_sample true now samples = now ∷ samples
with_sample false now samples = samples

-- an actor was spawned, and these are its values
pub record AreValues (table : Table) (edits : Edits) (a : ℕ) (values : List Value) : Type 0 where
  pub spawned : spawn_of edits a ≢ None
  pub are : map whole_of values ≡ values_of table edits a
  pub fit : AreOf (class_of table edits a) values

-- an actor's samples before a tick: those of an actor that was spawned alone, with its values, at
-- ticks below
pub record SampledBefore (table : Table) (edits : Edits) (tick a : ℕ) (samples : List Sample)
    : Type 0 where
  pub until : is_after samples tick ≡ true
  pub sized : have_count samples (cells_of table edits a) ≡ true
  pub none : spawn_of edits a ≡ None → samples ≡ []

-- each actor's
abbrev pub AreBefore : Table → Edits → (tick : ℕ) → Samples → Type 0
AreBefore table edits tick samples =
    (a : ℕ) → SampledBefore table edits tick a (samples_of samples a)

-- the change lists stand for the samples before the tick and for those taken at it, and the values
-- that were sampled are right
pub record Notes (n : NotedKept) (changes : Shadows) (table : Table) (edits : Edits)
    (samples : Samples) : Type 0 where
  pub now : Samples
  pub keeps : Keeps changes now
  pub each : (a : ℕ) → samples_of now a
      ≡ with_sample (is_noted n a) (sample_now table edits n.tick a) (samples_of samples a)
  pub values : (a : ℕ) (values : List Value) → lookup (nat_eq a) n.values ≡ Some values
      → AreValues table edits a values
  pub before : AreBefore table edits n.tick samples

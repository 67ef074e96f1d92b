-- Actors that were destroyed.
use Rattle.std.specs.Prelude.{◌≡◌, ◌≢◌, ◌<◌, ℕ, ◌==◌, List, [], ◌∷◌, length, Bool, false, not, ◌&&◌, None, ⊤}
use Rattle.std.specs.List.{list_any, AllByRecursion}
use Rattle.protocol_model.specs.World.{Edits, spawn_of, class_of, class_at, lives}
use Rattle.connection_model.specs.Feed.{Past}
use Rattle.connection_model.specs.State.{state_of, is_closed}
use Rattle.class_layout.specs.Tables.{Layout, table_in}
use Rattle.driver_sights.specs.declared.graves.Grave.{Grave}

-- one of them is of the actor
abbrev pub is_buried : List Grave → (actor : ℕ) → Bool
is_buried graves a = list_any (λ (g : Grave). g.actor == a) graves

-- it is of an actor that was spawned, as this class, and is destroyed
pub record IsGrave (layout : Layout) (edits : Edits) (g : Grave) : Type 0 where
  pub spawned : spawn_of edits g.actor ≢ None
  pub dead : lives edits g.actor ≡ false
  pub there : g.class < length layout.classes
  pub class : class_of (table_in layout) edits g.actor ≡ class_at (table_in layout) g.class

-- no two are of one actor
abbrev pub AreOnce : List Grave → Type 0
AreOnce [] = ⊤
AreOnce (g ∷ graves) = (is_buried graves g.actor ≡ false) × AreOnce graves

-- so it is with each, and no two are of one actor
pub record AreGraves (layout : Layout) (edits : Edits) (graves : List Grave) : Type 0 where
  pub each : AllByRecursion (IsGrave layout edits) graves
  pub once : AreOnce graves

-- the actor is destroyed, and something of it is left to close at the end that did this
abbrev pub is_left : List Grave → Past → (actor : ℕ) → Bool
is_left graves past a = is_buried graves a && not (is_closed (state_of past a))

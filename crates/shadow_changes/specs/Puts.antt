-- Where a change goes in a list that ascends by handle; a step.
use Rattle.std.specs.Prelude.{◌≡◌, ℕ, ◌<◌, ◌≤◌, ◌==◌, List, [], ◌∷◌, Some, nat_lt, slice_get, if◌then◌else◌}
use Rattle.shadow_changes.specs.declared.change.Change.{Change}
use Rattle.shadow_changes.specs.declared.noted.Noted.{Noted}

-- a list with a change, in place of an older one of the same handle
abbrev pub put_in : Change → List Change → List Change
put_in c [] = c ∷ []
put_in c (x ∷ changes) =
    if nat_lt x.prop c.prop then x ∷ put_in c changes
    else if x.prop == c.prop then c ∷ changes else c ∷ x ∷ changes

-- so many changes are of handles below this one
abbrev pub IsPlace : (handle : ℕ) → List Change → (place : ℕ) → Type 0
IsPlace h changes place =
    ((i : ℕ) (c : Change) → slice_get changes i ≡ Some c → i < place → c.prop < h)
    × ((c : Change) → slice_get changes place ≡ Some c → h ≤ c.prop)

-- the list at this place, if there is one, isn't above the tick
abbrev pub IsEnd : (tick : ℕ) → List Noted → (place : ℕ) → Type 0
IsEnd tick lists place = (n : Noted) → slice_get lists place ≡ Some n → n.tick ≤ tick

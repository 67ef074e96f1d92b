-- Lists of actors in shared pieces.
use Rattle.std.specs.Prelude.{◌≡◌, ℕ, ◌+◌, ◌==◌, Bool, List, [], ◌∷◌, Some, slice_get, unwrap_or, if◌then◌else◌}
use Rattle.std.specs.List.{flat_map}
use Rattle.std.specs.Map.{lookup}
use Rattle.std.specs.Rc.{rc_slice_items}
use Rattle.std.specs.declared.rc.RcSlice.{RcSlice}
use Rattle.std.specs.declared.alloc.Global.{Global}

-- the actors of all pieces, one piece after another
abbrev pub all_actors : List (RcSlice ℕ Global) → List ℕ
all_actors pieces = flat_map rc_slice_items pieces

-- the actor stands in the piece at this place, at this index
pub record StandsAt (pieces : List (RcSlice ℕ Global)) (actor place index : ℕ) : Type 0 where
  pub piece : RcSlice ℕ Global
  pub there : slice_get pieces place ≡ Some piece
  pub is : slice_get (rc_slice_items piece) index ≡ Some actor

-- the list at a key, no actors where there is none
abbrev pub list_at : {K : Type 0} → (K → K → Bool) → List (K × List ℕ) → K → List ℕ
list_at eq lists k = unwrap_or (lookup (eq k) lists) []

-- how often an actor stands in a list
abbrev pub count_of : (actor : ℕ) → List ℕ → ℕ
count_of a [] = 0
count_of a (b ∷ bs) = (if b == a then 1 else 0) + count_of a bs

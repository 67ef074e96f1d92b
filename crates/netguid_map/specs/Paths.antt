-- The segments that a client is known to know.
use Rattle.std.specs.Prelude.{◌≡◌, ℕ, nat_eq, List, [], map, filter, not, Bool, Result, Ok, Err}
use Rattle.std.specs.List.{list_any}
use Rattle.protocol_model.specs.Value.{Segment, Class}

-- the guid is in the path
abbrev pub is_in_path : (guid : ℕ) → List ℕ → Bool
is_in_path g path = list_any (nat_eq g) path

-- the guid is in one of these paths
abbrev pub is_among_paths : List (List ℕ) → (guid : ℕ) → Bool
is_among_paths paths g = list_any (is_in_path g) paths

-- what is known stands for the paths that were said to be
pub record Knows (known : List ℕ) (paths : List (List ℕ)) : Type 0 where
  pub each : (g : ℕ) → list_any (nat_eq g) known ≡ is_among_paths paths g

-- the segments of a class's path that aren't known, outermost first
abbrev pub needed_of : List (List ℕ) → Class → List ℕ
needed_of paths class =
    filter (λ g. not (is_among_paths paths g)) (map (λ (s : Segment). s.guid) class.path)

-- these guids are listed, or there is no memory for them, which is never so where there are none
abbrev pub IsListed : {E : Type 0} → (guids : List ℕ) → Result (List ℕ) E → Type 0
IsListed guids (Ok listed) = listed ≡ guids
IsListed guids (Err error) = guids ≡ [] → ⊥

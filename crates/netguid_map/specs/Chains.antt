-- Names from a learnt one up, as they are compared with the paths of a table: a step between code
-- and definitions.
use Rattle.std.specs.Prelude.{◌≡◌, ℕ, ◌+◌, ◌-◌, ◌*◌, ◌/◌, ◌==◌, List, [], ◌∷◌, ◌++◌, Bool, false, Option, Some, None, option_map, slice_get, if◌then◌else◌, ⊤}
use Rattle.protocol_model.specs.Limits.{depth_limit}
use Rattle.protocol_model.specs.Value as Model
use Rattle.connection_model.specs.Names.{path_up, same_names}
use Rattle.class_layout.specs.declared.class.Segment.{Segment}
use Rattle.netguid_map.specs.declared.names.Learnt.{Learnt}

-- so many names stand above the last one of a path at most
abbrev pub most_above : ℕ
most_above = depth_limit - 1

-- the names from a learnt one up, outermost first, where at most so many stand above it
abbrev pub names_up : List Model.Segment → (most : ℕ) → Learnt → Option (List (List ℕ))
names_up names most l =
    option_map (λ (path : List (List ℕ)). path ++ l.name ∷ [])
    (if l.outer == 0 then Some [] else path_up names most l.outer)

-- there are such names, and the path has them
abbrev pub is_path : Option (List (List ℕ)) → List Model.Segment → Bool
is_path None path = false
is_path (Some names) path = same_names path names

-- so it is with the class's path
abbrev pub has_names : Option (List (List ℕ)) → Model.Class → Bool
has_names names class = is_path names class.path

-- a segment stands under the guid
abbrev pub IsThere : List Segment → (guid : ℕ) → Type 0
IsThere segments g =
    (s : Segment) × (slice_get segments ((g - 3) / 2) ≡ Some s) × (g ≡ 2 * ((g - 3) / 2) + 3)

-- and under each of these
abbrev pub AreThere : List Segment → List ℕ → Type 0
AreThere segments [] = ⊤
AreThere segments (g ∷ path) = IsThere segments g × AreThere segments path

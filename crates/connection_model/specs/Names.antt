-- The names that a client learnt from exports, and the classes that they name.
-- A guid is learnt once, and no export may say another thing of it.
use Rattle.std.specs.Prelude.{ℕ, zero, suc, ◌==◌, List, [], ◌∷◌, ◌++◌, length, reverse, Bool, true, false, not, ◌&&◌, ◌||◌, nat_le, Option, Some, None, is_none, find, option_map, option_and_then, if◌then◌else◌}
use Rattle.std.specs.List.{list_all, fold, flat_map}
use Rattle.std.specs.Str.{bytes_eq}
use Rattle.protocol_model.specs.Limits.{depth_limit, name_limit}
use Rattle.protocol_model.specs.Value.{Segment, Class, Table}
use Rattle.protocol_model.specs.Payload.{Opens}
use Rattle.protocol_model.specs.declared.Cause.{Cause}
use Rattle.protocol_model.specs.declared.Cause.TheVariants.{UnknownGuid, Clash, NamesFull}
use Rattle.connection_model.specs.Feed.{Past, Delivered}
use Rattle.connection_model.specs.Copies.{delivered_of}

-- an ASCII letter
abbrev pub is_letter : ℕ → Bool
is_letter c = (nat_le 65 c && nat_le c 90) || (nat_le 97 c && nat_le c 122)

-- an ASCII letter or digit, or `_`
abbrev pub is_name_char : ℕ → Bool
is_name_char c = is_letter c || (nat_le 48 c && nat_le c 57) || c == 95

-- letters, digits and underscores, and a letter first
abbrev pub is_segment_name : List ℕ → Bool
is_segment_name [] = false
is_segment_name (c ∷ cs) = is_letter c && list_all is_name_char cs

-- what was learnt under the guid
abbrev pub name_known : List Segment → ℕ → Option Segment
name_known names g = find (λ (s : Segment). s.guid == g) names

-- the two have one outer and one name
abbrev pub is_same_segment : Segment → Segment → Bool
is_same_segment s known = s.outer == known.outer && bytes_eq s.name known.name

-- nothing else was learnt under the segment's guid
abbrev pub agrees : Segment → Option Segment → Bool
agrees s None = true
agrees s (Some known) = is_same_segment s known

-- the cause for which a segment isn't learnt, the first that holds
abbrev pub learn_fault : List Segment → Segment → Option Cause
learn_fault names s =
    if not (s.outer == 0) && is_none (name_known names s.outer) then Some (UnknownGuid s.outer)
    else if not (agrees s (name_known names s.guid)) then Some (Clash s.guid)
    else if is_none (name_known names s.guid) && nat_le name_limit (length names) then Some NamesFull
    else None

-- a known segment isn't learnt twice
abbrev pub names_with : List Segment → Segment → List Segment
names_with names s = if is_none (name_known names s.guid) then s ∷ names else names

-- the segments of an open that was applied
abbrev pub names_in : Delivered → List Segment
names_in d = elim d.message [ Opens exports actor class values ↦ exports | _ ↦ [] ]

-- the names learnt from the opens applied, each once
abbrev pub names_of : Past → List Segment
names_of past = fold names_with [] (flat_map names_in (reverse (delivered_of past)))

-- the names from the guid up to an outermost one, outermost first, where there are at most `most`
abbrev pub path_up : List Segment → (most guid : ℕ) → Option (List (List ℕ))
path_up names zero g = None
path_up names (suc most) g = under (name_known names g) (λ outer. path_up names most outer)
  where
    under : Option Segment → (ℕ → Option (List (List ℕ))) → Option (List (List ℕ))
    under None path_of = None
    under (Some s) path_of =
        option_map (λ (path : List (List ℕ)). path ++ s.name ∷ [])
        (if s.outer == 0 then Some [] else path_of s.outer)

-- the path has these names
abbrev pub same_names : List Segment → List (List ℕ) → Bool
same_names [] [] = true
same_names [] (n ∷ names) = false
same_names (s ∷ path) [] = false
same_names (s ∷ path) (n ∷ names) = bytes_eq s.name n && same_names path names

-- the class whose path the names give
abbrev pub class_named : Table → List Segment → ℕ → Option Class
class_named table names g =
    option_and_then (λ (path : List (List ℕ)). find (λ (class : Class). same_names class.path path) table)
    (path_up names depth_limit g)

-- Classes and their properties in memory, by their places, and those of the table that they stand for.
use Rattle.std.proofs.Common.{◌≡◌, ◌∙◌, ℕ, zero, suc, ◌<◌, List, [], ◌∷◌, map, length, true, nat_lt, Some, option_map, option_and_then, refl, ap, arith}
use Rattle.std.specs.Prelude.{slice_get, slice_index_or}
use Rattle.std.proofs.lemmas.Bool.Decides.{nat_tests}
use Rattle.std.proofs.lemmas.List.{length-map}
use Rattle.std.proofs.lemmas.Option.{slice_get-map, slice_get_within, same_Some}
use Rattle.protocol_model.specs.World.{no_class}
use Rattle.table_model.specs.Rules.{Entry}
use Rattle.class_members.specs.Members.{prop_of}
use Rattle.class_layout.specs.Tables.{Layout, class_of, entry_of, entries_in, table_in}
use Rattle.class_layout.specs.declared.class.Class.{Class}
use Rattle.class_layout.specs.declared.class.Segment.{Segment}

-- the class at a place
pub class_in_memory : (segments : List Segment) (classes : List Class) (n : ℕ) (c : Class) → slice_get classes n ≡ Some c
    → slice_index_or (map (λ (e : Entry). e.class) (map (entry_of segments) classes)) n no_class ≡ class_of segments c
class_in_memory segments [] n c h = absurd (cc)
class_in_memory segments (d ∷ classes) zero c h = ap (class_of segments) (same_Some d c h)
class_in_memory segments (d ∷ classes) (suc n) c h = class_in_memory segments classes n c h

-- a property of the class at a place
pub props_in : (segments : List Segment) (classes : List Class) (n k : ℕ)
    → slice_get (slice_index_or (map (λ (e : Entry). e.class) (map (entry_of segments) classes)) n no_class).props k
    ≡ option_map prop_of (option_and_then (λ (c : Class). slice_get c.props k) (slice_get classes n))
props_in segments [] n k = refl
props_in segments (c ∷ classes) zero k = slice_get-map prop_of c.props k
props_in segments (c ∷ classes) (suc n) k = props_in segments classes n k

-- a class of the table in memory is one of the table
pub class_in_range : (layout : Layout) (n : ℕ) (c : Class) → slice_get layout.classes n ≡ Some c
    → nat_lt n (length (table_in layout)) ≡ true
class_in_range layout n c h =
    let under = slice_get_within layout.classes n c h in
    let len = length-map (entries_in layout) (λ (e : Entry). e.class) in
    let len_2 = length-map layout.classes (entry_of layout.segments) in
    grind (arith, nat_tests)

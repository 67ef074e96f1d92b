-- The class at a place of a table.
use Rattle.std.proofs.Common.{◌≡◌, ℕ, zero, suc, List, [], ◌∷◌, map, Bool, true, false, ◌&&◌, nat_le, refl, sym, ap, ◌∙◌, subst, arith, Option, Some, None}
use Rattle.std.specs.List.{slice_get}
use Rattle.std.proofs.lemmas.Bool.Decides.{nat_tests}
use Rattle.std.specs.Prelude.{slice_index_or}
use Rattle.protocol_model.specs.Value as Model
use Rattle.protocol_model.specs.World.{class_at, no_class}
use Rattle.class_layout.specs.Tables.{Layout, table_in, class_of, entry_of}
use Rattle.class_layout.specs.declared.class.Class.{Class}
use Rattle.class_layout.specs.declared.class.Segment.{Segment}
use Rattle.sender_records.specs.Handles.{is_updatable_in}

class_in : (segments : List Segment) (digest : List ℕ) (classes : List Class) (i : ℕ) (o : Option Class)
    → slice_get classes i ≡ o
    → class_at (table_in (record { classes = classes; segments = segments; digest = digest })) i ≡ elim o [
      | None ↦
          no_class
      | Some c ↦ class_of segments c
    ]
class_in segments digest [] i None e = refl
class_in segments digest [] i (Some c) e = absurd (let no : (let o : Option Class = None in o) ≡ Some c = e in cc)
class_in segments digest (x ∷ classes) zero None e = absurd (let no : Some x ≡ None = e in cc)
class_in segments digest (x ∷ classes) zero (Some c) e = (let same : x ≡ c = cc in ap (class_of segments) same)
class_in segments digest (x ∷ classes) (suc i) o e = class_in segments digest classes i o e

pub class_there : (layout : Layout) (i : ℕ) (c : Class) → slice_get layout.classes i ≡ Some c
    → class_at (table_in layout) i ≡ class_of layout.segments c
class_there layout i c e = class_in layout.segments layout.digest layout.classes i (Some c) e

pub class_none : (layout : Layout) (i : ℕ) → slice_get layout.classes i ≡ None → class_at (table_in layout) i ≡ no_class
class_none layout i e = class_in layout.segments layout.digest layout.classes i None e

-- of no class x, y and the role alone may be updated
pub no_updatable : (owns : Bool) (h : ℕ) → is_updatable_in no_class owns h ≡ (nat_le 1 h && nat_le h 3)
no_updatable owns zero = refl
no_updatable owns (suc zero) = refl
no_updatable owns (suc (suc zero)) = refl
no_updatable owns (suc (suc (suc zero))) = refl
no_updatable owns (suc (suc (suc (suc h)))) = over h
  where
    over : (h : ℕ) → false ≡ (nat_le 1 (suc (suc (suc (suc h)))) && nat_le (suc (suc (suc (suc h)))) 3)
    over h = grind (arith, nat_tests)

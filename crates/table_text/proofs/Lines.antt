-- The lines of the classes.
use Rattle.std.proofs.Common.{ℕ, zero, suc, ◌+◌, List, [], ◌∷◌, ◌++◌, ◌≡◌, refl, sym, ◌∙◌, ap, map, drop, Some, slice_get, append_assoc, add-one, unwrap_or, None, length, ◌≤◌, append-nil, arith, codes, decimal}
use Rattle.std.specs.List.{flat_map}
use Rattle.class_layout.specs.Tables.{Layout, class_of, entry_of, table_in}
use Rattle.class_layout.specs.declared.class.Class.{Class}
use Rattle.class_layout.specs.declared.class.Segment.{Segment}
use Rattle.table_model.specs.Grammar.{table_of}
use Rattle.program_model.specs.Checked.{class_line, check_text, line}
use Rattle.script_model.specs.Reports.{hex_of}
use Rattle.sha1.specs.Sha1.{sha1}

-- a line for each class in memory
abbrev pub lines_of : List Segment → List Class → List ℕ
lines_of segments classes = flat_map (λ (c : Class). class_line (class_of segments c)) classes

-- these are the lines of the table
pub lines_are : (segments : List Segment) (classes : List Class)
    → lines_of segments classes
    ≡ flat_map class_line (table_of (map (entry_of segments) classes))
lines_are segments [] = refl
lines_are segments (c ∷ classes) =
    ap (λ rest. class_line (class_of segments c) ++ rest) (lines_are segments classes)

some_is : {A : Type 0} {x y : A} → Some x ≡ Some y → x ≡ y
some_is {A} {x} h = ap (λ o. unwrap_or o x) h

-- from the place of a class on, it comes first
from_place : (i : ℕ) (classes : List Class) (c : Class) → slice_get classes i ≡ Some c
    → drop i classes ≡ c ∷ drop (suc i) classes
from_place zero [] c h = absurd (cc h)
from_place zero (d ∷ classes) c h = ap (λ x. x ∷ classes) (some_is h)
from_place (suc i) [] c h = absurd (cc h)
from_place (suc i) (d ∷ classes) c h = from_place i classes c h

-- one line more
pub one_line_more : (segments : List Segment) (classes : List Class) (i : ℕ) (c : Class)
    (text next whole : List ℕ) → slice_get classes i ≡ Some c
    → next ≡ text ++ class_line (class_of segments c)
    → text ++ lines_of segments (drop i classes) ≡ whole
    → next ++ lines_of segments (drop (i + 1) classes) ≡ whole
one_line_more segments classes i c text next whole found is before =
    let line : List ℕ = class_line (class_of segments c) in
    let split : drop i classes ≡ c ∷ drop (i + 1) classes = rw (add-one) (from_place i classes c found) in
    ap (λ t. t ++ lines_of segments (drop (i + 1) classes)) is
    ∙ append_assoc text line (lines_of segments (drop (i + 1) classes))
    ∙ sym (ap (λ cs. text ++ lines_of segments cs) split)
    ∙ before

-- where there is no class there are none behind
pub no_line_more : (segments : List Segment) (classes : List Class) (i : ℕ)
    → slice_get classes i ≡ None
    → lines_of segments (drop (i + 1) classes) ≡ lines_of segments (drop i classes)
no_line_more segments classes i h = rw (add-one) (by classes i h)
  where
    by : (classes : List Class) (i : ℕ) → slice_get classes i ≡ None
        → lines_of segments (drop (suc i) classes) ≡ lines_of segments (drop i classes)
    by [] zero h = refl
    by (c ∷ classes) zero h = absurd (cc h)
    by [] (suc i) h = refl
    by (c ∷ classes) (suc i) h = by classes i h

-- behind the last all lines stand
pub all_lines : (segments : List Segment) (classes : List Class) (i : ℕ) (text whole : List ℕ)
    → length classes ≤ i → text ++ lines_of segments (drop i classes) ≡ whole → text ≡ whole
all_lines segments classes i text whole end before =
    sym (append-nil text) ∙ ap (λ cs. text ++ lines_of segments cs) (sym (none_left classes i end)) ∙ before
  where
    none_left : (classes : List Class) (i : ℕ) → length classes ≤ i → drop i classes ≡ []
    none_left [] zero h = refl
    none_left [] (suc i) h = refl
    none_left (c ∷ classes) zero h = absurd (omega (arith, h))
    none_left (c ∷ classes) (suc i) h = none_left classes i (omega (arith, h))

-- there is a class of the table for each in memory
table_size : (segments : List Segment) (classes : List Class)
    → length (table_of (map (entry_of segments) classes)) ≡ length classes
table_size segments [] = refl
table_size segments (c ∷ classes) = ap (λ n. suc n) (table_size segments classes)

-- the summary, written one part after another
pub summary_is : (layout : Layout) (file : List ℕ) (count : ℕ) (first all last digest : List ℕ)
    → first ≡ codes "classes " ++ (decimal count ++ 10 ∷ []) → all ≡ first ++ flat_map class_line (table_in layout)
    → digest ≡ hex_of (sha1 file) → last ≡ all ++ (codes "digest " ++ (digest ++ 10 ∷ []))
    → count ≡ length layout.classes → last ≡ check_text file (table_in layout)
summary_is layout file count first all last digest e1 e2 e3 e4 size =
    let lines : List ℕ = flat_map class_line (table_in layout) in
    let same : count ≡ length (table_in layout) = size ∙ sym (table_size layout.segments layout.classes) in
    e4 ∙ ap (λ d. all ++ (codes "digest " ++ (d ++ 10 ∷ []))) e3
    ∙ ap (λ t. t ++ line (codes "digest" ∷ hex_of (sha1 file) ∷ [])) (e2 ∙ ap (λ t. t ++ lines) e1)
    ∙ ap (λ n. line (codes "classes" ∷ decimal n ∷ []) ++ lines ++ line (codes "digest" ∷ hex_of (sha1 file) ∷ [])) same

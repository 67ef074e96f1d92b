-- Classes, properties and calls in memory are those of the table that they stand for.
use Rattle.std.proofs.Common.{◌≡◌, ℕ, zero, suc, ◌+◌, ◌≤◌, ◌<◌, List, [], ◌∷◌, ◌++◌, map, length, refl, sym, ◌∙◌, ap, subst, arith, Bool, true, false, nat_lt, Some, None, option_map, cond}
use Rattle.std.specs.Prelude.{slice_get, slice_index_or}
use Rattle.std.specs.Str.{bytes_eq}
use Rattle.std.proofs.lemmas.Bool.Decides.{nat_tests}
use Rattle.std.proofs.lemmas.List.{length-map}
use Rattle.std.proofs.lemmas.List.Sums.{position_or_len_is}
use Rattle.std.proofs.lemmas.Option.{slice_get-map}
use Rattle.protocol_model.specs.Value as Model
use Rattle.protocol_model.specs.World.{class_at, no_class}
use Rattle.table_model.specs.Facts.{IsTable, IsClass}
use Rattle.table_model.specs.Rules.{Entry}
use Rattle.class_members.specs.Members.{prop_of, call_of}
use Rattle.class_layout.specs.Tables.{Layout, class_of, entry_of, entries_in, table_in}
use Rattle.class_layout.specs.declared.class.Class.{Class}
use Rattle.class_layout.specs.declared.class.Segment.{Segment}
use Rattle.class_layout.proofs.InMemory.{class_in_memory}
use Rattle.script_model.specs.Lines.{Text}
use Rattle.script_model.specs.ScriptRules.{class_named}

none_there : (segments : List Segment) (classes : List Class) (n : ℕ) → slice_get classes n ≡ None
    → slice_index_or (map (λ (e : Entry). e.class) (map (entry_of segments) classes)) n no_class ≡ no_class
none_there segments [] n h = refl
none_there segments (c ∷ classes) zero h = absurd cc
none_there segments (c ∷ classes) (suc n) h = none_there segments classes n h

-- the class at a place of the table, and no class past the last
pub class_there : (layout : Layout) (n : ℕ) (c : Class) → Some c ≡ slice_get layout.classes n
    → class_of layout.segments c ≡ class_at (table_in layout) n
class_there layout n c h = sym (class_in_memory layout.segments layout.classes n c (sym h))

pub no_class_there : (layout : Layout) (n : ℕ) → None ≡ slice_get layout.classes n
    → no_class ≡ class_at (table_in layout) n
no_class_there layout n h = sym (none_there layout.segments layout.classes n (sym h))

pub count_is : (layout : Layout) → length (table_in layout) ≡ length layout.classes
count_is layout =
    length-map (entries_in layout) (λ (e : Entry). e.class) ∙ length-map layout.classes (entry_of layout.segments)

-- ---- the first class of a name

pub first_named : (layout : Layout) (name : Text) (n : ℕ) → n < length layout.classes
    → ((k : ℕ) → k < n → bytes_eq (class_at (table_in layout) k).name name ≡ false)
    → bytes_eq (class_at (table_in layout) n).name name ≡ true
    → Some n ≡ class_named (table_in layout) name
first_named layout name n h before is =
    let len = count_is layout in
    let e = position_or_len_is (λ (c : Model.Class). bytes_eq c.name name) (table_in layout) n no_class (omega arith)
    before (λ _. is) in
    let f : nat_lt n (length (table_in layout)) ≡ true = grind (arith, nat_tests) in
    sym (ap (λ k. cond (nat_lt k (length (table_in layout))) (Some k) None) e ∙ ap (λ t. cond t (Some n) None) f)

pub none_named : (layout : Layout) (name : Text) (n : ℕ) → length layout.classes ≤ n
    → ((k : ℕ) → k < n → bytes_eq (class_at (table_in layout) k).name name ≡ false)
    → None ≡ class_named (table_in layout) name
none_named layout name n h before =
    let len = count_is layout in
    let e = position_or_len_is (λ (c : Model.Class). bytes_eq c.name name) (table_in layout) (length (table_in layout))
    no_class (omega arith) (λ k below. before k (omega arith)) (λ below. absurd (omega arith)) in
    let f : nat_lt (length (table_in layout)) (length (table_in layout)) ≡ false = grind (arith, nat_tests) in
    sym (ap (λ k. cond (nat_lt k (length (table_in layout))) (Some k) None) e
    ∙ ap (λ t. cond t (Some (length (table_in layout))) None) f)

-- ---- sizes

split_at : {A : Type 0} (xs : List A) (n : ℕ) (x : A) → slice_get xs n ≡ Some x
    → (before : List A) × (after : List A) × (xs ≡ before ++ x ∷ after)
split_at [] n x h = absurd cc
split_at (y ∷ ys) zero x h = ([], ys, (let e : y ≡ x = cc in ap (λ z. z ∷ ys) e))
split_at (y ∷ ys) (suc n) x h = let s = split_at ys n x h in (y ∷ s.0, s.1, ap (λ zs. y ∷ zs) s.2)

class_facts : (layout : Layout) (n : ℕ) (c : Class) → IsTable (entries_in layout) → Some c ≡ slice_get layout.classes n
    → (before : List Entry) × IsClass before (entry_of layout.segments c)
class_facts layout n c is h =
    let e : slice_get (entries_in layout) n ≡ Some (entry_of layout.segments c) =
    slice_get-map (entry_of layout.segments) layout.classes n ∙ ap (option_map (entry_of layout.segments)) (sym h) in
    let s = split_at (entries_in layout) n (entry_of layout.segments c) e in
    (s.0, is.classes s.0 (entry_of layout.segments c) s.1 s.2)

pub few_props : (layout : Layout) (n : ℕ) (c : Class) → IsTable (entries_in layout)
    → Some c ≡ slice_get layout.classes n
    → length c.props ≤ 200
few_props layout n c is h =
    let facts = class_facts layout n c is h in
    let handles = facts.1.handles in
    let len = length-map c.props prop_of in omega arith

pub few_calls : (layout : Layout) (n : ℕ) (c : Class) → IsTable (entries_in layout)
    → Some c ≡ slice_get layout.classes n
    → length c.calls ≤ 64
few_calls layout n c is h =
    let facts = class_facts layout n c is h in
    let most = facts.1.calls_most in
    let len = length-map c.calls call_of in omega arith

-- ---- one after another

pub none_within : {A : Type 0} (xs : List A) (n : ℕ) → n < length xs → None ≡ slice_get xs n → ⊥
none_within [] n h e = absurd (omega arith)
none_within (x ∷ xs) zero h e = absurd cc
none_within (x ∷ xs) (suc n) h e = none_within xs n (omega arith) e

-- none of so many, and of one more
pub one_more : (layout : Layout) (name : Text) (n : ℕ)
    → ((k : ℕ) → k < n → bytes_eq (class_at (table_in layout) k).name name ≡ false)
    → bytes_eq (class_at (table_in layout) n).name name ≡ false
    → (k : ℕ) → k < n + 1 → bytes_eq (class_at (table_in layout) k).name name ≡ false
one_more layout name n before here k h = by_test (nat_lt k n) refl
  where
    by_test : (t : Bool) → nat_lt k n ≡ t → bytes_eq (class_at (table_in layout) k).name name ≡ false
    by_test true e = before k (grind (arith, nat_tests))
    by_test false e =
        let same : n ≡ k = grind (arith, nat_tests) in
        subst (λ m. bytes_eq (class_at (table_in layout) m).name name ≡ false) same here

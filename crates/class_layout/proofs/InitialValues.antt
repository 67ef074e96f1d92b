-- The initial values of a table that keeps its rules.
use Rattle.std.proofs.Common.{◌≡◌, ◌∙◌, ℕ, zero, suc, List, [], ◌∷◌, ◌++◌, map, Bool, true, false, ◌&&◌, Some, option_map, refl, sym, ap, take, drop}
use Rattle.std.specs.Prelude.{slice_get}
use Rattle.std.specs.List.{list_all}
use Rattle.std.proofs.lemmas.Bool.{and_parts}
use Rattle.std.proofs.lemmas.Option.{slice_get-map, same_Some}
use Rattle.protocol_model.specs.Value as Model
use Rattle.table_model.specs.Rules.{Entry}
use Rattle.table_model.specs.Words.{is_name}
use Rattle.table_model.specs.Facts.{is_prop, is_type}
use Rattle.value_codec.specs.Values.{whole_of, value_fits, is_of}
use Rattle.class_members.specs.Members.{prop_of}
use Rattle.class_members.specs.declared.members.Prop.{Prop}
use Rattle.class_layout.specs.Tables.{Layout, IsLayout, entry_of, entries_in}
use Rattle.class_layout.specs.declared.class.Class.{Class}

split_at : {A : Type 0} (xs : List A) (n : ℕ) (x : A) → slice_get xs n ≡ Some x → xs ≡ take n xs ++ x ∷ drop (suc n) xs
split_at [] n x h = absurd (cc)
split_at {A} (y ∷ xs) zero x h = ap (λ (z : A). z ∷ xs) (same_Some y x h)
split_at {A} (y ∷ xs) (suc n) x h = ap (λ (zs : List A). y ∷ zs) (split_at xs n x h)

all_at : {A : Type 0} (test : A → Bool) (xs : List A) (n : ℕ) (x : A) → list_all test xs ≡ true
    → slice_get xs n ≡ Some x → test x ≡ true
all_at test [] n x h e = absurd (cc)
all_at test (y ∷ xs) zero x h e = ap test (sym (same_Some y x e)) ∙ (and_parts (test y) (list_all test xs) h).0
all_at test (y ∷ xs) (suc n) x h e = all_at test xs n x (and_parts (test y) (list_all test xs) h).1 e

-- an initial value of a table fits its kind
pub init_fits : (layout : Layout) (n k : ℕ) (c : Class) (q : Prop) → IsLayout layout → slice_get layout.classes n ≡ Some c
    → slice_get c.props k ≡ Some q → value_fits q.kind q.init ≡ true
init_fits layout n k c q is at_n at_k =
    let entries : List Entry = entries_in layout in
    let e : Entry = entry_of layout.segments c in
    let in_entries = slice_get-map (entry_of layout.segments) layout.classes n
    ∙ ap (option_map (entry_of layout.segments)) at_n in
    let class = is.table.classes (take n entries) e (drop (suc n) entries) (split_at entries n e in_entries) in
    let in_props = slice_get-map prop_of c.props k ∙ ap (option_map prop_of) at_k in
    let prop = all_at is_prop (map prop_of c.props) k (prop_of q) class.props in_props in
    let number = (and_parts (is_name q.name && is_type false q.kind) (Model.fits q.kind (whole_of q.init)) prop).1 in
    let tag = all_at (λ (p : Prop). is_of p.kind p.init) c.props k q (is.tags n c at_n) at_k in
    rw (tag, number) refl

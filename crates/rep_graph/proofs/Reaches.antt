-- To whom the classes of a table in memory are relevant.
use Rattle.std.proofs.Common.{◌≡◌, ◌∙◌, ℕ, zero, suc, List, [], ◌∷◌, ◌++◌, map, true, Option, Some, None, option_map, IsTrue, refl, sym, ap, arith}
use Rattle.std.specs.Prelude.{slice_get, slice_index_or}
use Rattle.std.proofs.lemmas.Bool.Decides.{nat_tests}
use Rattle.std.proofs.lemmas.Option.{same_Some, slice_get-map}
use Rattle.protocol_model.specs.declared.Reach.{Reach}
use Rattle.protocol_model.specs.declared.Reach.TheVariants.{Always, Near, Owner}
use Rattle.protocol_model.specs.World.{class_at, no_class}
use Rattle.table_model.specs.Rules.{Entry}
use Rattle.table_model.specs.Facts.{IsTable, is_reach}
use Rattle.class_layout.specs.Tables.{Layout, entry_of, entries_in, table_in}
use Rattle.class_layout.specs.declared.class.Class.{Class}
use Rattle.class_layout.specs.declared.class.Segment.{Segment}
use Rattle.graph_nodes.specs.Held.{is_bounded}

-- the reach of a class, the owner's alone where there is none
abbrev pub reach_or : Option Class → Reach
reach_or None = Owner
reach_or (Some c) = c.reach

reach_in : (segments : List Segment) (classes : List Class) (n : ℕ)
    → (slice_index_or (map (λ (e : Entry). e.class) (map (entry_of segments) classes)) n no_class).reach
    ≡ reach_or (slice_get classes n)
reach_in segments [] n = refl
reach_in segments (c ∷ classes) zero = refl
reach_in segments (c ∷ classes) (suc n) = reach_in segments classes n

pub reach_is : (layout : Layout) (n : ℕ) (o : Option Class) → o ≡ slice_get layout.classes n
    → reach_or o ≡ (class_at (table_in layout) n).reach
reach_is layout n o h = ap reach_or h ∙ sym (reach_in layout.segments layout.classes n)

split_at : {A : Type 0} (xs : List A) (n : ℕ) (x : A) → slice_get xs n ≡ Some x
    → (before : List A) × (after : List A) × (xs ≡ before ++ x ∷ after)
split_at [] n x h = absurd (cc)
split_at {A} (y ∷ ys) zero x h = ([], ys, ap (λ (z : A). z ∷ ys) (same_Some y x h))
split_at {A} (y ∷ ys) (suc n) x h =
    let r = split_at ys n x h in (y ∷ r.0, r.1, ap (λ (zs : List A). y ∷ zs) r.2)

bounded_if : (r : Reach) → IsTrue (is_reach r) → is_bounded r ≡ true
bounded_if (Near cull) h = grind (arith, nat_tests)
bounded_if Always h = refl
bounded_if Owner h = refl

pub reach_bounded : (layout : Layout) (n : ℕ) (c : Class) → IsTable (entries_in layout)
    → Some c ≡ slice_get layout.classes n → is_bounded c.reach ≡ true
reach_bounded layout n c table h =
    let e = slice_get-map (entry_of layout.segments) layout.classes n
    ∙ ap (λ (o : Option Class). option_map (entry_of layout.segments) o) (sym h) in
    let parts = split_at (entries_in layout) n (entry_of layout.segments c) e in
    bounded_if c.reach (table.classes parts.0 (entry_of layout.segments c) parts.1 parts.2).reach

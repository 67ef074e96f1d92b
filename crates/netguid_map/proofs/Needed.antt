-- Classes of the table, and the guids of their paths.
use Rattle.std.proofs.Common.{◌≡◌, ℕ, zero, suc, ◌-◌, ◌/◌, ◌<◌, List, [], ◌∷◌, map, length, slice_index_or, Bool, true, false, not, Option, Some, None, refl, sym, ap, ◌∙◌, arith}
use Rattle.std.specs.Prelude.{slice_get, filter, nat_eq, option_map, if◌then◌else◌}
use Rattle.std.specs.List.{list_any}
use Rattle.std.proofs.lemmas.List.{length-map}
use Rattle.std.proofs.lemmas.Option.{slice_get-map, get_or_from_slice_get}
use Rattle.protocol_model.specs.Value as Model
use Rattle.protocol_model.specs.World.{class_at, no_class}
use Rattle.table_model.specs.Rules.{Entry}
use Rattle.class_layout.specs.Tables.{Layout, class_of, entry_of, entries_in, segment_at, table_in}
use Rattle.class_layout.specs.declared.class.Class.{Class}
use Rattle.class_layout.specs.declared.class.Segment.{Segment}
use Rattle.netguid_map.specs.Paths.{Knows, needed_of, is_among_paths}

-- ---- segments and their guids

-- a segment has the guid that it stands under
pub guid_is : (segments : List Segment) (g : ℕ) (o : Option Segment) → slice_get segments ((g - 3) / 2) ≡ o
    → (segment_at segments g).guid ≡ g
guid_is segments g None e = rw e refl
guid_is segments g (Some s) e = rw e refl

-- the guids of a path's segments
guids_are : (segments : List Segment) (path : List ℕ)
    → map (λ (s : Model.Segment). s.guid) (map (segment_at segments) path) ≡ path
guids_are segments [] = refl
guids_are segments (g ∷ path) =
    let first = guid_is segments g (slice_get segments ((g - 3) / 2)) refl in
    ap (λ (k : ℕ). k ∷ map (λ (s : Model.Segment). s.guid) (map (segment_at segments) path)) first
    ∙ ap (λ (ks : List ℕ). g ∷ ks) (guids_are segments path)

-- the table has as many classes as the layout
pub table_size : (layout : Layout) → length (table_in layout) ≡ length layout.classes
table_size layout =
    length-map (entries_in layout) (λ (e : Entry). e.class) ∙ length-map layout.classes (entry_of layout.segments)

-- the class at a place
pub class_is : (layout : Layout) (place : ℕ) (class : Class) → Some class ≡ slice_get layout.classes place
    → class_at (table_in layout) place ≡ class_of layout.segments class
class_is layout place class e =
    get_or_from_slice_get (table_in layout) place (class_of layout.segments class) no_class
    (slice_get-map (λ (e : Entry). e.class) (entries_in layout) place
    ∙ ap (option_map (λ (e : Entry). e.class)) (slice_get-map (entry_of layout.segments) layout.classes place)
    ∙ ap (λ (o : Option Class). option_map (λ (e : Entry). e.class) (option_map (entry_of layout.segments) o)) (sym e))

filter_same : (p q : ℕ → Bool) (gs : List ℕ) → ((g : ℕ) → p g ≡ q g) → filter p gs ≡ filter q gs
filter_same p q [] e = refl
filter_same p q (g ∷ gs) e =
    ap (λ (b : Bool). if b then g ∷ filter p gs else filter p gs) (e g)
    ∙ ap (λ (ks : List ℕ). if q g then g ∷ ks else ks) (filter_same p q gs e)

-- what isn't in the set is what no path brought
pub needed_is : (layout : Layout) (place : ℕ) (class : Class) (known : List ℕ) (paths : List (List ℕ))
    → Some class ≡ slice_get layout.classes place → Knows known paths
    → filter (λ g. not (list_any (nat_eq g) known)) class.path ≡ needed_of paths (class_at (table_in layout) place)
needed_is layout place class known paths e h =
    let needed : ℕ → Bool = λ g. not (is_among_paths paths g) in
    filter_same (λ g. not (list_any (nat_eq g) known)) needed class.path (λ g. ap not (h.each g))
    ∙ ap (filter needed) (sym (guids_are layout.segments class.path))
    ∙ ap (needed_of paths) (sym (class_is layout place class e))

there : {X : Type 0} (xs : List X) (i : ℕ) → i < length xs → None ≡ slice_get xs i → ⊥
there [] i h e = absurd (omega arith)
there (x ∷ xs) zero h e = cc
there (x ∷ xs) (suc i) h e = there xs i (omega arith) e

-- a place of the table has a class
pub place_there : (layout : Layout) (place : ℕ) → place < length layout.classes
    → None ≡ slice_get layout.classes place → ⊥
place_there layout place h e = there layout.classes place h e

-- what passes is listed
pub some_listed : (passes : ℕ → Bool) (gs : List ℕ) (i d : ℕ) → i < length gs → passes (slice_index_or gs i d) ≡ true
    → filter passes gs ≡ [] → ⊥
some_listed passes [] i d h e none = absurd (omega arith)
some_listed passes (g ∷ gs) zero d h e none =
    let listed : filter passes (g ∷ gs) ≡ g ∷ filter passes gs =
    ap (λ (b : Bool). if b then g ∷ filter passes gs else filter passes gs) e in cc
some_listed passes (g ∷ gs) (suc i) d h e none = some_listed passes gs i d (omega arith) e (rest (passes g) none)
  where
    rest : (b : Bool) → (if b then g ∷ filter passes gs else filter passes gs) ≡ [] → filter passes gs ≡ []
    rest true f = cc
    rest false f = f

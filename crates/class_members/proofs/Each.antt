-- Items of a class that are read one after another, a turn at a time.
use Rattle.std.proofs.Common.{◌≡◌, ℕ, zero, suc, ◌+◌, ◌<◌, List, [], ◌∷◌, ◌++◌, map, length, drop, get_or, slice_get, Some, refl, sym, ap, ◌∙◌, Result, Ok, Bool, IsTrue, arith}
use Rattle.std.proofs.lemmas.List.{drop_more, map-append}
use Rattle.std.specs.List.{list_all}
use Rattle.table_model.specs.Checked.{each_after}
use Rattle.std.proofs.lemmas.Bool.{and_parts}
use Rattle.table_model.specs.declared.Place.{Place}
use Rattle.table_model.specs.declared.TableWhy.{TableWhy}
use Rattle.class_members.specs.Agreement.{BreaksAs, RefusedAs, refusal_at}
use Rattle.class_members.specs.declared.refusal.Fault.{Fault}
use Rattle.class_members.specs.declared.refusal.Fault.TheVariants.{Broken, Memory}

-- the element at a turn stands first among those that are left
pub turn_of : {J D : Type 0} (view : J → D) (elements : List J) (i : ℕ) (element : J) → i < length elements
    → element ≡ get_or elements i element
    → map view (drop i elements) ≡ view element ∷ map view (drop (i + 1) elements)
turn_of view elements i element within is =
    ap (map view) (drop_more elements i element within ∙ ap (λ e. e ∷ drop (i + 1) elements) (sym is))

-- an item that is taken goes behind those before it
pub each_taken : {A D : Type 0} (item_after : List A → D → Result A TableWhy) (place : ℕ → Place) (before : List A)
    (n : ℕ) (d : D) (ds : List D) (item : A) → item_after before d ≡ Ok item
    → each_after item_after place before n (d ∷ ds) ≡ each_after item_after place (before ++ item ∷ []) (n + 1) ds
each_taken item_after place before n d ds item h = rw h refl

-- an item that is refused ends the list at its place
pub each_refused : {A D : Type 0} (item_after : List A → D → Result A TableWhy) (place : ℕ → Place) (before : List A)
    (n : ℕ) (d : D) (ds : List D) (fault : Fault) → BreaksAs fault (item_after before d)
    → RefusedAs (refusal_at (place n) fault) (each_after item_after place before n (d ∷ ds))
each_refused item_after place before n d ds (Broken why) h = rw h refl
each_refused item_after place before n d ds Memory h = tt

-- a turn that takes an item
pub each_turn : {A I J D : Type 0} (item_after : List A → D → Result A TableWhy) (place : ℕ → Place) (f : I → A)
    (view : J → D) (items after : List I) (elements : List J) (n i : ℕ) (element : J) (item : I)
    → i < length elements → element ≡ get_or elements i element → item_after (map f items) (view element) ≡ Ok (f item)
    → after ≡ items ++ item ∷ []
    → each_after item_after place (map f after) (n + 1) (map view (drop (i + 1) elements))
    ≡ each_after item_after place (map f items) n (map view (drop i elements))
each_turn item_after place f view items after elements n i element item within is taken behind =
    ap (λ l. each_after item_after place l (n + 1) (map view (drop (i + 1) elements)))
    (ap (map f) behind ∙ map-append f items (item ∷ []))
    ∙ sym (each_taken item_after place (map f items) n (view element) (map view (drop (i + 1) elements)) (f item) taken)
    ∙ ap (each_after item_after place (map f items) n) (sym (turn_of view elements i element within is))

-- a test that each item passes, and one more
pub all_more : {A : Type 0} (test : A → Bool) (xs : List A) (x : A) → IsTrue (list_all test xs) → IsTrue (test x)
    → IsTrue (list_all test (xs ++ x ∷ []))
all_more test [] x h k = rw k refl
all_more test (y ∷ xs) x h k =
    let parts = and_parts (test y) (list_all test xs) h in rw (parts.0, all_more test xs x parts.1 k) refl

-- the element at a turn stands there
pub there_at : {J D : Type 0} (view : J → D) (elements : List J) (i : ℕ) (element : J) → i < length elements
    → element ≡ get_or elements i element → slice_get (map view elements) i ≡ Some (view element)
there_at view [] i element within is = absurd (omega (arith, within))
there_at view (e ∷ elements) zero element within is = ap (λ j. Some (view j)) (sym is)
there_at view (e ∷ elements) (suc i) element within is = there_at view elements i element (omega (arith, within)) is

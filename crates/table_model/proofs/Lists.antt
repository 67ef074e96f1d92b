-- Lists with one item more behind them, and lists that begin with others.
use Rattle.std.proofs.Common.{◌≡◌, ℕ, zero, suc, ◌<◌, List, [], ◌∷◌, ◌++◌, length, take, drop, get_or, slice_get, Bool, true, ◌⊎◌, inl, inr, Some, refl, sym, ap, ◌∙◌, append_assoc, take-append-drop, drop-cons}
use Rattle.std.specs.List.{list_all}
use Rattle.std.proofs.lemmas.Bool.{and_from}
use Rattle.std.proofs.lemmas.List.Folds.{list_all-append}
use Rattle.std.proofs.lemmas.Option.{same_Some}

-- a test that each item passes, and one more, is passed by each of the longer list
pub all_push : {A : Type 0} (test : A → Bool) (items : List A) (item : A) → list_all test items ≡ true
    → test item ≡ true → list_all test (items ++ item ∷ []) ≡ true
all_push test items item all one = list_all-append test items (item ∷ []) ∙ and_from _ _ all (and_from _ _ one refl)

-- an item of the longer list is one of the list, or is the one more
pub get_push : {A : Type 0} (items : List A) (item y : A) (n : ℕ) → slice_get (items ++ item ∷ []) n ≡ Some y
    → (slice_get items n ≡ Some y) ⊎ (item ≡ y)
get_push [] item y zero h = inr (same_Some item y h)
get_push [] item y (suc n) h = inl h
get_push (z ∷ items) item y zero h = inl h
get_push (z ∷ items) item y (suc n) h = get_push items item y n h

-- the list is these, y and more, or it is these alone and y is the one more
abbrev pub EndsOrGoesOn : {A : Type 0} → (items these : List A) → (item y : A) → Type 0
EndsOrGoesOn {A} items these item y =
    ((more : List A) × (items ≡ these ++ y ∷ more)) ⊎ ((items ≡ these) × (item ≡ y))

one_before : {A : Type 0} (items these : List A) (x z item y : A) → x ≡ z → EndsOrGoesOn items these item y
    → EndsOrGoesOn (x ∷ items) (z ∷ these) item y
one_before items these x z item y e (inl m) = inl (m.0, let f = m.1 in cc)
one_before items these x z item y e (inr m) = inr (let f = m.0 in cc, m.1)

-- what stands before an item of the longer list
pub parts_push : {A : Type 0} (items these more : List A) (item y : A) → items ++ item ∷ [] ≡ these ++ y ∷ more
    → EndsOrGoesOn items these item y
parts_push [] [] more item y h = inr (refl, cc)
parts_push [] (z ∷ []) more item y h = absurd (cc)
parts_push [] (z ∷ w ∷ these) more item y h = absurd (cc)
parts_push (x ∷ items) [] more item y h = inl (items, cc)
parts_push (x ∷ items) (z ∷ these) more item y h =
    one_before items these x z item y (cc) (parts_push items these more item y (cc))

-- a list at one of its items
pub split_at : {A : Type 0} (items : List A) (n : ℕ) (d : A) → n < length items
    → items ≡ take n items ++ get_or items n d ∷ drop (suc n) items
split_at items n d h = sym (take-append-drop n items) ∙ ap (λ rest. take n items ++ rest) (drop-cons items n d h)

-- the items begin with these
abbrev pub BeginsWith : {A : Type 0} → (these items : List A) → Type 0
BeginsWith {A} these items = (own : List A) × (items ≡ these ++ own)

-- and so they do with one more behind them
pub begins_push : {A : Type 0} (these items : List A) (item : A) → BeginsWith these items
    → BeginsWith these (items ++ item ∷ [])
begins_push these items item b =
    (b.0 ++ item ∷ [], ap (λ xs. xs ++ item ∷ []) b.1 ∙ append_assoc these b.0 (item ∷ []))

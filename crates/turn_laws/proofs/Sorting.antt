-- Lists in order: what is left out of them, and that each sort gives the same one.
use Rattle.std.proofs.Common.{◌≡◌, ◌⊎◌, inl, inr, ℕ, zero, suc, ◌+◌, ◌≤◌, List, [], ◌∷◌, filter, Bool, true, false, cond, ◌==◌, refl, sym, ap, ◌∙◌, subst, arith}
use Rattle.std.specs.List.{AllByRecursion, sum_by, All, slice_index_or}
use Rattle.std.specs.List.Sorted.{IsPermutation, IsSortedBy}
use Rattle.std.specs.Cmp.{IsStrictWeakOrder}
use Rattle.std.proofs.lemmas.Bool.{false≢true, cases_Bool, cond_both, ne_eqb, eq-eqb, eqb-true}
use Rattle.connection_laws.proofs.Sums.{sum_in_order}
use Rattle.std.proofs.lemmas.List.Sorted.{IsPermutation-sym, All-permutation, sum_by-IsPermutation}
use Rattle.std.proofs.lemmas.List.Sums.{sum_by-cons}
use Rattle.protocol_model.specs.Search.{insert_in_order, in_order}
use Rattle.connection_laws.proofs.ActorsShown.{all_inserted, all_in_order, all_filtered}
use Rattle.sight_laws.proofs.Scoring.{all_weaken}

-- ---- in order

-- no item goes before one that stands earlier
abbrev pub Rises : {A : Type 0} → (A → A → Bool) → List A → Type 0
Rises before [] = Unit {0}
Rises {A} before (x ∷ xs) = AllByRecursion (λ (y : A). before y x ≡ false) xs × Rises before xs

module _ {A : Type 0} (before : A → A → Bool) (order : IsStrictWeakOrder before) where
  rises_inserted : (x : A) (ys : List A) → Rises before ys → Rises before (insert_in_order before x ys)
  rises_inserted x [] h = (tt, tt)
  rises_inserted x (y ∷ ys) h =
      cond_both (before y x) (y ∷ insert_in_order before x ys) (x ∷ y ∷ ys) (Rises before)
      (λ e. (
        all_inserted (λ (z : A). before z y ≡ false) before x ys (order.one_way y x e) h.0,
        rises_inserted x ys
            h.1,
      ))
      (λ e. (
        (
          e,
          all_weaken (λ (z : A). before z y ≡ false) (λ (z : A). before z x ≡ false)
              (λ z q. order.chain z y x q e) ys h.0,
        ),
        h,
      ))

  -- what is put in order rises
  pub rises_in_order : (xs : List A) → Rises before (in_order before xs)
  rises_in_order [] = tt
  rises_in_order (x ∷ xs) = rises_inserted x (in_order before xs) (rises_in_order xs)

  -- what goes before none of a list stands in front of it
  first_inserted : (x : A) (ys : List A) → AllByRecursion (λ (y : A). before y x ≡ false) ys
      → insert_in_order before x ys ≡ x ∷ ys
  first_inserted x [] h = refl
  first_inserted x (y ∷ ys) h =
      ap (λ (b : Bool). cond b (y ∷ insert_in_order before x ys) (x ∷ y ∷ ys)) h.0

  filter_inserted : (test : A → Bool) (x : A) (ys : List A) → Rises before ys
      → filter test (insert_in_order before x ys)
      ≡ cond (test x) (insert_in_order before x (filter test ys)) (filter test ys)
  filter_inserted test x [] h = by (test x)
    where
      by : (b : Bool) → cond b (x ∷ []) [] ≡ cond b (x ∷ []) (let none : List A = [] in none)
      by true = refl
      by false = refl
  filter_inserted test x (y ∷ ys) h = elim (cases_Bool (before y x)) [
    | inl e ↦ ap (λ (b : Bool). filter test (cond b (y ∷ insert_in_order before x ys) (x ∷ y ∷ ys))) e
        ∙ ap (λ (l : List A). cond (test y) (y ∷ l) l) (filter_inserted test x ys h.1) ∙ behind (test x) (test y) e
    | inr e ↦ ap (λ (b : Bool). filter test (cond b (y ∷ insert_in_order before x ys) (x ∷ y ∷ ys))) e
        ∙ front (test x) (test y) e
        (first_inserted x (filter test ys) (all_filtered (λ (z : A). before z x ≡ false) test ys
        (all_weaken (λ (z : A). before z y ≡ false) (λ (z : A). before z x ≡ false) (λ z q. order.chain z y x q e) ys
        h.0)))
  ]
    where
      kept : List A
      kept = filter test ys

      behind : (a c : Bool) → before y x ≡ true
          → cond c (y ∷ cond a (insert_in_order before x kept) kept) (cond a (insert_in_order before x kept) kept)
          ≡ cond a (insert_in_order before x (cond c (y ∷ kept) kept)) (cond c (y ∷ kept) kept)
      behind true true e = sym (ap (λ (b : Bool). cond b (y ∷ insert_in_order before x kept) (x ∷ y ∷ kept)) e)
      behind true false e = refl
      behind false true e = refl
      behind false false e = refl

      front : (a c : Bool) → before y x ≡ false → insert_in_order before x kept ≡ x ∷ kept
          → cond a (x ∷ cond c (y ∷ kept) kept) (cond c (y ∷ kept) kept)
          ≡ cond a (insert_in_order before x (cond c (y ∷ kept) kept)) (cond c (y ∷ kept) kept)
      front true true e f = sym (ap (λ (b : Bool). cond b (y ∷ insert_in_order before x kept) (x ∷ y ∷ kept)) e)
      front true false e f = sym f
      front false true e f = refl
      front false false e f = refl

  -- what is left out before or after the sort is the same
  pub filter_in_order : (test : A → Bool) (xs : List A)
      → filter test (in_order before xs) ≡ in_order before (filter test xs)
  filter_in_order test [] = refl
  filter_in_order test (x ∷ xs) =
      filter_inserted test x (in_order before xs) (rises_in_order xs)
      ∙ ap (λ (l : List A). cond (test x) (insert_in_order before x l) l) (filter_in_order test xs) ∙ by (test x)
    where
      by : (b : Bool) → cond b (insert_in_order before x (in_order before (filter test xs)))
          (in_order before (filter test xs))
          ≡ in_order before (cond b (x ∷ filter test xs) (filter test xs))
      by true = refl
      by false = refl

-- ---- one list in order

-- the item is one of the list
abbrev pub IsIn : {A : Type 0} → A → List A → Type 0
IsIn x [] = ⊥
IsIn x (y ∷ ys) = (x ≡ y) ⊎ IsIn x ys

in_self : {A : Type 0} (xs : List A) → AllByRecursion (λ (x : A). IsIn x xs) xs
in_self [] = tt
in_self {A} (x ∷ xs) =
    (inl refl, all_weaken (λ (y : A). IsIn y xs) (λ (y : A). IsIn y (x ∷ xs)) (λ y h. inr h) xs (in_self xs))

of_in : {A : Type 0} (P : A → Type 0) (x : A) (xs : List A) → IsIn x xs → AllByRecursion P xs → P x
of_in P x [] h all = absurd h
of_in P x (y ∷ ys) (inl e) all = subst P (sym e) all.0
of_in P x (y ∷ ys) (inr h) all = of_in P x ys h all.1

all_recursive : {A : Type 0} (P : A → Type 0) (xs : List A) → All P xs → AllByRecursion P xs
all_recursive P [] h = tt
all_recursive P (x ∷ xs) h = (h 0 x (omega arith), all_recursive P xs (λ k d lt. h (suc k) d (omega (arith, lt))))

all_by_place : {A : Type 0} (P : A → Type 0) (xs : List A) → AllByRecursion P xs → All P xs
all_by_place P [] h k d lt = absurd (omega (arith, lt))
all_by_place P (x ∷ xs) h zero d lt = h.0
all_by_place P (x ∷ xs) h (suc k) d lt = all_by_place P xs h.1 k d (omega (arith, lt))

-- what is permuted has the same items
permuted_in : {A : Type 0} (xs ys : List A) → IsPermutation xs ys → AllByRecursion (λ (y : A). IsIn y xs) ys
permuted_in {A} xs ys p =
    all_recursive (λ (y : A). IsIn y xs) ys
    (All-permutation (λ (y : A). IsIn y xs) xs ys p (all_by_place (λ (y : A). IsIn y xs) xs (in_self xs)))

-- so has what is put in order
inserted_in : {A : Type 0} (before : A → A → Bool) (x : A) (ys : List A) (z : A) → (z ≡ x) ⊎ IsIn z ys
    → IsIn z (insert_in_order before x ys)
inserted_in before x [] z h = h
inserted_in before x (y ∷ ys) z h =
    cond_both (before y x) (y ∷ insert_in_order before x ys) (x ∷ y ∷ ys) (λ l. IsIn z l)
    (λ e. by (λ q. inserted_in before x ys z q) h) (λ e. h)
  where
    by : ((z ≡ x) ⊎ IsIn z ys → IsIn z (insert_in_order before x ys)) → (z ≡ x) ⊎ ((z ≡ y) ⊎ IsIn z ys)
        → (z ≡ y) ⊎ IsIn z (insert_in_order before x ys)
    by deeper (inl e) = inr (deeper (inl e))
    by deeper (inr (inl e)) = inl e
    by deeper (inr (inr q)) = inr (deeper (inr q))

ordered_in : {A : Type 0} (before : A → A → Bool) (xs : List A) (z : A) → IsIn z xs → IsIn z (in_order before xs)
ordered_in before [] z h = absurd h
ordered_in before (x ∷ xs) z (inl e) = inserted_in before x (in_order before xs) z (inl e)
ordered_in before (x ∷ xs) z (inr h) = inserted_in before x (in_order before xs) z (inr (ordered_in before xs z h))

-- ---- keys that differ

-- no two have one key
abbrev pub ApartBy : {A : Type 0} → (A → ℕ) → List A → Type 0
ApartBy key [] = Unit {0}
ApartBy {A} key (x ∷ xs) = AllByRecursion (λ (y : A). key y ≡ key x → ⊥) xs × ApartBy key xs

-- how many have the key
abbrev counted : {A : Type 0} → (A → ℕ) → ℕ → A → ℕ
counted key a x = cond (key x == a) 1 0

module _ {A : Type 0} (key : A → ℕ) where
  none_counted : (a : ℕ) (xs : List A) → AllByRecursion (λ (y : A). key y ≡ a → ⊥) xs → sum_by (counted key a) xs ≡ 0
  none_counted a [] h = refl
  none_counted a (x ∷ xs) h =
      let no : counted key a x ≡ 0 = ap (λ (b : Bool). let n : ℕ = cond b 1 0 in n) (ne_eqb (key x) a h.0) in
      omega (arith, sum_by-cons (counted key a) x xs, no, none_counted a xs h.1)

  counted_none : (a : ℕ) (xs : List A) → sum_by (counted key a) xs ≡ 0 → AllByRecursion (λ (y : A). key y ≡ a → ⊥) xs
  counted_none a [] e = tt
  counted_none a (x ∷ xs) e =
      let both : counted key a x + sum_by (counted key a) xs ≡ 0 = sym (sum_by-cons (counted key a) x xs) ∙ e in
      (λ q. absurd (one q both), counted_none a xs (omega (arith, both)))
    where
      one : key x ≡ a → counted key a x + sum_by (counted key a) xs ≡ 0 → ⊥
      one q both =
          let is : counted key a x ≡ 1 = ap (λ (b : Bool). let n : ℕ = cond b 1 0 in n) (eq-eqb (key x) a q) in omega
          (arith, is, both)

  at_most_one : (xs : List A) → ApartBy key xs → (a : ℕ) → sum_by (counted key a) xs ≤ 1
  at_most_one [] h a = omega arith
  at_most_one (x ∷ xs) h a = elim (cases_Bool (key x == a)) [
    | inl e ↦ (let none : sum_by (counted key a) xs
        ≡ 0 = none_counted a xs (all_weaken (λ (y : A). key y ≡ key x → ⊥) (λ (y : A). key y ≡ a → ⊥)
        (λ y ne q. ne (q ∙ sym (eqb-true (key x) a e))) xs h.0) in
        omega (arith, sum_by-cons (counted key a) x xs, ap (λ (b : Bool). let n : ℕ = cond b 1 0 in n) e, none))
    | inr e ↦ omega (
      arith,
      sum_by-cons (counted key a) x xs,
      ap (λ (b : Bool). let n : ℕ = cond b 1 0 in n) e,
      at_most_one xs h.1 a,
    )
  ]

  pub apart_counted : (xs : List A) → ((a : ℕ) → sum_by (counted key a) xs ≤ 1) → ApartBy key xs
  apart_counted [] h = tt
  apart_counted (x ∷ xs) h = (
    counted_none (key x) xs (omega (
      arith,
      h (key x),
      sum_by-cons (counted key (key x)) x xs,
      ap (λ (b : Bool). let n : ℕ = cond b 1 0 in n)
          (eq-eqb (key x) (key x) refl),
    )),
    apart_counted xs (λ a. omega (arith, h a, sum_by-cons (counted key a) x xs)),
  )

  pub apart_permuted : (xs ys : List A) → IsPermutation xs ys → ApartBy key xs → ApartBy key ys
  apart_permuted xs ys p h =
      apart_counted ys (λ a. omega (arith, at_most_one xs h a, sum_by-IsPermutation (counted key a) xs ys p))

  pub apart_in_order : (before : A → A → Bool) (xs : List A) → ApartBy key xs → ApartBy key (in_order before xs)
  apart_in_order before xs h =
      apart_counted (in_order before xs)
      (λ a. omega (arith, at_most_one xs h a, sum_in_order (counted key a) before xs))

-- ---- the one sort

-- each goes before those after it
abbrev Climbs : {A : Type 0} → (A → A → Bool) → List A → Type 0
Climbs before [] = Unit {0}
Climbs {A} before (x ∷ xs) = AllByRecursion (λ (y : A). before x y ≡ true) xs × Climbs before xs

module _ {A : Type 0} (before : A → A → Bool) (order : IsStrictWeakOrder before) (key : A → ℕ)
    (decided : (x y : A) → (key y ≡ key x → ⊥) → before y x ≡ false → before x y ≡ true) where
  both_all : (P Q R : A → Type 0) → ((x : A) → P x → Q x → R x) → (xs : List A) → AllByRecursion P xs
      → AllByRecursion Q xs
      → AllByRecursion R xs
  both_all P Q R f [] h g = tt
  both_all P Q R f (x ∷ xs) h g = (f x h.0 g.0, both_all P Q R f xs h.1 g.1)

  climbs : (xs : List A) → Rises before xs → ApartBy key xs → Climbs before xs
  climbs [] h a = tt
  climbs (x ∷ xs) h a = (
    both_all (λ (y : A). before y x ≡ false) (λ (y : A). key y ≡ key x → ⊥) (λ (y : A). before x y ≡ true)
        (λ y q ne. decided x y ne q) xs h.0 a.0,
    climbs xs h.1 a.1,
  )

  rises_sorted : (xs : List A) → IsSortedBy before xs → Rises before xs
  rises_sorted [] h = tt
  rises_sorted (x ∷ []) h = (tt, tt)
  rises_sorted (x ∷ y ∷ ys) h =
      let first : before y x ≡ false = h 0 x (omega arith) (omega arith) in
      let rest : Rises before (y ∷ ys) = rises_sorted (y ∷ ys)
      (λ k d lo hi. subst (λ (n : ℕ). before (slice_index_or (x ∷ y ∷ ys) n d) (slice_index_or (y ∷ ys) k d)
      ≡ false) (next k) (h (suc k) d (omega arith) (omega (arith, hi)))) in (
        (
          first,
          all_weaken (λ (z : A). before z y ≡ false) (λ (z : A). before z x ≡ false)
              (λ z q. order.chain z y x q first) ys rest.0,
        ),
        rest,
      )
    where
      next : (k : ℕ) → suc k + 1 ≡ suc (k + 1)
      next k = omega arith

  -- two lists of the same items that climb are one
  climbs_once : (us vs : List A) → Climbs before us → Climbs before vs → AllByRecursion (λ (x : A). IsIn x vs) us
      → AllByRecursion (λ (x : A). IsIn x us) vs → us ≡ vs
  climbs_once [] [] a b f g = refl
  climbs_once [] (v ∷ vs) a b f g = absurd g.0
  climbs_once (u ∷ us) [] a b f g = absurd f.0
  climbs_once (u ∷ us) (v ∷ vs) a b f g =
      let same : u ≡ v = heads f.0 g.0 in
      ap (λ (x : A). x ∷ us) same
      ∙ ap (λ (l : List A). v ∷ l)
      (climbs_once us vs a.1 b.1
      (both_all (λ (x : A). before u x ≡ true) (λ (x : A). IsIn x (v ∷ vs)) (λ (x : A). IsIn x vs)
      (λ x lt h. behind x (subst (λ (w : A). before w x ≡ true) same lt) h) us a.0 f.1)
      (both_all (λ (x : A). before v x ≡ true) (λ (x : A). IsIn x (u ∷ us)) (λ (x : A). IsIn x us)
      (λ x lt h. behind_u x (subst (λ (w : A). before w x ≡ true) (sym same) lt) h) vs b.0 g.1))
    where
      no_loop : (x : A) → before x x ≡ true → ⊥
      no_loop x e = false≢true (sym (order.one_way x x e) ∙ e)

      heads : (u ≡ v) ⊎ IsIn u vs → (v ≡ u) ⊎ IsIn v us → u ≡ v
      heads (inl e) h = e
      heads (inr h) (inl e) = sym e
      heads (inr h) (inr k) =
          absurd (false≢true (sym (order.one_way v u (of_in (λ (x : A). before v x ≡ true) u vs h b.0))
          ∙ of_in (λ (x : A). before u x ≡ true) v us k a.0))

      behind : (x : A) → before v x ≡ true → IsIn x (v ∷ vs) → IsIn x vs
      behind x lt (inl e) = absurd (no_loop v (subst (λ (w : A). before v w ≡ true) e lt))
      behind x lt (inr h) = h

      behind_u : (x : A) → before u x ≡ true → IsIn x (u ∷ us) → IsIn x us
      behind_u x lt (inl e) = absurd (no_loop u (subst (λ (w : A). before u w ≡ true) e lt))
      behind_u x lt (inr h) = h

  -- whatever sorts items whose keys differ puts them in order
  pub sorted_is_in_order : (xs ys : List A) → ApartBy key xs → IsPermutation xs ys → IsSortedBy before ys
      → ys ≡ in_order before xs
  sorted_is_in_order xs ys a p s =
      climbs_once ys (in_order before xs)
      (climbs ys (rises_sorted ys s) (apart_permuted key xs ys p a))
      (climbs (in_order before xs) (rises_in_order before order xs) (apart_in_order key before xs a))
      (all_weaken (λ (y : A). IsIn y xs) (λ (y : A). IsIn y (in_order before xs)) (λ y h. ordered_in before xs y h) ys
      (permuted_in xs ys p))
      (all_weaken (λ (y : A). IsIn y xs) (λ (y : A). IsIn y ys)
      (λ y h. of_in (λ (z : A). IsIn z ys) y xs h (permuted_in ys xs (IsPermutation-sym xs ys p)))
      (in_order before xs) (all_in_order (λ (y : A). IsIn y xs) before xs (in_self xs)))

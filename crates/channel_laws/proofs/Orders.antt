-- Ascending numbers, and the first that is found by place.
use Rattle.std.proofs.Common.{◌≡◌, ◌⊎◌, inl, inr, ℕ, ◌<◌, ◌≤◌, List, [], ◌∷◌, ◌++◌, map, filter, Bool, true, false, ◌&&◌, nat_lt, refl, sym, ap, ◌∙◌, arith, Some, None, option_map}
use Rattle.std.specs.List.{find, flat_map}
use Rattle.std.proofs.lemmas.Bool.{cases_Bool, cond_both, false≢true, ltb-true, ltb-false, eqb-true}
use Rattle.protocol_model.specs.Search.{is_among, insert_in_order, in_order, each_once, ascending_numbers}
use Rattle.connection_laws.proofs.Searches.{among_cons, among_here, among_there}

-- each is below those after it
abbrev pub Ascend : List ℕ → Type 0
Ascend [] = Unit {0}
Ascend (n ∷ ns) = ((k : ℕ) → is_among k ns ≡ true → n < k) × Ascend ns

among_inserted : (x : ℕ) (ys : List ℕ) (n : ℕ) → is_among n (insert_in_order nat_lt x ys) ≡ true
    → (x ≡ n) ⊎ (is_among n ys ≡ true)
among_inserted x [] n h = among_cons x [] n h
among_inserted x (y ∷ ys) n h =
    cond_both (nat_lt y x) (y ∷ insert_in_order nat_lt x ys) (x ∷ y ∷ ys) (λ (l : List ℕ). is_among n l ≡ true → (x ≡ n) ⊎ (is_among n (y ∷ ys) ≡ true))
    (λ e q. elim (among_cons y (insert_in_order nat_lt x ys) n q) [
      | inl s ↦ inr (among_here y ys n s)
      | inr s ↦ elim (among_inserted x ys n s) [ inl t ↦ inl t | inr t ↦ inr (among_there y ys n t) ]
    ])
    (λ e q. among_cons x (y ∷ ys) n q) h

ascend_inserted : (x : ℕ) (ys : List ℕ) → is_among x ys ≡ false → Ascend ys → Ascend (insert_in_order nat_lt x ys)
ascend_inserted x [] new h = (λ k q. absurd (false≢true q), tt)
ascend_inserted x (y ∷ ys) new h =
    cond_both (nat_lt y x) (y ∷ insert_in_order nat_lt x ys) (x ∷ y ∷ ys) Ascend
    (λ e. (λ k q. elim (among_inserted x ys k q) [ inl s ↦ omega (arith, ltb-true y x e, s) | inr s ↦ h.0 k s ], ascend_inserted x ys rest h.1))
    (λ e. (λ k q. elim (among_cons y ys k q) [ inl s ↦ omega (arith, first e, s) | inr s ↦ omega (arith, first e, h.0 k s) ], h))
  where
    rest : is_among x ys ≡ false
    rest =
        elim (cases_Bool (is_among x ys)) [ inl q ↦ absurd (false≢true (sym new ∙ among_there y ys x q)) | inr q ↦ q ]

    first : nat_lt y x ≡ false → x < y
    first e = (
        let most : x ≤ y = ltb-false y x e in
        elim (Rattle.std.proofs.lemmas.Bool.cases_eq x y) [
          | inl q ↦ absurd (false≢true (sym new ∙ among_here y ys x (sym q)))
          | inr q ↦ omega (arith, q)
        ])

among_once_back : (xs : List ℕ) (n : ℕ) → is_among n (each_once xs) ≡ true → is_among n xs ≡ true
among_once_back [] n h = h
among_once_back (x ∷ xs) n h =
    cond_both (is_among x xs) (each_once xs) (x ∷ each_once xs) (λ (l : List ℕ). is_among n l ≡ true → is_among n (x ∷ xs) ≡ true)
    (λ e q. among_there x xs n (among_once_back xs n q))
    (λ e q. elim (among_cons x (each_once xs) n q) [ inl s ↦ among_here x xs n s | inr s ↦ among_there x xs n (among_once_back xs n s) ]) h

among_order_back : (xs : List ℕ) (n : ℕ) → is_among n (in_order nat_lt xs) ≡ true → is_among n xs ≡ true
among_order_back [] n h = h
among_order_back (x ∷ xs) n h = elim (among_inserted x (in_order nat_lt xs) n h) [
  | inl e ↦ among_here x xs n e
  | inr e ↦ among_there x xs n (among_order_back xs n e)
]

not_among : (n : ℕ) (xs ys : List ℕ) → (is_among n ys ≡ true → is_among n xs ≡ true) → is_among n xs ≡ false
    → is_among n ys ≡ false
not_among n xs ys f e = elim (cases_Bool (is_among n ys)) [ inl q ↦ absurd (false≢true (sym e ∙ f q)) | inr q ↦ q ]

pub ascending : (ns : List ℕ) → Ascend (ascending_numbers ns)
ascending [] = tt
ascending (n ∷ ns) =
    cond_both (is_among n ns) (each_once ns) (n ∷ each_once ns) (λ (l : List ℕ). Ascend (in_order nat_lt l))
    (λ e. ascending ns)
    (λ e. ascend_inserted n (in_order nat_lt (each_once ns))
    (not_among n ns (in_order nat_lt (each_once ns)) (λ q. among_once_back ns n (among_order_back (each_once ns) n q)) e) (ascending ns))

pub among_ascending_back : (ns : List ℕ) (n : ℕ) → is_among n (ascending_numbers ns) ≡ true → is_among n ns ≡ true
among_ascending_back ns n h = among_once_back ns n (among_order_back (each_once ns) n h)

-- ---- what is found first

pub find_front : {A : Type 0} (p : A → Bool) (xs ys : List A) (x : A) → find p xs ≡ Some x → find p (xs ++ ys) ≡ Some x
find_front p [] ys x h = absurd cc
find_front p (y ∷ xs) ys x h = elim (cases_Bool (p y)) [
  | inl e ↦ rw e (rw e at h)
  | inr e ↦ rw e (find_front p xs ys x (rw e at h))
]

pub find_back : {A : Type 0} (p : A → Bool) (xs ys : List A) → find p xs ≡ None → find p (xs ++ ys) ≡ find p ys
find_back p [] ys h = refl
find_back p (y ∷ xs) ys h = elim (cases_Bool (p y)) [
  | inl e ↦ absurd (let h' = rw e at h in cc)
  | inr e ↦ rw e (find_back p xs ys (rw e at h))
]

-- the first of ascending lists in which something is found
pub find_at : {A : Type 0} (p : A → Bool) (g : ℕ → List A) (c : ℕ) (x : A) (cs : List ℕ) → Ascend cs
    → is_among c cs ≡ true
    → ((k : ℕ) → k < c → find p (g k) ≡ None) → find p (g c) ≡ Some x → find p (flat_map g cs) ≡ Some x
find_at p g c x [] a h none e = absurd (false≢true h)
find_at p g c x (k ∷ cs) a h none e = elim (among_cons k cs c h) [
  | inl q ↦ find_front p (g k) (flat_map g cs) x (ap (λ n. find p (g n)) q ∙ e)
  | inr q ↦ find_back p (g k) (flat_map g cs) (none k (a.0 c q)) ∙ find_at p g c x cs a.1 q none e
]

pub find_nowhere : {A : Type 0} (p : A → Bool) (g : ℕ → List A) (cs : List ℕ) → ((k : ℕ) → find p (g k) ≡ None)
    → find p (flat_map g cs) ≡ None
find_nowhere p g [] none = refl
find_nowhere p g (k ∷ cs) none = find_back p (g k) (flat_map g cs) (none k) ∙ find_nowhere p g cs none

-- what is found among those mapped and filtered
pub find_mapped : {A B : Type 0} (p : B → Bool) (q : A → Bool) (f : A → B) (xs : List A)
    → find p (map f (filter q xs)) ≡ option_map f (find (λ x. q x && p (f x)) xs)
find_mapped p q f [] = refl
find_mapped p q f (x ∷ xs) = elim (cases_Bool (q x)) [
  | inr e ↦ rw e (find_mapped p q f xs)
  | inl e ↦ rw e (elim (cases_Bool (p (f x))) [ inl t ↦ rw t refl | inr t ↦ rw t (find_mapped p q f xs) ])
]

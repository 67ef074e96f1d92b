-- Records of handles that are written one by one, by the values that are given them.
use Rattle.std.proofs.Common.{◌≡◌, ◌⊎◌, inl, inr, ℕ, zero, suc, ◌+◌, ◌<◌, ◌≤◌, max, List, [], ◌∷◌, ◌++◌, map, take, length, Bool, true, false, cond, ◌==◌, refl, sym, ap, ◌∙◌, subst, arith, Option, Some, None, ℤ}
use Rattle.std.specs.List.{slice_get}
use Rattle.std.proofs.lemmas.Bool.{cases_eq, eq-eqb, ne_eqb}
use Rattle.std.proofs.lemmas.List.{map-append, get_or-set_other, take_all}
use Rattle.std.proofs.lemmas.Grind.{get_or-set_at}
use Rattle.std.specs.Prelude.{slice_set}
use Rattle.std.proofs.Math.ListN.{get_or}
use Rattle.protocol_model.specs.Value.{Pair, value_among}
use Rattle.protocol_model.specs.Search.{or_else}
use Rattle.value_codec.specs.Values.{whole_of}
use Rattle.value_codec.specs.declared.pair.Pair.{Pair as PairValue}
use Rattle.sender_records.specs.declared.handle.HandleRecord.{HandleRecord}
use Rattle.sender_records.specs.Handles.{handle_in, by_value, pair_value, AreApart, no_handle, newest_change}
use Rattle.shadow_changes.specs.declared.change.Change.{Change}

-- ---- values by handle

-- a value is among the first pairs, or else among the others
pub value_more : (xs ys : List Pair) (h : ℕ) → value_among (xs ++ ys) h ≡ or_else (value_among xs h) (value_among ys h)
value_more [] ys h = refl
value_more (x ∷ xs) ys h = by (x.handle == h) (value_more xs ys h)
  where
    by : (b : Bool) → value_among (xs ++ ys) h ≡ or_else (value_among xs h) (value_among ys h)
        → cond b (Some x.value) (value_among (xs ++ ys) h)
        ≡ or_else (cond b (Some x.value) (value_among xs h)) (value_among ys h)
    by true ih = refl
    by false ih = ih

one_here : (p : Pair) (rest : List Pair) (h : ℕ) → p.handle ≡ h → value_among (p ∷ rest) h ≡ Some p.value
one_here p rest h e = ap (λ (b : Bool). cond b (Some p.value) (value_among rest h)) (eq-eqb p.handle h e)

one_other : (p : Pair) (rest : List Pair) (h : ℕ) → (p.handle ≡ h → ⊥) → value_among (p ∷ rest) h ≡ value_among rest h
one_other p rest h e = ap (λ (b : Bool). cond b (Some p.value) (value_among rest h)) (ne_eqb p.handle h e)

-- a handle that comes later isn't among those before
apart_front : (xs : List Pair) (p : Pair) (rest : List Pair) → AreApart (xs ++ p ∷ rest)
    → value_among xs p.handle ≡ None
apart_front [] p rest h = refl
apart_front (x ∷ xs) p rest h = elim (cases_eq x.handle p.handle) [
  | inr e ↦ one_other x xs p.handle e ∙ apart_front xs p rest h.1
  | inl e ↦ absurd (clash (sym h.0 ∙ value_more xs (p ∷ rest) x.handle
      ∙ ap (or_else (value_among xs x.handle)) (one_here p rest x.handle (sym e))
      ∙ ap (λ (o : Option ℤ). or_else o (Some p.value)) (ap (value_among xs) e ∙ apart_front xs p rest h.1)))
]
  where
    clash : (let o : Option ℤ = None in o) ≡ Some p.value → ⊥
    clash e = cc

-- ---- up to an index

-- one pair more
pub take_step : {X : Type 0} (xs : List X) (i : ℕ) (x : X) → slice_get xs i ≡ Some x
    → take (i + 1) xs ≡ take i xs ++ x ∷ []
take_step [] i x e = absurd (let no : None ≡ Some x = e in cc)
take_step (y ∷ ys) zero x e = (let s : y ≡ x = cc in ap (λ z. z ∷ []) s)
take_step (y ∷ ys) (suc i) x e =
    (let s : suc i + 1 ≡ suc (i + 1) = omega arith in rw s (ap (λ zs. y ∷ zs) (take_step ys i x e)))

-- the pairs before one, it, and those behind it
pub split_at : {X : Type 0} (xs : List X) (i : ℕ) (x : X) → slice_get xs i ≡ Some x
    → (rest : List X) × (xs ≡ take i xs ++ x ∷ rest)
split_at [] i x e = absurd (let no : None ≡ Some x = e in cc)
split_at (y ∷ ys) zero x e = (let s : y ≡ x = cc in (ys, ap (λ z. z ∷ ys) s))
split_at (y ∷ ys) (suc i) x e = (let s = split_at ys i x e in (s.0, ap (λ zs. y ∷ zs) s.1))

-- ---- one more

by_values : (f : HandleRecord → ℤ → HandleRecord) (k : HandleRecord) (o : Option ℤ) (q : Option ℤ)
    → (o ≡ None) ⊎ (q ≡ None) → by_value f (by_value f k o) q ≡ by_value f k (or_else o q)
by_values f k None q e = refl
by_values f k (Some v) None e = refl
by_values f k (Some v) (Some w) (inl e) = absurd (let no : Some v ≡ None = e in cc)
by_values f k (Some v) (Some w) (inr e) = absurd (let no : Some w ≡ None = e in cc)

-- records written up to an index are written up to the next once that handle is
pub written : (f : ℕ → HandleRecord → ℤ → HandleRecord) (values : List PairValue) (i : ℕ) (p : PairValue)
    (start now later : List HandleRecord)
    → slice_get values i ≡ Some p → AreApart (map pair_value values)
    → ((h : ℕ) → handle_in now h ≡ by_value (f h) (handle_in start h) (value_among (map pair_value (take i values)) h))
    → handle_in later p.prop ≡ f p.prop (handle_in now p.prop) (whole_of p.value)
    → ((h : ℕ) → (p.prop ≡ h → ⊥) → handle_in later h ≡ handle_in now h)
    → (h : ℕ) → handle_in later h
    ≡ by_value (f h) (handle_in start h) (value_among (map pair_value (take (i + 1) values)) h)
written f values i p start now later at apart before here others h =
    one
    ∙ ap (λ (k : HandleRecord). by_value (f h) k (value_among (pair_value p ∷ []) h)) (before h)
    ∙ by_values (f h) (handle_in start h) (value_among (map pair_value (take i values)) h)
    (value_among (pair_value p ∷ []) h) apart_here
    ∙ ap (by_value (f h) (handle_in start h)) (
    sym (value_more (map pair_value (take i values)) (pair_value p ∷ []) h)
    ∙ ap (λ (ps : List Pair). value_among ps h)
    (sym (map-append pair_value (take i values) (p ∷ [])) ∙ ap (map pair_value) (sym (take_step values i p at)))
    )
  where
    one : handle_in later h ≡ by_value (f h) (handle_in now h) (value_among (pair_value p ∷ []) h)
    one = elim (cases_eq p.prop h) [
      | inl e ↦ subst
          (λ (n : ℕ). handle_in later n ≡ by_value (f n) (handle_in now n) (value_among (pair_value p ∷ []) n)) e
          (here ∙ ap (by_value (f p.prop) (handle_in now p.prop)) (sym (one_here (pair_value p) [] p.prop refl)))
      | inr e ↦ others h e ∙ ap (by_value (f h) (handle_in now h)) (sym (one_other (pair_value p) [] h e))
    ]

    front : value_among (map pair_value (take i values)) p.prop ≡ None
    front =
        let s = split_at values i p at in
        apart_front (map pair_value (take i values)) (pair_value p) (map pair_value s.0)
        (subst AreApart (ap (map pair_value) s.1 ∙ map-append pair_value (take i values) (p ∷ s.0)) apart)

    apart_here : (value_among (map pair_value (take i values)) h ≡ None) ⊎ (value_among (pair_value p ∷ []) h ≡ None)
    apart_here = elim (cases_eq p.prop h) [
      | inl e ↦ inl (ap (value_among (map pair_value (take i values))) (sym e) ∙ front)
      | inr e ↦ inr (one_other (pair_value p) [] h e)
    ]

-- ---- a list that is written at an index

-- a record is what was written at its place, and stays elsewhere
pub write_here : (xs : List HandleRecord) (i : ℕ) (y : HandleRecord) (h : ℕ) → i < length xs → i ≡ h
    → handle_in (slice_set xs i y) h ≡ y
write_here xs i y h lt e = get_or-set_at xs i h y no_handle (sym e) lt

pub write_other : (xs : List HandleRecord) (i : ℕ) (y : HandleRecord) (h : ℕ) → (i ≡ h → ⊥)
    → handle_in (slice_set xs i y) h ≡ handle_in xs h
write_other xs i y h e = get_or-set_other xs i h y no_handle (λ q. e (sym q))

-- what is read there is the record of the handle
read_in : (xs : List HandleRecord) (i : ℕ) (k : HandleRecord) → i < length xs → k ≡ get_or xs i k → k ≡ handle_in xs i
read_in [] i k lt e = absurd (omega arith)
read_in (x ∷ xs) zero k lt e = e
read_in (x ∷ xs) (suc i) k lt e = read_in xs i k (omega arith) e

-- so where it is written from the one that was there
pub updated_here : (f : HandleRecord → HandleRecord) (xs : List HandleRecord) (i h : ℕ) (k y : HandleRecord)
    → i < length xs → i ≡ h → k ≡ get_or xs i k → y ≡ f k
    → handle_in (slice_set xs i y) h ≡ f (handle_in xs h)
updated_here f xs i h k y lt e is new =
    write_here xs i y h lt e ∙ new ∙ ap f (read_in xs i k lt is ∙ ap (handle_in xs) e)

pub other_handle : (xs : List HandleRecord) (i p h : ℕ) (y : HandleRecord) → i ≡ p → (p ≡ h → ⊥)
    → handle_in (slice_set xs i y) h ≡ handle_in xs h
other_handle xs i p h y e ne = write_other xs i y h (λ q. ne (sym e ∙ q))

-- all are written once the list is
pub all_written : (f : HandleRecord → ℤ → HandleRecord) (values : List PairValue) (n h : ℕ) (k k' : HandleRecord)
    → length values ≤ n
    → k' ≡ by_value f k (value_among (map pair_value (take n values)) h)
    → k' ≡ by_value f k (value_among (map pair_value values) h)
all_written f values n h k k' le e =
    e ∙ ap (λ (vs : List PairValue). by_value f k (value_among (map pair_value vs) h)) (take_all n values le)

-- one change more
pub newest_more : (before : ℕ) (changes : List Change) (c : Change)
    → newest_change before (changes ++ c ∷ []) ≡ max (newest_change before changes) c.tick
newest_more before [] c = refl
newest_more before (x ∷ changes) c = newest_more (max before x.tick) changes c

-- Rising lists of actors: two with the same actors are equal.
use Rattle.std.proofs.Common.{◌≡◌, ◌∙◌, ℕ, zero, suc, ◌+◌, ◌*◌, ◌<◌, ◌≤◌, List, [], ◌∷◌, map, length, filter, Bool, true, false, ◌==◌, refl, sym, ap, subst, arith, if◌then◌else◌, cond}
use Rattle.std.specs.Prelude.{Contains, slice_index_or}
use Rattle.std.specs.List.{AllPairs, range_with_len}
use Rattle.std.specs.List.Sorted.{IsStrictlyIncreasing}
use Rattle.std.proofs.lemmas.List.Kept.{AllPairs-from_increasing}
use Rattle.std.proofs.lemmas.Bool.Decides.{nat_tests}
use Rattle.actor_lists.specs.Shared.{count_of}
use Rattle.world_table.proofs.Numbers.{same, same_number, other_number}

-- ---- membership is a count

counted_at : (xs : List ℕ) (a k : ℕ) → k < length xs → slice_index_or xs k a ≡ a → 0 < count_of a xs
counted_at [] a k within is = absurd (omega arith)
counted_at (x ∷ xs) a zero within is =
    let one : ◌≡◌ {A = ℕ} (if x == a then 1 else 0) 1 = rw (is, same a) refl in omega arith
counted_at (x ∷ xs) a (suc k) within is = let h = counted_at xs a k (omega arith) is in omega arith

pub counted : (xs : List ℕ) (a : ℕ) → Contains xs a → 0 < count_of a xs
counted xs a h = counted_at xs a h.0 h.1 h.2

pub contained : (xs : List ℕ) (a : ℕ) → 0 < count_of a xs → Contains xs a
contained [] a h = absurd (omega arith)
contained (x ∷ xs) a h = by_test (x == a) refl h (contained xs a)
  where
    by_test : (t : Bool) → (x == a) ≡ t → 0 < (if t then 1 else 0) + count_of a xs
        → (0 < count_of a xs → Contains xs a) → Contains (x ∷ xs) a
    by_test true e h rest = (0, omega arith, same_number x a e)
    by_test false e h rest = let r = rest (omega arith) in (suc r.0, (let k = r.1 in omega arith), r.2)

-- ---- rising lists

-- each is below all later ones
abbrev pub Rising : List ℕ → Type 0
Rising [] = Unit {0}
Rising (x ∷ xs) = ((a : ℕ) → 0 < count_of a xs → x < a) × Rising xs

from_pairs : (xs : List ℕ) → AllPairs (λ x y. x < y) xs → Rising xs
from_pairs [] h = tt
from_pairs (x ∷ xs) h = (
  λ a some.
      let c = contained xs a some in
      let below : x < slice_index_or (x ∷ xs) (suc c.0) a =
      h 0 (suc c.0) a (omega arith) (let k = c.1 in omega arith) in
      rw c.2 at below,
  from_pairs xs (λ i j d below within. h (suc i) (suc j) d (omega arith) (omega arith)),
)

pub rising_of : (xs : List ℕ) → IsStrictlyIncreasing xs → Rising xs
rising_of xs h = from_pairs xs (AllPairs-from_increasing xs h)

-- ---- filters

step : (px pa t : Bool) (f n : ℕ) → (t ≡ true → px ≡ pa) → f ≡ (if pa then n else 0)
    → (if px then (if t then 1 else 0) + f else f) ≡ (if pa then (if t then 1 else 0) + n else 0)
step true true t f n same h = rw h refl
step false false t f n same h = h
step true false true f n same h = let e = same refl in absurd (cc)
step true false false f n same h = omega arith
step false true true f n same h = let e = same refl in absurd (cc)
step false true false f n same h = omega arith

count_if : (a x : ℕ) (t : Bool) (xs : List ℕ)
    → count_of a (cond t (x ∷ xs) xs) ≡ (if t then (if x == a then 1 else 0) + count_of a xs else count_of a xs)
count_if a x true xs = refl
count_if a x false xs = refl

count_filter : (p : ℕ → Bool) (xs : List ℕ) (a : ℕ) → count_of a (filter p xs) ≡ (if p a then count_of a xs else 0)
count_filter p [] a = by_test (p a)
  where
    by_test : (t : Bool) → ◌≡◌ {A = ℕ} 0 (if t then 0 else 0)
    by_test true = refl
    by_test false = refl
count_filter p (x ∷ xs) a =
    count_if a x (p x) (filter p xs)
    ∙ step (p x) (p a) (x == a) (count_of a (filter p xs)) (count_of a xs) (λ e. ap p (same_number x a e))
    (count_filter p xs a)

pub filter_passes : (p : ℕ → Bool) (xs : List ℕ) (a : ℕ) → 0 < count_of a (filter p xs) → p a ≡ true
filter_passes p xs a h = by_test (p a) (rw (count_filter p xs a) at h)
  where
    by_test : (t : Bool) → 0 < (if t then count_of a xs else 0) → t ≡ true
    by_test true h = refl
    by_test false h = absurd (omega arith)

pub filter_keeps : (p : ℕ → Bool) (xs : List ℕ) (a : ℕ) → 0 < count_of a xs → p a ≡ true → 0 < count_of a (filter p xs)
filter_keeps p xs a h k = rw (count_filter p xs a, k) h

filtered : (p : ℕ → Bool) (xs : List ℕ) (a : ℕ) → 0 < count_of a (filter p xs) → 0 < count_of a xs
filtered p xs a h = by_test (p a) (rw (count_filter p xs a) at h)
  where
    by_test : (t : Bool) → 0 < (if t then count_of a xs else 0) → 0 < count_of a xs
    by_test true h = h
    by_test false h = absurd (omega arith)

pub rising_filter : (p : ℕ → Bool) (xs : List ℕ) → Rising xs → Rising (filter p xs)
rising_filter p [] h = tt
rising_filter p (x ∷ xs) h = by_test (p x) (rising_filter p xs h.1)
  where
    by_test : (t : Bool) → Rising (filter p xs) → Rising (cond t (x ∷ filter p xs) (filter p xs))
    by_test true rest = (λ a some. h.0 a (filtered p xs a some), rest)
    by_test false rest = rest

-- what passes a test that is narrower passes both
pub filter_twice : (p q : ℕ → Bool) (xs : List ℕ) → ((a : ℕ) → q a ≡ true → p a ≡ true)
    → filter q (filter p xs) ≡ filter q xs
filter_twice p q [] h = refl
filter_twice p q (x ∷ xs) h = by_tests (p x) (q x) refl (h x) (filter_twice p q xs h)
  where
    by_tests : (s t : Bool) → q x ≡ t → (q x ≡ true → s ≡ true) → filter q (filter p xs) ≡ filter q xs
        → filter q (cond s (x ∷ filter p xs) (filter p xs)) ≡ cond t (x ∷ filter q xs) (filter q xs)
    by_tests true true e k rest = rw (e, rest) refl
    by_tests true false e k rest = rw (e, rest) refl
    by_tests false true e k rest = let f = k e in absurd (cc)
    by_tests false false e k rest = rest

-- ---- two rising lists with the same actors

same_head : (x y : ℕ) (xs ys : List ℕ) → Rising (x ∷ xs) → Rising (y ∷ ys)
    → ((a : ℕ) → 0 < count_of a (x ∷ xs) → 0 < count_of a (y ∷ ys))
    → ((a : ℕ) → 0 < count_of a (y ∷ ys) → 0 < count_of a (x ∷ xs)) → x ≡ y
same_head x y xs ys f' g there back =
    let one : ◌≡◌ {A = ℕ} (if x == x then 1 else 0) 1 = rw (same x) refl in
    let two : ◌≡◌ {A = ℕ} (if y == y then 1 else 0) 1 = rw (same y) refl in
    let at_x = there x (omega arith) in
    let at_y = back y (omega arith) in
    by_tests (y == x) (x == y) refl refl at_x at_y
  where
    by_tests : (s t : Bool) → (y == x) ≡ s → (x == y) ≡ t → 0 < (if s then 1 else 0) + count_of x ys
        → 0 < (if t then 1 else 0) + count_of y xs → x ≡ y
    by_tests true t e f h k = sym (same_number y x e)
    by_tests false true e f h k = same_number x y f
    by_tests false false e f h k =
        let below = g.0 x (omega arith) in let above = f'.0 y (omega arith) in absurd (omega arith)

-- without the head
tail_of : (x : ℕ) (xs ys : List ℕ) → Rising (x ∷ xs)
    → ((a : ℕ) → 0 < count_of a (x ∷ xs) → 0 < count_of a (x ∷ ys))
    → (a : ℕ) → 0 < count_of a xs → 0 < count_of a ys
tail_of x xs ys f there a some =
    let above = f.0 a some in
    let apart : (x == a) ≡ false = grind (arith, nat_tests) in
    let zero_is : ◌≡◌ {A = ℕ} (if x == a then 1 else 0) 0 = rw apart refl in
    let h = there a (omega arith) in omega arith

pub same_lists : (xs ys : List ℕ) → Rising xs → Rising ys → ((a : ℕ) → 0 < count_of a xs → 0 < count_of a ys)
    → ((a : ℕ) → 0 < count_of a ys → 0 < count_of a xs) → xs ≡ ys
same_lists [] [] f g there back = refl
same_lists [] (y ∷ ys) f g there back =
    let one : ◌≡◌ {A = ℕ} (if y == y then 1 else 0) 1 = rw (same y) refl in
    let h = back y (omega arith) in absurd (omega arith)
same_lists (x ∷ xs) [] f g there back =
    let one : ◌≡◌ {A = ℕ} (if x == x then 1 else 0) 1 = rw (same x) refl in
    let h = there x (omega arith) in absurd (omega arith)
same_lists (x ∷ xs) (y ∷ ys) f g there back =
    let e = same_head x y xs ys f g there back in
    let there' = subst (λ (z : ℕ). (a : ℕ) → 0 < count_of a (x ∷ xs) → 0 < count_of a (z ∷ ys)) (sym e) there in
    let back' = subst (λ (z : ℕ). (a : ℕ) → 0 < count_of a (z ∷ ys) → 0 < count_of a (x ∷ xs)) (sym e) back in
    let g' = subst (λ (z : ℕ). Rising (z ∷ ys)) (sym e) g in
    let rest = same_lists xs ys f.1 g.1 (tail_of x xs ys f there') (tail_of x ys xs g' back') in
    ap (λ (z : ℕ). z ∷ xs) e ∙ ap (λ (zs : List ℕ). y ∷ zs) rest

-- ---- the actors of a world

doubled : (m n a : ℕ) → 0 < count_of a (map (λ k. 2 * k) (range_with_len m n)) → 2 * m ≤ a
doubled m zero a h = absurd (omega arith)
doubled m (suc n) a h = by_test (2 * m == a) refl h (doubled (m + 1) n a)
  where
    by_test : (t : Bool) → (2 * m == a) ≡ t
        → 0 < (if t then 1 else 0) + count_of a (map (λ k. 2 * k) (range_with_len (m + 1) n))
        → (0 < count_of a (map (λ k. 2 * k) (range_with_len (m + 1) n)) → 2 * (m + 1) ≤ a) → 2 * m ≤ a
    by_test true e h rest = let k = same_number (2 * m) a e in omega arith
    by_test false e h rest = let k = rest (omega arith) in omega arith

pub rising_actors : (m n : ℕ) → Rising (map (λ k. 2 * k) (range_with_len m n))
rising_actors m zero = tt
rising_actors m (suc n) =
    (λ a some. let h = doubled (m + 1) n a some in omega arith, rising_actors (m + 1) n)

pub has_actor : (m n k : ℕ) → m ≤ k → k < m + n → 0 < count_of (2 * k) (map (λ j. 2 * j) (range_with_len m n))
has_actor m zero k least most = absurd (omega arith)
has_actor m (suc n) k least most = by_test (m == k) refl (λ l. has_actor (m + 1) n k l (omega arith))
  where
    by_test : (t : Bool) → (m == k) ≡ t
        → (m + 1 ≤ k → 0 < count_of (2 * k) (map (λ j. 2 * j) (range_with_len (m + 1) n)))
        → 0 < count_of (2 * k) (map (λ j. 2 * j) (range_with_len m (suc n)))
    by_test true e rest =
        let h = same_number m k e in
        let one : (2 * m == 2 * k) ≡ true = grind (arith, nat_tests) in
        let p : ◌≡◌ {A = ℕ} (if 2 * m == 2 * k then 1 else 0) 1 = rw one refl in omega arith
    by_test false e rest =
        let h = other_number m k e in
        let r = rest (omega arith) in omega arith

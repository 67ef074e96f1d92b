-- A client has room for a copy of each actor that a world may spawn.
use Rattle.std.proofs.Common.{◌≡◌, inl, inr, ℕ, suc, ◌+◌, ◌/◌, ◌<◌, ◌≤◌, List, [], ◌∷◌, map, filter, Bool, true, false, nat_lt, ◌||◌, length, refl, sym, ap, ◌∙◌, subst, arith}
use Rattle.std.specs.List.{filter_map, AllByRecursion}
use Rattle.std.proofs.lemmas.Bool.{cases_Bool, false≢true, cond_both}
use Rattle.std.proofs.lemmas.Bool.Decides.{nat_tests}
use Rattle.std.proofs.lemmas.List.{length-map}
use Rattle.protocol_model.specs.Search.{is_among, insert_in_order, in_order, each_once, ascending_numbers}
use Rattle.connection_model.specs.Feed.{Past}
use Rattle.connection_model.specs.Copies.{delivered_of, has_copy, copied_actors, actor_opened}
use Rattle.connection_laws.proofs.Overrun.{AreDistinct, distinct_fit}
use Rattle.connection_laws.proofs.Searches.{among_cons, among_here, among_there}
use Rattle.headline_laws.specs.Fits.{IsSpawned}
use Rattle.headline_laws.proofs.ChannelsFit.{back_inserted, back_in_order, back_each_once}

-- ---- different numbers

-- what is not among more is not among fewer
new_among : (n : ℕ) (xs ys : List ℕ) → (is_among n ys ≡ true → is_among n xs ≡ true) → is_among n xs ≡ false → is_among n ys ≡ false
new_among n xs ys h e = elim (cases_Bool (is_among n ys)) [ inl q ↦ absurd (false≢true (sym e ∙ h q)) | inr q ↦ q ]

-- numbers, each once, are different
distinct_once : (xs : List ℕ) → AreDistinct (each_once xs)
distinct_once [] = tt
distinct_once (x ∷ xs) = elim (cases_Bool (is_among x xs)) [
  | inl e ↦ rw e (distinct_once xs)
  | inr e ↦ rw e (new_among x xs (each_once xs) (back_each_once xs x) e, distinct_once xs)
]

-- different numbers with a new one are different
distinct_inserted : (x : ℕ) (ys : List ℕ) → is_among x ys ≡ false → AreDistinct ys → AreDistinct (insert_in_order nat_lt x ys)
distinct_inserted x [] e d = (refl, tt)
distinct_inserted x (y ∷ ys) e d =
    cond_both (nat_lt y x) (y ∷ insert_in_order nat_lt x ys) (x ∷ y ∷ ys) AreDistinct
    (λ t. (elsewhere, distinct_inserted x ys (new_among x (y ∷ ys) ys (λ q. among_there y ys x q) e) d.1)) (λ t. (e, d))
  where
    elsewhere : is_among y (insert_in_order nat_lt x ys) ≡ false
    elsewhere = elim (cases_Bool (is_among y (insert_in_order nat_lt x ys))) [
      | inr q ↦ q
      | inl q ↦ elim (among_cons x ys y (back_inserted nat_lt x ys y q)) [
        | inl r ↦ absurd (false≢true (sym e ∙ among_here y ys x (sym r)))
        | inr r ↦ absurd (false≢true (sym d.0 ∙ r))
      ]
    ]

-- so are they in order
distinct_in_order : (xs : List ℕ) → AreDistinct xs → AreDistinct (in_order nat_lt xs)
distinct_in_order [] d = tt
distinct_in_order (x ∷ xs) d = distinct_inserted x (in_order nat_lt xs) (new_among x xs (in_order nat_lt xs) (back_in_order nat_lt xs x) d.0) (distinct_in_order xs d.1)

-- what is among those that pass is among all, and passes
back_filtered : (test : ℕ → Bool) (xs : List ℕ) (n : ℕ) → is_among n (filter test xs) ≡ true → (is_among n xs ≡ true) × (test n ≡ true)
back_filtered test [] n h = absurd (false≢true h)
back_filtered test (x ∷ xs) n h =
    cond_both (test x) (x ∷ filter test xs) (filter test xs) (λ (l : List ℕ). is_among n l ≡ true → (is_among n (x ∷ xs) ≡ true) × (test n ≡ true))
    (λ e q. elim (among_cons x (filter test xs) n q) [
      | inl r ↦ (among_here x xs n r, ap test (sym r) ∙ e)
      | inr r ↦ (let b = back_filtered test xs n r in (among_there x xs n b.0, b.1))
    ]) (λ e q. (let b = back_filtered test xs n q in (among_there x xs n b.0, b.1))) h

-- those that pass are different
distinct_filtered : (test : ℕ → Bool) (xs : List ℕ) → AreDistinct xs → AreDistinct (filter test xs)
distinct_filtered test [] d = tt
distinct_filtered test (x ∷ xs) d =
    cond_both (test x) (x ∷ filter test xs) (filter test xs) AreDistinct
    (λ e. (new_among x xs (filter test xs) (λ q. (back_filtered test xs x q).0) d.0, distinct_filtered test xs d.1)) (λ e. distinct_filtered test xs d.1)

-- ---- halves

-- the number of an actor's spawn
abbrev half : ℕ → ℕ
half n = n / 2

-- such a number is of an actor among them
from_half : (xs : List ℕ) (k : ℕ) → is_among k (map half xs) ≡ true → (n : ℕ) × (is_among n xs ≡ true) × (n / 2 ≡ k)
from_half [] k h = absurd (false≢true h)
from_half (x ∷ xs) k h = elim (among_cons (x / 2) (map half xs) k h) [
  | inl e ↦ (x, among_here x xs x refl, e)
  | inr e ↦ (let r = from_half xs k e in (r.0, among_there x xs r.0 r.1, r.2))
]

-- each was spawned
abbrev AllSpawned : List ℕ → Type 0
AllSpawned xs = (n : ℕ) → is_among n xs ≡ true → IsSpawned n

-- actors of one spawn are one
same_half : (m n : ℕ) → IsSpawned m → IsSpawned n → m / 2 ≡ n / 2 → m ≡ n
same_half m n a b e = omega (arith, a.1, b.1, e)

-- different actors have different spawns
distinct_halves : (xs : List ℕ) → AllSpawned xs → AreDistinct xs → AreDistinct (map half xs)
distinct_halves [] all d = tt
distinct_halves (x ∷ xs) all d = (new, distinct_halves xs (λ n q. all n (among_there x xs n q)) d.1)
  where
    new : is_among (x / 2) (map half xs) ≡ false
    new = elim (cases_Bool (is_among (x / 2) (map half xs))) [
      | inr q ↦ q
      | inl q ↦ (
          let r = from_half xs (x / 2) q in
          let same : r.0 ≡ x = same_half r.0 x (all r.0 (among_there x xs r.0 r.1)) (all x (among_here x xs x refl)) r.2 in
          absurd (false≢true (sym d.0 ∙ subst (λ (n : ℕ). is_among n xs ≡ true) same r.1)))
    ]

-- spawns are numbered from 1 to 8,192
halves_low : (xs : List ℕ) → AllSpawned xs → (k : ℕ) → is_among k (map half xs) ≡ true → (0 < k) × (k ≤ 0 + 8192)
halves_low xs all k h =
    let r = from_half xs k h in
    let s = all r.0 r.1 in
    (omega (arith, s.1, s.2, r.2), omega (arith, s.1, s.3, r.2))

-- so at most 8,192 different actors were spawned
few_spawned : (xs : List ℕ) → AllSpawned xs → AreDistinct xs → length xs ≤ 8192
few_spawned xs all d = omega (arith, distinct_fit 8192 0 (map half xs) (distinct_halves xs all d) (halves_low xs all), length-map xs half)

-- ---- copies

-- what holds of all holds of what is among them
all_among : (P : ℕ → Type 0) (xs : List ℕ) → AllByRecursion P xs → (n : ℕ) → is_among n xs ≡ true → P n
all_among P [] h n q = absurd (false≢true q)
all_among P (x ∷ xs) h n q = elim (among_cons x xs n q) [ inl e ↦ subst P e h.0 | inr e ↦ all_among P xs h.1 n e ]

-- a client that copied spawned actors alone has room for one more
pub room_for : (past : Past) (a : ℕ) → AllByRecursion IsSpawned (filter_map actor_opened (delivered_of past)) → IsSpawned a → (has_copy past a || nat_lt (length (copied_actors past)) 8192) ≡ true
room_for past a all spawned = by (has_copy past a) refl
  where
    opened : List ℕ
    opened = filter_map actor_opened (delivered_of past)

    each : (n : ℕ) → is_among n (copied_actors past) ≡ true → IsSpawned n
    each n q =
        all_among IsSpawned (filter_map actor_opened (delivered_of past)) all n
        (back_each_once (filter_map actor_opened (delivered_of past)) n (back_in_order nat_lt (each_once (filter_map actor_opened (delivered_of past))) n (back_filtered (has_copy past) (ascending_numbers (filter_map actor_opened (delivered_of past))) n q).0))

    distinct : AreDistinct (copied_actors past)
    distinct = distinct_filtered (has_copy past) (ascending_numbers (filter_map actor_opened (delivered_of past))) (distinct_in_order (each_once (filter_map actor_opened (delivered_of past))) (distinct_once (filter_map actor_opened (delivered_of past))))

    below : (n : ℕ) → suc n ≤ 8192 → nat_lt n 8192 ≡ true
    below n h = grind (arith, nat_tests)

    by : (b : Bool) → has_copy past a ≡ b → (b || nat_lt (length (copied_actors past)) 8192) ≡ true
    by true e = refl
    by false e =
        let new : is_among a (copied_actors past) ≡ false =
        elim (cases_Bool (is_among a (copied_actors past))) [ inr q ↦ q | inl q ↦ absurd (false≢true (sym e ∙ (back_filtered (has_copy past) (ascending_numbers (filter_map actor_opened (delivered_of past))) a q).1)) ] in
        below (length (copied_actors past)) (few_spawned (a ∷ copied_actors past) (λ n q. elim (among_cons a (copied_actors past) n q) [ inl r ↦ subst IsSpawned r spawned | inr r ↦ each n r ]) (new, distinct))

-- The actors of a world: ascending, those that were spawned; sums over some of them.
use Rattle.std.proofs.lemmas.Bool.Decides.{nat_tests}
use Rattle.std.proofs.Common.{inl, inr, ◌≡◌, ◌≢◌, ℕ, zero, suc, ◌+◌, ◌*◌, ◌<◌, ◌≤◌, ◌==◌, ◌||◌, List, [], ◌∷◌, map, filter, Bool, true, false, cond, refl, sym, ap, ◌∙◌, subst, arith, Some, None, ℤ}
use Rattle.std.specs.Prelude.{sum_by, count_by, length}
use Rattle.protocol_model.specs.Sight.{is_relevant}
use Rattle.graph_model.specs.Listed.{is_listed, listed_count}
use Rattle.std.specs.List.{range_with_len}
use Rattle.std.proofs.lemmas.Bool.{ne_eqb, eqb-true, eq-eqb, cases_Bool, false≢true}
use Rattle.std.proofs.lemmas.List.Sums.{sum_by-cons}
use Rattle.protocol_model.specs.Search.{is_among}
use Rattle.protocol_model.specs.Value.{Table}
use Rattle.protocol_model.specs.World.{Edit, Edits, Spawn, Destroy, Set, Own, View, Add, Dormant, Wake, Flush, Switch, Team, Give, is_spawn, spawn_count, spawn_of, actors_of}
use Rattle.connection_laws.specs.Run.{Ascends}
use Rattle.connection_laws.proofs.Searches.{among_here, among_there}
use Rattle.driver_laws.specs.Counted.{cells, cells_of}

-- ---- actors

ascend_from : (low k count : ℕ) → low < 2 * k → Ascends low (map (λ n. 2 * n) (range_with_len k count))
ascend_from low k zero lt = tt
ascend_from low k (suc count) lt = (lt, ascend_from (2 * k) (k + 1) count (omega arith))

pub actors_ascend : (edits : Edits) → Ascends 0 (actors_of edits)
actors_ascend edits = ascend_from 0 1 (spawn_count edits) (omega arith)

count_more : (class : ℕ) (x y : ℤ) (edits : Edits) → spawn_count (Spawn class x y ∷ edits) ≡ 1 + spawn_count edits
count_more class x y edits = sum_by-cons (λ (e : Edit). cond (is_spawn e) 1 0) (Spawn class x y) edits

count_other : (e : Edit) (edits : Edits) → is_spawn e ≡ false → spawn_count (e ∷ edits) ≡ spawn_count edits
count_other e edits h = sum_by-cons (λ (e : Edit). cond (is_spawn e) 1 0) e edits ∙ rw h (omega arith)

-- the guid of the n-th actor that was spawned
record IsNth (count a : ℕ) : Type 0 where
  n : ℕ
  is : a ≡ 2 * n
  some : 1 ≤ n
  most : n ≤ count

nth_more : (count more a : ℕ) → count ≤ more → IsNth count a → IsNth more a
nth_more count more a le h = record { n = h.n; is = h.is; some = h.some; most = omega (arith, h.most, le) }

nth : (edits : Edits) (a : ℕ) → spawn_of edits a ≢ None → IsNth (spawn_count edits) a
nth [] a h = absurd (h refl)
nth (Spawn class x y ∷ edits) a h = by (a == 2 * (spawn_count edits + 1)) refl h (λ k. nth edits a k)
  where
    by : (b : Bool) → (a == 2 * (spawn_count edits + 1)) ≡ b
        → (cond b (Some (record { class = class; x = x; y = y })) (spawn_of edits a) ≢ None)
        → (spawn_of edits a ≢ None → IsNth (spawn_count edits) a)
        → IsNth (spawn_count (Spawn class x y ∷ edits)) a
    by true e h ih = record {
      n = spawn_count edits + 1;
      is = eqb-true a (2 * (spawn_count edits + 1)) e;
      some = omega arith;
      most = omega (arith, count_more class x y edits);
    }
    by false e h ih = nth_more (spawn_count edits) _ a (omega (arith, count_more class x y edits)) (ih h)
nth (Destroy b ∷ edits) a h = nth_more _ _ a (omega (arith, count_other (Destroy b) edits refl)) (nth edits a h)
nth (Set b k v ∷ edits) a h = nth_more _ _ a (omega (arith, count_other (Set b k v) edits refl)) (nth edits a h)
nth (Own b p ∷ edits) a h = nth_more _ _ a (omega (arith, count_other (Own b p) edits refl)) (nth edits a h)
nth (View p x y ∷ edits) a h = nth_more _ _ a (omega (arith, count_other (View p x y) edits refl)) (nth edits a h)
nth (Add b p on ∷ edits) a h = nth_more _ _ a (omega (arith, count_other (Add b p on) edits refl)) (nth edits a h)
nth (Dormant b ∷ edits) a h = nth_more _ _ a (omega (arith, count_other (Dormant b) edits refl)) (nth edits a h)
nth (Wake b ∷ edits) a h = nth_more _ _ a (omega (arith, count_other (Wake b) edits refl)) (nth edits a h)
nth (Flush b ∷ edits) a h = nth_more _ _ a (omega (arith, count_other (Flush b) edits refl)) (nth edits a h)
nth (Switch b k on ∷ edits) a h = nth_more _ _ a (omega (arith, count_other (Switch b k on) edits refl)) (nth edits a h)
nth (Team p t ∷ edits) a h = nth_more _ _ a (omega (arith, count_other (Team p t) edits refl)) (nth edits a h)
nth (Give b t ∷ edits) a h = nth_more _ _ a (omega (arith, count_other (Give b t) edits refl)) (nth edits a h)

in_range : (k count n : ℕ) → k ≤ n → n < k + count → is_among (2 * n) (map (λ n. 2 * n) (range_with_len k count)) ≡ true
in_range k zero n lo hi = absurd (omega (arith, lo, hi))
in_range k (suc count) n lo hi = elim (cases_Bool (k == n)) [
  | inl e ↦ among_here (2 * k) _ (2 * n) (ap (λ m. 2 * m) (eqb-true k n e))
  | inr e ↦ among_there (2 * k) _ (2 * n)
      (in_range (k + 1) count n (above k n e lo) (omega (arith, hi)))
]
  where
    above : (k n : ℕ) → (k == n) ≡ false → k ≤ n → k + 1 ≤ n
    above k n e lo = grind (arith, nat_tests)

pub spawned_among : (edits : Edits) (a : ℕ) → spawn_of edits a ≢ None → is_among a (actors_of edits) ≡ true
spawned_among edits a h =
    let n = nth edits a h in
    subst (λ (b : ℕ). is_among b (actors_of edits) ≡ true) (sym n.is)
    (in_range 1 (spawn_count edits) n.n n.some (omega (arith, n.most)))

-- ---- sums over some of them

sum_picked : (f : ℕ → ℕ) (x : ℕ) (ns : List ℕ) (b : Bool)
    → sum_by f (cond b (x ∷ ns) ns) ≡ cond b (f x) 0 + sum_by f ns
sum_picked f x ns true = sum_by-cons f x ns
sum_picked f x ns false = omega arith

less_picked : (v m n : ℕ) (b c : Bool) → (b ≡ true → c ≡ true) → m ≤ n → cond b v 0 + m ≤ cond c v 0 + n
less_picked v m n true true h le = omega (arith, le)
less_picked v m n true false h le = absurd (false≢true (h refl))
less_picked v m n false true h le = omega (arith, le)
less_picked v m n false false h le = omega (arith, le)

sum_less : (f : ℕ → ℕ) (p q : ℕ → Bool) (ns : List ℕ) → ((n : ℕ) → p n ≡ true → q n ≡ true)
    → sum_by f (filter p ns) ≤ sum_by f (filter q ns)
sum_less f p q [] h = omega arith
sum_less f p q (n ∷ ns) h =
    let a = sum_picked f n (filter p ns) (p n) in
    let b = sum_picked f n (filter q ns) (q n) in
    let c = less_picked (f n) (sum_by f (filter p ns)) (sum_by f (filter q ns)) (p n) (q n) (h n)
    (sum_less f p q ns h) in
    omega (arith, a, b, c)

-- the cells of fewer actors are fewer
pub cells_less : (table : Table) (edits : Edits) (p q : ℕ → Bool) → ((a : ℕ) → p a ≡ true → q a ≡ true)
    → cells table edits p ≤ cells table edits q
cells_less table edits p q h = sum_less (cells_of table edits) p q (actors_of edits) h

sum_same : (f : ℕ → ℕ) (p : ℕ → Bool) (b low : ℕ) (ns : List ℕ) → b ≤ low → Ascends low ns
    → sum_by f (filter (λ n. b == n || p n) ns) ≡ sum_by f (filter p ns)
sum_same f p b low [] le h = refl
sum_same f p b low (n ∷ ns) le h =
    let q : (b == n) ≡ false = ne_eqb b n (λ e. absurd (omega (arith, e, h.0, le))) in
    let ih = sum_same f p b n ns (omega (arith, le, h.0)) h.1 in
    let x = sum_picked f n (filter (λ n. b == n || p n) ns) (b == n || p n) in
    let y = sum_picked f n (filter p ns) (p n) in
    x ∙ rw q (omega (arith, ih, y))

sum_one : (f : ℕ → ℕ) (p : ℕ → Bool) (b low : ℕ) (ns : List ℕ) → Ascends low ns → is_among b ns ≡ true → p b ≡ false
    → sum_by f (filter (λ n. b == n || p n) ns) ≡ f b + sum_by f (filter p ns)
sum_one f p b low [] h e q = absurd (false≢true e)
sum_one f p b low (n ∷ ns) h e q = by (n == b) refl e (λ k. sum_one f p b n ns h.1 k q)
  where
    by : (t : Bool) → (n == b) ≡ t → (t || is_among b ns) ≡ true
        → (is_among b ns ≡ true
        → sum_by f (filter (λ n. b == n || p n) ns) ≡ f b + sum_by f (filter p ns))
        → sum_by f (filter (λ n. b == n || p n) (n ∷ ns)) ≡ f b + sum_by f (filter p (n ∷ ns))
    by true r e ih =
        let is : n ≡ b = eqb-true n b r in
        let here : (b == n) ≡ true = eq-eqb b n (sym is) in
        let out : p n ≡ false = ap p is ∙ q in
        let rest = sum_same f p b n ns (omega (arith, is)) h.1 in
        let x = sum_by-cons f n (filter (λ n. b == n || p n) ns) in
        let y = ap f is in
        rw (here, out) (omega (arith, x, y, rest))
    by false r e ih =
        let ne : (b == n) ≡ false = ne_eqb b n (λ m. false≢true (sym r ∙ eq-eqb n b (sym m))) in
        let ih = ih e in
        let x = sum_picked f n (filter (λ n. b == n || p n) ns) (b == n || p n) in
        let y = sum_picked f n (filter p ns) (p n) in
        x ∙ rw ne (omega (arith, ih, y))

-- the cells of one more actor that was spawned
pub cells_more : (table : Table) (edits : Edits) (p : ℕ → Bool) (b : ℕ) → spawn_of edits b ≢ None → p b ≡ false
    → cells table edits (λ a. b == a || p a) ≡ cells_of table edits b + cells table edits p
cells_more table edits p b there out =
    sum_one (cells_of table edits) p b 0 (actors_of edits) (actors_ascend edits) (spawned_among edits b there) out

-- ---- who is relevant is listed

few_listed : (p q : ℕ → Bool) (ns : List ℕ) → ((n : ℕ) → p n ≡ true → q n ≡ true)
    → length (filter p ns) ≤ count_by q ns
few_listed p q [] h = omega arith
few_listed p q (n ∷ ns) h =
    let c = sum_by-cons (λ (n : ℕ). cond (q n) 1 0) n ns in
    let ih = few_listed p q ns h in
    by (p n) (q n) (h n) c ih
  where
    by : (b t : Bool) → (b ≡ true → t ≡ true)
        → count_by q (n ∷ ns) ≡ cond t 1 0 + count_by q ns
        → length (filter p ns) ≤ count_by q ns
        → length (cond b (n ∷ filter p ns) (filter p ns)) ≤ count_by q (n ∷ ns)
    by true true h c ih = omega (arith, c, ih)
    by true false h c ih = absurd (false≢true (h refl))
    by false true h c ih = omega (arith, c, ih)
    by false false h c ih = omega (arith, c, ih)

-- no more actors are relevant to a player than are listed
pub relevant_few : (table : Table) (edits : Edits) (player : ℕ)
    → ((a : ℕ) → is_relevant table edits player a ≡ true → is_listed table edits player a ≡ true)
    → length (filter (is_relevant table edits player) (actors_of edits)) ≤ listed_count table edits player
relevant_few table edits player h =
    few_listed (is_relevant table edits player) (is_listed table edits player) (actors_of edits) h

-- Putting values in the places of their handles.
use Rattle.std.proofs.Common.{◌≡◌, ℕ, zero, suc, ◌+◌, ◌<◌, ◌≤◌, ◌==◌, List, [], ◌∷◌, map, length, drop, Bool, true, false, cond, Some, unwrap_or, refl, sym, ap, ◌∙◌, arith}
use Rattle.std.specs.Prelude.{slice_set, slice_index_or}
use Rattle.std.proofs.lemmas.Bool.Decides.{nat_tests}
use Rattle.value_codec.specs.declared.pair.Pair.{Pair}
use Rattle.actor_copies.specs.Kept.{IsNumbered, value_in, set_one, set_all}

apart_up : (a b : ℕ) → a < b → (a == b) ≡ false
apart_up a b h = grind (arith, nat_tests)

apart_down : (a b : ℕ) → b < a → (a == b) ≡ false
apart_down a b h = grind (arith, nat_tests)

same_is : (a b : ℕ) → a ≡ b → (a == b) ≡ true
same_is a b h = grind (arith, nat_tests)

joined : (a b : Pair) (xs ys : List Pair) → a ≡ b → xs ≡ ys → a ∷ xs ≡ b ∷ ys
joined a b xs ys e f = cc

other : (p q : Pair) → (p.prop == q.prop) ≡ false → set_one p q ≡ q
other p q e = rw e refl

-- a handle before all of these changes none
pub set_below : (h : ℕ) (values : List Pair) (p : Pair) → IsNumbered h values → p.prop < h
    → map (set_one p) values ≡ values
set_below h [] p n l = refl
set_below h (q ∷ values) p n l = let is = n.0 in
    joined (set_one p q) q (map (set_one p) values) values
    (other p q (apart_up p.prop q.prop (omega (arith, is, l)))) (set_below (h + 1) values p n.1 (omega (arith, l)))

-- and so does one behind them
pub set_beyond : (h : ℕ) (values : List Pair) (p : Pair) → IsNumbered h values → h + length values ≤ p.prop
    → map (set_one p) values ≡ values
set_beyond h [] p n l = refl
set_beyond h (q ∷ values) p n l = let is = n.0 in
    joined (set_one p q) q (map (set_one p) values) values
    (other p q (apart_down p.prop q.prop (omega (arith, is, l)))) (set_beyond (h + 1) values p n.1 (omega (arith, l)))

-- one among them is put in its place
pub set_here : (h : ℕ) (values : List Pair) (p : Pair) (i : ℕ) (d : Pair) → IsNumbered h values → p.prop ≡ h + i
    → i < length values
    → slice_set values i (record { prop = (slice_index_or values i d).prop; value = p.value }) ≡ map
    (set_one p) values
set_here h [] p i d n e l = absurd (omega (arith, l))
set_here h (q ∷ values) p zero d n e l =
    let is = n.0 in
    joined (record { prop = q.prop; value = p.value }) (set_one p q) values (map (set_one p) values)
    (rw (same_is p.prop q.prop (omega (arith, is, e))) refl)
    (sym (set_below (h + 1) values p n.1 (omega (arith, e))))
set_here h (q ∷ values) p (suc i) d n e l =
    let is = n.0 in
    joined q (set_one p q) _ (map (set_one p) values)
    (sym (other p q (apart_down p.prop q.prop (omega (arith, is, e)))))
    (set_here (h + 1) values p i d n.1 (omega (arith, e)) (omega (arith, l)))

pub set_numbered : (h : ℕ) (values : List Pair) (f : Pair → Pair) → ((q : Pair) → (f q).prop ≡ q.prop)
    → IsNumbered h values → IsNumbered h (map f values)
set_numbered h [] f same n = tt
set_numbered h (q ∷ values) f same n = (same q ∙ n.0, set_numbered (h + 1) values f same n.1)

pub one_keeps : (p q : Pair) → (set_one p q).prop ≡ q.prop
one_keeps p q = by (p.prop == q.prop)
  where
    by : (b : Bool) → (cond b (record { prop = q.prop; value = p.value }) q).prop ≡ q.prop
    by true = refl
    by false = refl

-- one more before the others
one_more : (p : Pair) (pairs : List Pair) (q : Pair) → set_one p (set_all pairs q) ≡ set_all (p ∷ pairs) q
one_more p pairs q = by (p.prop == q.prop)
  where
    by : (b : Bool) → ◌≡◌ {A = Pair} (cond b (record { prop = q.prop; value = p.value }) (set_all pairs q))
        (record { prop = q.prop; value = unwrap_or (cond b (Some p.value) (value_in pairs q.prop)) q.value })
    by true = refl
    by false = refl

pub set_more : (p : Pair) (pairs values : List Pair)
    → map (set_one p) (map (set_all pairs) values) ≡ map (set_all (p ∷ pairs)) values
set_more p pairs [] = refl
set_more p pairs (q ∷ values) = joined _ _ _ _ (one_more p pairs q) (set_more p pairs values)

pub set_none : (values : List Pair) → map (set_all []) values ≡ values
set_none [] = refl
set_none (q ∷ values) = ap (λ (l : List Pair). q ∷ l) (set_none values)

-- what has been put by now
pub record SetSoFar (values now pairs : List Pair) (rest : ℕ) : Type 0 where
  pub set : now ≡ map (set_all (drop rest pairs)) values
  pub numbered : IsNumbered 1 now
  pub within : rest ≤ length pairs

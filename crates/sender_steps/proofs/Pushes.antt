-- An actor noted behind others.
use Rattle.std.proofs.Common.{◌≡◌, ℕ, List, [], ◌∷◌, ◌++◌, Bool, true, false, ◌==◌, ◌||◌, ap, refl}
use Rattle.std.proofs.lemmas.Bool.{eq-eqb, false≢true}
use Rattle.protocol_model.specs.Search.{is_among}

pub pushed_itself : (ns : List ℕ) (a : ℕ) → is_among a (ns ++ a ∷ []) ≡ true
pushed_itself [] a = ap (λ (b : Bool). b || false) (eq-eqb a a refl)
pushed_itself (n ∷ ns) a = by (n == a) (pushed_itself ns a)
  where
    by : (b : Bool) → is_among a (ns ++ a ∷ []) ≡ true → (b || is_among a (ns ++ a ∷ [])) ≡ true
    by true e = refl
    by false e = e

pub pushed_others : (ns : List ℕ) (a b : ℕ) → is_among b ns ≡ true → is_among b (ns ++ a ∷ []) ≡ true
pushed_others [] a b e = absurd (false≢true e)
pushed_others (n ∷ ns) a b e = by (n == b) e (pushed_others ns a b)
  where
    by : (x : Bool) → (x || is_among b ns) ≡ true → (is_among b ns ≡ true → is_among b (ns ++ a ∷ []) ≡ true)
        → (x || is_among b (ns ++ a ∷ [])) ≡ true
    by true e more = refl
    by false e more = more e

-- Handles of a sight that pass a test, looked at one by one.
use Rattle.std.proofs.Common.{◌≡◌, ℕ, zero, suc, ◌+◌, ◌≤◌, List, [], ◌∷◌, ◌++◌, map, take, length, Bool, true, false, cond, ◌&&◌, not, refl, sym, ap, ◌∙◌, arith, Option, Some, None}
use Rattle.std.specs.List.{slice_get, list_all, filter}
use Rattle.std.proofs.lemmas.Bool.{cases_Bool, false≢true}

module _ {X Y : Type 0} (p u : Y → Bool) (f : X → Y) where
  all_cons : (y : Y) (b : Bool) (ys : List Y) → list_all p (cond b (y ∷ ys) ys) ≡
      (not (b && not (p y)) && list_all p ys)
  all_cons y true ys = by (p y)
    where
      by : (c : Bool) → (c && list_all p ys) ≡ (not (not c) && list_all p ys)
      by true = refl
      by false = refl
  all_cons y false ys = refl

  -- one that passes the first test and fails the second fails all
  pub fails_at : (xs : List X) (i : ℕ) (x : X) → slice_get xs i ≡ Some x → (u (f x) && not (p (f x))) ≡ true
      → list_all p (filter u (map f xs)) ≡ false
  fails_at [] i x e h = absurd (let no : None ≡ Some x = e in cc)
  fails_at (y ∷ xs) zero x e h =
      let same : y ≡ x = cc in
      all_cons (f y) (u (f y)) (filter u (map f xs))
      ∙ ap (λ (b : Bool). not b && list_all p (filter u (map f xs))) (ap (λ (z : X). u (f z) && not (p (f z))) same ∙ h)
  fails_at (y ∷ xs) (suc i) x e h =
      all_cons (f y) (u (f y)) (filter u (map f xs))
      ∙ ap (λ (b : Bool). not (u (f y) && not (p (f y))) && b) (fails_at xs i x e h)
      ∙ none (not (u (f y) && not (p (f y))))
    where
      none : (b : Bool) → (b && false) ≡ false
      none true = refl
      none false = refl

  -- one more that doesn't
  pub passes_more : (xs : List X) (i : ℕ) (x : X) → slice_get xs i ≡ Some x → (u (f x) && not (p (f x))) ≡ false
      → list_all p (filter u (map f (take i xs))) ≡ true
      → list_all p (filter u (map f (take (i + 1) xs))) ≡ true
  passes_more [] i x e h all = absurd (let no : None ≡ Some x = e in cc)
  passes_more (y ∷ xs) zero x e h all =
      let same : y ≡ x = cc in
      all_cons (f y) (u (f y)) []
      ∙ ap (λ (b : Bool). not b && true) (ap (λ (z : X). u (f z) && not (p (f z))) same ∙ h)
  passes_more (y ∷ xs) (suc i) x e h all =
      let s : suc i + 1 ≡ suc (i + 1) = omega arith in
      let q = parts (not (u (f y) && not (p (f y)))) (list_all p (filter u (map f (take i xs))))
      (sym (all_cons (f y) (u (f y)) (filter u (map f (take i xs)))) ∙ all) in
      rw s (all_cons (f y) (u (f y)) (filter u (map f (take (i + 1) xs)))
      ∙ ap (λ (b : Bool). b && list_all p (filter u (map f (take (i + 1) xs)))) q.0 ∙ passes_more xs i x e h q.1)
    where
      parts : (a b : Bool) → (a && b) ≡ true → (a ≡ true) × (b ≡ true)
      parts true b e = (refl, e)
      parts false b e = absurd (false≢true e)

pub take_whole : {X : Type 0} (xs : List X) (n : ℕ) → length xs ≤ n → take n xs ≡ xs
take_whole [] zero le = refl
take_whole [] (suc n) le = refl
take_whole (x ∷ xs) zero le = absurd (omega arith)
take_whole (x ∷ xs) (suc n) le = ap (λ zs. x ∷ zs) (take_whole xs n (omega arith))

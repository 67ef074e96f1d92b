-- Elements of lists by their places.
use Rattle.std.proofs.Common.{◌≡◌, ◌≢◌, ℕ, zero, suc, ◌+◌, ◌<◌, List, [], ◌∷◌, ◌++◌, length, Some, refl, ap, ◌∙◌, arith}
use Rattle.std.specs.Prelude.{slice_get, slice_set, IsSome}

pub slice_get-set_same : {A : Type 0} (xs : List A) (i : ℕ) (v : A) → i < length xs
    → slice_get (slice_set xs i v) i ≡ Some v
slice_get-set_same [] i v h = absurd (omega arith)
slice_get-set_same (x ∷ xs) zero v h = refl
slice_get-set_same (x ∷ xs) (suc i) v h = slice_get-set_same xs i v (omega arith)

pub slice_get-set_other : {A : Type 0} (xs : List A) (i j : ℕ) (v : A) → j ≢ i
    → slice_get (slice_set xs i v) j ≡ slice_get xs j
slice_get-set_other [] i j v h = refl
slice_get-set_other (x ∷ xs) zero zero v h = absurd (h refl)
slice_get-set_other (x ∷ xs) zero (suc j) v h = refl
slice_get-set_other (x ∷ xs) (suc i) zero v h = refl
slice_get-set_other (x ∷ xs) (suc i) (suc j) v h = slice_get-set_other xs i j v (λ e. h (ap (λ n. suc n) e))

pub slice_get-append_left : {A : Type 0} (xs ys : List A) (k : ℕ) → k < length xs
    → slice_get (xs ++ ys) k ≡ slice_get xs k
slice_get-append_left [] ys k h = absurd (omega arith)
slice_get-append_left (x ∷ xs) ys zero h = refl
slice_get-append_left (x ∷ xs) ys (suc k) h = slice_get-append_left xs ys k (omega arith)

pub slice_get-append_right : {A : Type 0} (xs ys : List A) (k : ℕ)
    → slice_get (xs ++ ys) (length xs + k) ≡ slice_get ys k
slice_get-append_right [] ys k = let e : 0 + k ≡ k = omega arith in ap (slice_get ys) e
slice_get-append_right (x ∷ xs) ys k =
    let e : suc (length xs) + k ≡ suc (length xs + k) = omega arith in
    ap (slice_get (x ∷ xs ++ ys)) e ∙ slice_get-append_right xs ys k

pub some_within : {A : Type 0} (xs : List A) (n : ℕ) → IsSome (slice_get xs n) → n < length xs
some_within [] n h = absurd (cc)
some_within (x ∷ xs) zero h = omega arith
some_within (x ∷ xs) (suc n) h = let lt = some_within xs n h in omega arith

pub slice_get-append_end : {A : Type 0} (xs : List A) (y : A) → slice_get (xs ++ y ∷ []) (length xs) ≡ Some y
slice_get-append_end [] y = refl
slice_get-append_end (x ∷ xs) y = slice_get-append_end xs y

pub slice_get-append_other : {A : Type 0} (xs : List A) (y : A) (k : ℕ) → k ≢ length xs
    → slice_get (xs ++ y ∷ []) k ≡ slice_get xs k
slice_get-append_other [] y zero h = absurd (h refl)
slice_get-append_other [] y (suc k) h = refl
slice_get-append_other (x ∷ xs) y zero h = refl
slice_get-append_other (x ∷ xs) y (suc k) h = slice_get-append_other xs y k (λ e. h (ap (λ n. suc n) e))

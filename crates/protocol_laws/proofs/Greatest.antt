-- The greatest of a list, and what is among it.
use Rattle.std.proofs.Common.{◌≡◌, ℕ, ◌<◌, max, List, [], ◌∷◌, ◌++◌, Bool, false, ◌||◌, ◌==◌, refl, arith}
use Rattle.std.specs.List.{fold}
use Rattle.std.proofs.lemmas.Bool.Decides.{nat_tests}
use Rattle.protocol_model.specs.Search.{greatest_of, is_among}

-- the greatest of a list and of one more number
pub fold_max : (a : ℕ) (ns : List ℕ) → fold max a ns ≡ max a (fold max 0 ns)
fold_max a [] = omega arith
fold_max a (n ∷ ns) = omega (arith, fold_max (max a n) ns, fold_max (max 0 n) ns)

pub greatest_of-cons : (n : ℕ) (ns : List ℕ) → greatest_of (n ∷ ns) ≡ max n (greatest_of ns)
greatest_of-cons n ns = omega (arith, fold_max (max 0 n) ns)

pub greatest_of-append : (ns ms : List ℕ) → greatest_of (ns ++ ms) ≡ max (greatest_of ns) (greatest_of ms)
greatest_of-append [] ms = omega arith
greatest_of-append (n ∷ ns) ms =
    omega (arith, greatest_of-cons n (ns ++ ms), greatest_of-cons n ns, greatest_of-append ns ms)

other_step : (n k : ℕ) (b : Bool) → n < k → b ≡ false → ((n == k) || b) ≡ false
other_step n k b h e = grind (arith, nat_tests)

-- a number above the greatest isn't among them
pub among_above : (k : ℕ) (ns : List ℕ) → greatest_of ns < k → is_among k ns ≡ false
among_above k [] h = refl
among_above k (n ∷ ns) h =
    let e = greatest_of-cons n ns in
    other_step n k (is_among k ns) (omega (arith, e)) (among_above k ns (omega (arith, e)))

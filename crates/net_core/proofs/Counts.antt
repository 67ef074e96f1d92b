-- Numbers that are not among those of the calls that are to fail.
use Rattle.std.proofs.Common.{◌≡◌, ℕ, ◌<◌, List, [], ◌∷◌, Bool, false, ◌||◌, get_or, suc, nat_eq, refl, arith}
use Rattle.std.specs.List.{list_any}
use Rattle.std.proofs.lemmas.Bool.Decides.{nat_tests}

not_first : (n m : ℕ) (t : Bool) → m < n → t ≡ false → (nat_eq m n || t) ≡ false
not_first n m t h e = grind (arith, nat_tests)

-- a number above each of a list is none of them
pub none_beyond : (n : ℕ) (ns : List ℕ) → ((i : ℕ) → get_or ns i 0 < n) → list_any (λ m. nat_eq m n) ns ≡ false
none_beyond n [] h = refl
none_beyond n (m ∷ ns) h = not_first n m (list_any (λ k. nat_eq k n) ns) (h 0) (none_beyond n ns (λ i. h (suc i)))

-- Tests of numbers, and what they say.
use Rattle.std.proofs.Common.{◌≡◌, ◌≢◌, ℕ, true, false, ◌==◌, arith}
use Rattle.std.proofs.lemmas.Bool.Decides.{nat_tests}

pub same : (a : ℕ) → (a == a) ≡ true
same a = grind (arith, nat_tests)

pub other : (a b : ℕ) → b ≢ a → (b == a) ≡ false
other a b h = grind (arith, nat_tests)

pub same_number : (a b : ℕ) → (a == b) ≡ true → a ≡ b
same_number a b h = grind (arith, nat_tests)

pub other_number : (a b : ℕ) → (a == b) ≡ false → a ≢ b
other_number a b h = grind (arith, nat_tests)

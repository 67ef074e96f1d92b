-- The groups of a packed number.
use Rattle.std.proofs.Common.{◌≡◌, ℕ, suc, ◌<◌, ◌≤◌, ◌+◌, ◌*◌, ◌/◌, ◌%◌, ◌==◌, ◌∷◌, ◌++◌, true, false, nat_lt, refl, ◌∙◌, arith}
use Rattle.std.proofs.lemmas.Bool.Decides.{nat_tests}
use Rattle.protocol_model.specs.Bits.{digits, packed_in}
use Rattle.protocol_laws.proofs.Digits.{digits-mod}

odd : (d : ℕ) → ((2 * d + 1) % 2 == 1) ≡ true
odd d = grind (arith, nat_tests)

even : (d : ℕ) → (2 * d % 2 == 1) ≡ false
even d = grind (arith, nat_tests)

odd_half : (d : ℕ) → (2 * d + 1) / 2 ≡ d
odd_half d = omega arith

even_half : (d : ℕ) → 2 * d / 2 ≡ d
even_half d = omega arith

digits-eight : (n : ℕ) → digits 8 n ≡ (n % 2 == 1) ∷ digits 7 (n / 2)
unfolding digits
digits-eight n = refl

-- a group that others follow, and the last one
pub digits-more : (d : ℕ) → digits 8 (2 * d + 1) ≡ true ∷ digits 7 d
digits-more d = digits-eight (2 * d + 1) ∙ rw (odd d, odd_half d) refl

pub digits-last : (d : ℕ) → digits 8 (2 * d) ≡ false ∷ digits 7 d
digits-last d = digits-eight (2 * d) ∙ rw (even d, even_half d) refl

large : (v : ℕ) → 128 ≤ v → nat_lt v 128 ≡ false
large v h = grind (arith, nat_tests)

small : (v : ℕ) → v < 128 → nat_lt v 128 ≡ true
small v h = grind (arith, nat_tests)

pub packed_in-more : (groups v : ℕ) → 128 ≤ v → packed_in (suc groups) v ≡ digits 8 (2 * (v % 128) + 1) ++ packed_in groups (v / 128)
unfolding packed_in
packed_in-more groups v h = rw (large v h, digits-more (v % 128), digits-mod 7 v) refl

pub packed_in-last : (groups v : ℕ) → v < 128 → packed_in (suc groups) v ≡ digits 8 (2 * v)
unfolding packed_in
packed_in-last groups v h = rw (small v h, digits-last v) refl

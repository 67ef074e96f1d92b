-- How many bits each spelling of a number has.
use Rattle.std.proofs.Common.{◌≡◌, ℕ, ℤ, zero, suc, pos, negsuc, ◌≤◌, ◌*◌, ◌/◌, List, [], ◌∷◌, ◌++◌, Bool, true, false, not, cond, nat_lt, length, refl, ◌∙◌, arith, length-append}
use Rattle.std.proofs.lemmas.List.{length-map}
use Rattle.protocol_model.specs.Bits.{digits, bits_of, packed_in, packed_bits, signed_bits}
use Rattle.protocol_laws.proofs.Digits.{length-digits}

-- a byte has eight bits
pub length-bits_of : (bytes : List ℕ) → length (bits_of bytes) ≡ 8 * length bytes
length-bits_of [] = refl
length-bits_of (b ∷ bytes) = omega (arith, length-append (digits 8 b) (bits_of bytes), length-digits 8 b, length-bits_of bytes)

-- two's complement has as many bits as it is wide
pub length-signed : (width : ℕ) (z : ℤ) → length (signed_bits width z) ≡ width
length-signed width (pos n) = length-digits width n
length-signed width (negsuc n) = length-map (digits width n) not ∙ length-digits width n

-- a group of a packed number has eight bits
pub length-packed_in : (groups v : ℕ) → length (packed_in groups v) ≤ 8 * groups
unfolding packed_in
length-packed_in zero v = omega arith
length-packed_in (suc groups) v = by_test (nat_lt v 128) (length-packed_in groups (v / 128))
  where
    by_test : (b : Bool) → length (packed_in groups (v / 128)) ≤ 8 * groups
        → length (cond b (false ∷ digits 7 v) (true ∷ (digits 7 v ++ packed_in groups (v / 128)))) ≤ 8 * suc groups
    by_test true h = omega (arith, length-digits 7 v)
    by_test false h = omega (arith, h, length-digits 7 v, length-append (digits 7 v) (packed_in groups (v / 128)))

-- a packed number has at most 40 bits
pub length-packed : (v : ℕ) → length (packed_bits v) ≤ 40
length-packed v = length-packed_in 5 v

-- these lengths, for a function's `using(..)`
pub ruleset lengths = (length-digits, length-signed)

-- Reading a number of a fixed width.
use Rattle.std.proofs.Common.{◌≡◌, ℕ, zero, suc, ◌<◌, ◌≤◌, ◌+◌, ◌*◌, ◌/◌, ◌%◌, ◌^◌, ◌==◌, List, [], ◌∷◌, ◌++◌, Bool, true, false, cond, nat_lt, min, Option, Some, None, refl, sym, ap, ◌∙◌, arith, length, take, drop, length-append}
use Rattle.std.proofs.lemmas.Bool.Decides.{nat_tests}
use Rattle.std.proofs.lemmas.List.{take_at, drop_at, length-take-le, take-append-drop}
use Rattle.std.proofs.Math.Nat.{mod-eq_of_lt, pow-suc}
use Rattle.protocol_model.specs.Bits.{digits, number_of}
use Rattle.protocol_model.specs.Numbers.{leading_bits, leading_fixed}
use Rattle.protocol_laws.proofs.Digits.{length-digits, take-digits, drop-digits, mod_parts}

low_digit : (n : ℕ) → cond (n % 2 == 1) 1 0 ≡ n % 2
low_digit n = grind (arith, nat_tests)

pub number_of-digits : (w n : ℕ) → number_of (digits w n) ≡ n % 2 ^ w
unfolding digits
number_of-digits zero n = omega arith
number_of-digits (suc w) n = omega (arith, low_digit n, number_of-digits w (n / 2), mod_parts n w)

parity : (b : Bool) (m : ℕ) → ((cond b 1 0 + 2 * m) % 2 == 1) ≡ b
parity true m = grind (arith, nat_tests)
parity false m = grind (arith, nat_tests)

half : (b : Bool) (m : ℕ) → (cond b 1 0 + 2 * m) / 2 ≡ m
half true m = omega arith
half false m = omega arith

-- bits are the digits of their number
pub digits-number_of : (bits : List Bool) → digits (length bits) (number_of bits) ≡ bits
unfolding digits
digits-number_of [] = refl
digits-number_of (b ∷ bits) = rw (parity b (number_of bits), half b (number_of bits), digits-number_of bits) refl

-- bits make a number below 2 ^ their count
pub number_of_below : (bits : List Bool) → number_of bits < 2 ^ length bits
number_of_below [] = omega arith
number_of_below (true ∷ bits) = omega (arith, number_of_below bits, pow-suc 2 (length bits))
number_of_below (false ∷ bits) = omega (arith, number_of_below bits, pow-suc 2 (length bits))

pub long_enough : (m w : ℕ) → w ≤ m → nat_lt m w ≡ false
long_enough m w h = grind (arith, nat_tests)

pub too_short : (m w : ℕ) → m < w → nat_lt m w ≡ true
too_short m w h = grind (arith, nat_tests)

-- so many bits are lent from the front of those that are left
pub leading_bits-append : (bits rest : List Bool) → leading_bits (length bits) (bits ++ rest) ≡ Some (bits, rest)
leading_bits-append bits rest =
    let long : nat_lt (length (bits ++ rest)) (length bits) ≡ false = long_enough _ _ (omega (arith, length-append bits rest)) in
    rw (long, take_at bits rest (length bits) refl, drop_at bits rest (length bits) refl) refl

pub leading_bits-short : (w : ℕ) (bits : List Bool) → length bits < w → leading_bits w bits ≡ None
leading_bits-short w bits h = rw (too_short (length bits) w h) refl

-- a number that was spelled is read, whatever follows it
pub leading_fixed-append : (w v : ℕ) (rest : List Bool) → v < 2 ^ w → leading_fixed w (digits w v ++ rest) ≡ Some (v, rest)
leading_fixed-append w v rest h =
    let len : length (digits w v ++ rest) ≡ w + length rest = length-append (digits w v) rest ∙ ap (λ m. m + length rest) (length-digits w v) in
    let long : nat_lt (length (digits w v ++ rest)) w ≡ false = long_enough _ w (omega (arith, len)) in
    let value : number_of (digits w v) ≡ v = number_of-digits w v ∙ mod-eq_of_lt h in
    rw (long, take_at (digits w v) rest w (length-digits w v), drop_at (digits w v) rest w (length-digits w v), value) refl

pub leading_fixed-short : (w : ℕ) (bits : List Bool) → length bits < w → leading_fixed w bits ≡ None
leading_fixed-short w bits h = rw (too_short (length bits) w h) refl

-- of digits, the lowest ones are read
pub leading_fixed-digits : (w k n : ℕ) → leading_fixed w (digits (w + k) n) ≡ Some (n % 2 ^ w, digits k (n / 2 ^ w))
leading_fixed-digits w k n =
    let long : nat_lt (length (digits (w + k) n)) w ≡ false = long_enough _ w (omega (arith, length-digits (w + k) n)) in
    rw (long, take-digits w k n, drop-digits w k n, number_of-digits w n) refl

-- equal answers have equal parts
pub same_read : (v w : ℕ) (xs ys : List Bool) → ◌≡◌ {A = Option (ℕ × List Bool)} (Some (v, xs)) (Some (w, ys)) → (v ≡ w) × (xs ≡ ys)
same_read v w xs ys h =
    let p : ℕ × List Bool = (v, xs) in
    let q : ℕ × List Bool = (w, ys) in
    let e : p ≡ q = same_some p q h in (ap (λ (r : ℕ × List Bool). r.0) e, ap (λ (r : ℕ × List Bool). r.1) e)
  where
    same_some : (p q : ℕ × List Bool) → Some p ≡ Some q → p ≡ q
    same_some p q h = cc

spelled_where : (b : Bool) (w v : ℕ) (bits rest : List Bool) → nat_lt (length bits) w ≡ b → leading_fixed w bits ≡ Some (v, rest) → (v < 2 ^ w) × (bits ≡ digits w v ++ rest)
spelled_where true w v bits rest t h = let e = rw t at h in cc
spelled_where false w v bits rest t h =
    let e = rw t at h in
    let enough : w ≤ length bits = grind (arith, nat_tests) in
    let len : length (take w bits) ≡ w = length-take-le w bits enough in
    let parts = same_read (number_of (take w bits)) v (drop w bits) rest e in
    let value : number_of (take w bits) ≡ v = parts.0 in
    let after : drop w bits ≡ rest = parts.1 in
    let below : number_of (take w bits) < 2 ^ length (take w bits) = number_of_below (take w bits) in
    let front : digits w (number_of (take w bits)) ≡ take w bits = ap (λ k. digits k (number_of (take w bits))) (sym len) ∙ digits-number_of (take w bits) in
    rw (← value, ← after) (
      rw len at below,
      sym (rw front (take-append-drop w bits)),
    )

-- only a number that was spelled is read
pub leading_fixed-spelled : (w v : ℕ) (bits rest : List Bool) → leading_fixed w bits ≡ Some (v, rest) → (v < 2 ^ w) × (bits ≡ digits w v ++ rest)
leading_fixed-spelled w v bits rest h = spelled_where (nat_lt (length bits) w) w v bits rest refl h

-- as many of the digits as there are
pub take-digits_min : (w k n : ℕ) → take w (digits k n) ≡ digits (min w k) n
unfolding digits
take-digits_min zero k n = let e : min 0 k ≡ 0 = omega arith in rw e refl
take-digits_min (suc w) zero n = let e : min (suc w) 0 ≡ 0 = omega arith in rw e refl
take-digits_min (suc w) (suc k) n = let e : min (suc w) (suc k) ≡ suc (min w k) = omega arith in rw (e, take-digits_min w k (n / 2)) refl

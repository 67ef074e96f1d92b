-- The width of a number below a bound, as the code finds it by counting leading zeros.
use Rattle.std.proofs.Common.{◌≡◌, ℕ, zero, suc, ◌<◌, ◌≤◌, ◌+◌, ◌-◌, ◌*◌, ◌%◌, ◌^◌, refl, sym, subst, arith}
use Rattle.std.proofs.lemmas.Nat.{leading_top, leading_length, one_shl}
use Rattle.std.specs.Int.Count.{count_leading_zeros, leading_of_zero}
use Rattle.protocol_model.specs.Bits.{int_width}
use Rattle.protocol_laws.proofs.Widths.{int_width-is, width_fewer, width_most}

pub above_zero : (a : ℕ) → (32 - count_leading_zeros 32 a ≡ 0 → ⊥) → 0 < a
above_zero zero h = absurd (h (rw (leading_of_zero 32) refl))
above_zero (suc a) h = omega arith

pub is_zero : (a : ℕ) → a < 2 ^ 32 → 32 - count_leading_zeros 32 a ≡ 0 → a ≡ 0
is_zero a small h =
    let t = leading_length 32 a small in
    let none : t.0 ≡ 0 = let s = t.1 in omega (arith, s, h) in
    let below : a < 2 ^ 0 = subst (λ (m : ℕ). a < 2 ^ m) none t.2 in
    omega (arith, below)

-- the width as the code finds it: one less than the greatest number has, where that is enough
pub width_fewer_is : (max n less low : ℕ) → 1 ≤ max → max < 2 ^ 32 → (32 - count_leading_zeros 32 (max - 1) ≡ 0 → ⊥) → less ≡ 32 - count_leading_zeros 32 (max - 1) - 1
    → low ≡ n % 2 ^ less → max ≤ low + 1 * 2 ^ less % 18446744073709551616 → less ≡ int_width max n
width_fewer_is max n less low one small some is l test =
    let t = leading_top 32 (max - 1) (above_zero (max - 1) some) (omega arith) in
    let most = t.1 in
    let e : t.0 ≡ less = omega (arith, most, is) in
    let step : 1 * 2 ^ less % 18446744073709551616 ≡ 2 ^ less = one_shl less 64 (omega (arith, most, is)) in
    let top : 2 ^ less ≤ max - 1 = subst (λ (m : ℕ). 2 ^ m ≤ max - 1) e t.2 in
    sym (int_width-is max n less (omega arith) (width_fewer max n less top (omega (arith, test, l, step))))

-- and as many as it has otherwise
pub width_most_is : (max n less low : ℕ) → 1 ≤ max → max < 2 ^ 32 → (32 - count_leading_zeros 32 (max - 1) ≡ 0 → ⊥) → less ≡ 32 - count_leading_zeros 32 (max - 1) - 1
    → low ≡ n % 2 ^ less → low + 1 * 2 ^ less % 18446744073709551616 < max → 32 - count_leading_zeros 32 (max - 1) ≡ int_width max n
width_most_is max n less low one small some is l test =
    let t = leading_top 32 (max - 1) (above_zero (max - 1) some) (omega arith) in
    let most = t.1 in
    let e : t.0 ≡ less = omega (arith, most, is) in
    let step : 1 * 2 ^ less % 18446744073709551616 ≡ 2 ^ less = one_shl less 64 (omega (arith, most, is)) in
    let top : 2 ^ less ≤ max - 1 = subst (λ (m : ℕ). 2 ^ m ≤ max - 1) e t.2 in
    let bound : max - 1 < 2 ^ suc less = subst (λ (m : ℕ). max - 1 < 2 ^ suc m) e t.3 in
    let width = int_width-is max n (suc less) (omega arith) (width_most max n less top bound (omega (arith, test, l, step))) in
    omega (arith, width, most, is)

-- Reading a number below a bound.
use Rattle.std.proofs.Common.{◌≡◌, ℕ, ◌<◌, ◌≤◌, ◌+◌, ◌-◌, ◌/◌, ◌%◌, ◌^◌, Some, None, min, sym, ap, ◌∙◌, arith, take}
use Rattle.protocol_model.specs.Bits.{digits, number_of, int_width}
use Rattle.protocol_model.specs.Numbers.{leading_fixed, leading_int}
use Rattle.protocol_laws.proofs.Digits.{length-digits, mod-mod-le}
use Rattle.protocol_laws.proofs.Reading.{leading_fixed-digits, leading_fixed-short, number_of-digits, take-digits_min}
use Rattle.protocol_laws.proofs.Widths.{int_width-least, int_width-is, int_width_bound, width_along, width_value_below}

ahead : (k n m : ℕ) → m ≡ min 32 k → number_of (take 32 (digits k n)) ≡ n % 2 ^ m
ahead k n m e = ap number_of (take-digits_min 32 k n) ∙ number_of-digits (min 32 k) n ∙ ap (λ j. n % 2 ^ j) (sym e)

pub int-digits_short : (max k n m : ℕ) → max ≤ 2 ^ 32 → m ≡ min 32 k → m < int_width max (n % 2 ^ m) → leading_int max (digits k n) ≡ None
int-digits_short max k n m h e s =
    let width = int_width max (n % 2 ^ m) in
    let bound : width ≤ 32 = int_width_bound max (n % 2 ^ m) h in
    ap (λ v. leading_fixed (int_width max v) (digits k n)) (ahead k n m e)
    ∙ leading_fixed-short width (digits k n) (omega (arith, length-digits k n))

pub int-digits : (max k n m : ℕ) → m ≡ min 32 k → int_width max (n % 2 ^ m) ≤ m
    → leading_int max (digits k n) ≡ Some (n % 2 ^ int_width max (n % 2 ^ m), digits (k - int_width max (n % 2 ^ m)) (n / 2 ^ int_width max (n % 2 ^ m)))
int-digits max k n m e w =
    let width = int_width max (n % 2 ^ m) in
    let s : k ≡ width + (k - width) = omega arith in
    ap (λ v. leading_fixed (int_width max v) (digits k n)) (ahead k n m e)
    ∙ ap (λ j. leading_fixed width (digits j n)) s
    ∙ leading_fixed-digits width (k - width) n

-- the number that was read has the width that was read
pub width_read : (max n m value : ℕ) → max ≤ 2 ^ 32 → int_width max (n % 2 ^ m) ≤ m → value ≡ n % 2 ^ m % 2 ^ int_width max (n % 2 ^ m) → int_width max (n % 2 ^ m) ≡ int_width max value
width_read max n m value h w e =
    let width = int_width max (n % 2 ^ m) in
    let same : n % 2 ^ m % 2 ^ width ≡ value % 2 ^ width = sym (mod-mod-le (n % 2 ^ m) width width (omega arith)) ∙ ap (λ v. v % 2 ^ width) (sym e) in
    sym (int_width-is max value width h (width_along max (n % 2 ^ m) value width (int_width-least max (n % 2 ^ m) h) same))

pub value_read : (max n m value : ℕ) → 1 ≤ max → max ≤ 2 ^ 32 → value ≡ n % 2 ^ m % 2 ^ int_width max (n % 2 ^ m) → value < max
value_read max n m value one h e = rw e (width_value_below max (n % 2 ^ m) (int_width max (n % 2 ^ m)) one (int_width-least max (n % 2 ^ m) h))

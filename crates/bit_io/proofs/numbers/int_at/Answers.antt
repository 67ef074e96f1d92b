use Rattle.std.proofs.Common.{◌≡◌, ◌<◌, ◌≤◌, ◌+◌, ◌-◌, ◌*◌, ◌/◌, ◌%◌, ◌^◌, ℕ, List, length, Some, None, min, refl, sym, ap, ◌∙◌, subst, arith}
use Rattle.std.proofs.lemmas.Nat.{shr-shr}
use Rattle.protocol_model.specs.Bits.{digits, int_width}
use Rattle.protocol_model.specs.Numbers.{leading_int}
use Rattle.protocol_laws.specs.Packed.{number_of_bytes}
use Rattle.bit_io.specs.Between.{bits_between}
use Rattle.protocol_laws.proofs.Digits.{IsBytes, mod-mod-le}
use Rattle.bit_io.proofs.Places.{between-is}
use Rattle.protocol_laws.proofs.IntReading.{int-digits, int-digits_short, width_read, value_read}
use Rattle.bit_io.proofs.numbers.int_at.Goals as goal

-- the width that was found is that of the bits ahead
width_ahead : (max ahead width n m : ℕ) → width ≡ int_width max ahead → ahead ≡ n % 2 ^ m → width ≡ int_width max (n % 2 ^ m)
width_ahead max ahead width n m w a = w ∙ ap (int_width max) a

none_ahead : (bytes : List ℕ) (max at to ahead width m : ℕ) → IsBytes bytes → at ≤ to → to ≤ 8 * length bytes → max ≤ 2 ^ 32 → m ≡ min 32 (to - at)
    → width ≡ int_width max ahead → ahead ≡ number_of_bytes bytes / 2 ^ at % 2 ^ m → m < width → leading_int max (bits_between bytes at to) ≡ None
none_ahead bytes max at to ahead width m h o t x e w a s =
    let n = number_of_bytes bytes / 2 ^ at in
    let same = width_ahead max ahead width n m w a in
    ap (leading_int max) (between-is bytes at to h o t) ∙ int-digits_short max (to - at) n m x e (subst (λ (j : ℕ). m < j) same s)

some_ahead : (bytes : List ℕ) (max at to ahead width m value : ℕ) → IsBytes bytes → at ≤ to → to ≤ 8 * length bytes → max ≤ 2 ^ 32 → m ≡ min 32 (to - at)
    → width ≡ int_width max ahead → ahead ≡ number_of_bytes bytes / 2 ^ at % 2 ^ m → width ≤ m → value ≡ ahead % 2 ^ width
    → leading_int max (bits_between bytes at to) ≡ Some (value, bits_between bytes (at + width) to)
some_ahead bytes max at to ahead width m value h o t x e w a s v =
    let n = number_of_bytes bytes / 2 ^ at in
    let same = width_ahead max ahead width n m w a in
    let is : n % 2 ^ width ≡ value = sym (mod-mod-le n width m s) ∙ ap (λ j. j % 2 ^ width) (sym a) ∙ sym v in
    let k : to - at - width ≡ to - (at + width) = omega arith in
    let rest : digits (to - at - width) (n / 2 ^ width) ≡ bits_between bytes (at + width) to =
    ap (λ j. digits j (n / 2 ^ width)) k ∙ ap (digits (to - (at + width))) (shr-shr (number_of_bytes bytes) at width) ∙ sym (between-is bytes (at + width) to h (omega arith) t) in
    let read : leading_int max (digits (to - at) n) ≡ Some (n % 2 ^ width, digits (to - at - width) (n / 2 ^ width)) =
    subst (λ (j : ℕ). leading_int max (digits (to - at) n) ≡ Some (n % 2 ^ j, digits (to - at - j) (n / 2 ^ j))) (sym same) (int-digits max (to - at) n m e (subst (λ (j : ℕ). j ≤ m) same s)) in
    ap (leading_int max) (between-is bytes at to h o t) ∙ read ∙ rw (is, rest) refl

pub returns-then-most-width-clause-exact : goal.returns-then-most-width-clause-exact
returns-then-most-width-clause-exact c =
    none_ahead c.args.bytes.now c.args.max c.args.at c.args.to c.bits_at-ahead.result c.width_of-width.result c.min-most.result
    (λ i. omega (arith, c.type_inv.bytes i)) c.requires.order c.requires.within (omega arith) (omega arith) c.width_of-width.ensures.width c.bits_at-ahead.ensures c.if-most-width.true

pub returns-clause-exact : goal.returns-clause-exact
returns-clause-exact c =
    some_ahead c.args.bytes.now c.args.max c.args.at c.args.to c.bits_at-ahead.result c.width_of-width.result c.min-most.result c.low_bits.result
    (λ i. omega (arith, c.type_inv.bytes i)) c.requires.order c.requires.within (omega arith) (omega arith) c.width_of-width.ensures.width c.bits_at-ahead.ensures c.if-most-width.false c.low_bits.ensures

-- the value, as the lowest bits of those ahead
value_is : (max ahead width n m value : ℕ) → width ≡ int_width max ahead → ahead ≡ n % 2 ^ m → value ≡ ahead % 2 ^ width → value ≡ n % 2 ^ m % 2 ^ int_width max (n % 2 ^ m)
value_is max ahead width n m value w a v = v ∙ ap (λ j. j % 2 ^ width) a ∙ ap (λ j. n % 2 ^ m % 2 ^ j) (width_ahead max ahead width n m w a)

pub returns-clause-below : goal.returns-clause-below
returns-clause-below c =
    let n = number_of_bytes c.args.bytes.now / 2 ^ c.args.at in
    let m = c.min-most.result in
    value_read c.args.max n m c.low_bits.result c.requires.max (omega arith)
    (value_is c.args.max c.bits_at-ahead.result c.width_of-width.result n m c.low_bits.result c.width_of-width.ensures.width c.bits_at-ahead.ensures c.low_bits.ensures)

pub returns-clause-width : goal.returns-clause-width
returns-clause-width c =
    let n = number_of_bytes c.args.bytes.now / 2 ^ c.args.at in
    let m = c.min-most.result in
    let w = width_ahead c.args.max c.bits_at-ahead.result c.width_of-width.result n m c.width_of-width.ensures.width c.bits_at-ahead.ensures in
    w ∙ width_read c.args.max n m c.low_bits.result (omega arith) (subst (λ (j : ℕ). j ≤ m) w c.if-most-width.false)
    (value_is c.args.max c.bits_at-ahead.result c.width_of-width.result n m c.low_bits.result c.width_of-width.ensures.width c.bits_at-ahead.ensures c.low_bits.ensures)

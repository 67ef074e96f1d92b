-- The bits between two places of bytes.
use Rattle.std.proofs.Common.{◌≡◌, ℕ, ◌<◌, ◌≤◌, ◌+◌, ◌-◌, ◌*◌, ◌/◌, ◌%◌, ◌^◌, ◌==◌, List, Bool, Some, None, Ok, refl, sym, ap, ◌∙◌, arith, length, take, drop, slice_get, length-append}
use Rattle.std.proofs.lemmas.List.{take-take, drop-drop, drop-take, length-take-le, length-drop}
use Rattle.std.proofs.lemmas.Option.{slice_get_past}
use Rattle.std.proofs.lemmas.Nat.{shr-shr}
use Rattle.protocol_model.specs.Bits.{digits, bits_of, packed_bits}
use Rattle.protocol_model.specs.Numbers.{leading_bits, leading_fixed, leading_packed}
use Rattle.protocol_laws.specs.Packed.{number_of_bytes}
use Rattle.bit_io.specs.Between.{bits_between}
use Rattle.protocol_laws.proofs.Digits.{IsBytes, view-left, slice_get-digits}
use Rattle.protocol_laws.proofs.Lengths.{length-bits_of}
use Rattle.protocol_laws.proofs.PackedLaws.{packed-spelled}
use Rattle.protocol_laws.proofs.Reading.{leading_fixed-digits, leading_fixed-short, leading_bits-short, long_enough}

pub length-between : (bytes : List ℕ) (from to : ℕ) → from ≤ to → to ≤ 8 * length bytes → length (bits_between bytes from to) ≡ to - from
unfolding bits_between
length-between bytes from to o w =
    let front : length (take to (bits_of bytes)) ≡ to = length-take-le to (bits_of bytes) (omega (arith, length-bits_of bytes)) in
    length-drop from (take to (bits_of bytes)) ∙ ap (λ m. m - from) front

pub between-is : (bytes : List ℕ) (from to : ℕ) → IsBytes bytes → from ≤ to → to ≤ 8 * length bytes → bits_between bytes from to ≡ digits (to - from) (number_of_bytes bytes / 2 ^ from)
unfolding bits_between
between-is bytes from to h o w = view-left bytes from to h o w

pub between-front : (bytes : List ℕ) (to : ℕ) → bits_between bytes 0 to ≡ take to (bits_of bytes)
unfolding bits_between
between-front bytes to = refl

pub fixed-between : (bytes : List ℕ) (at to w : ℕ) → IsBytes bytes → at + w ≤ to → to ≤ 8 * length bytes
    → leading_fixed w (bits_between bytes at to) ≡ Some (number_of_bytes bytes / 2 ^ at % 2 ^ w, bits_between bytes (at + w) to)
fixed-between bytes at to w h o t =
    let n = number_of_bytes bytes in
    let k = to - (at + w) in
    let e : to - at ≡ w + k = omega arith in
    let rest : digits k (n / 2 ^ at / 2 ^ w) ≡ bits_between bytes (at + w) to = ap (digits k) (shr-shr n at w) ∙ sym (between-is bytes (at + w) to h o t) in
    ap (leading_fixed w) (between-is bytes at to h (omega arith) t ∙ ap (λ m. digits m (n / 2 ^ at)) e)
    ∙ leading_fixed-digits w k (n / 2 ^ at)
    ∙ ap (λ (bits : List Bool). Some (n / 2 ^ at % 2 ^ w, bits)) rest

pub fixed-past : (bytes : List ℕ) (at to w : ℕ) → at ≤ to → to < at + w → to ≤ 8 * length bytes → leading_fixed w (bits_between bytes at to) ≡ None
fixed-past bytes at to w o s t = leading_fixed-short w (bits_between bytes at to) (omega (arith, length-between bytes at to o t))

pub bits-past : (bytes : List ℕ) (at to w : ℕ) → at ≤ to → to < at + w → to ≤ 8 * length bytes → leading_bits w (bits_between bytes at to) ≡ None
bits-past bytes at to w o s t = leading_bits-short w (bits_between bytes at to) (omega (arith, length-between bytes at to o t))

front_of : (xs : List Bool) (at w m : ℕ) → w ≤ m → take w (drop at (take (at + m) xs)) ≡ drop at (take (at + w) xs)
front_of xs at w m h = ap (take w) (drop-take at m xs) ∙ take-take w m (drop at xs) h ∙ sym (drop-take at w xs)

pub take-between : (bytes : List ℕ) (at to w : ℕ) → at + w ≤ to → take w (bits_between bytes at to) ≡ bits_between bytes at (at + w)
unfolding bits_between
take-between bytes at to w h =
    let e : to ≡ at + (to - at) = omega arith in
    ap (λ m. take w (drop at (take m (bits_of bytes)))) e ∙ front_of (bits_of bytes) at w (to - at) (omega arith)

pub drop-between : (bytes : List ℕ) (at to w : ℕ) → drop w (bits_between bytes at to) ≡ bits_between bytes (at + w) to
unfolding bits_between
drop-between bytes at to w = drop-drop w at (take to (bits_of bytes))

pub bits-between : (bytes : List ℕ) (at to w : ℕ) → at + w ≤ to → to ≤ 8 * length bytes
    → leading_bits w (bits_between bytes at to) ≡ Some (bits_between bytes at (at + w), bits_between bytes (at + w) to)
bits-between bytes at to w h t =
    let long = long_enough (length (bits_between bytes at to)) w (omega (arith, length-between bytes at to (omega arith) t)) in
    rw (long, take-between bytes at to w h, drop-between bytes at to w) refl

-- one bit of them
pub get-between : (bytes : List ℕ) (from to i : ℕ) → IsBytes bytes → from + i < to → to ≤ 8 * length bytes
    → slice_get (bits_between bytes from to) i ≡ Some (number_of_bytes bytes / 2 ^ (from + i) % 2 == 1)
get-between bytes from to i h o t =
    let n = number_of_bytes bytes in
    ap (λ bits. slice_get bits i) (between-is bytes from to h (omega arith) t)
    ∙ slice_get-digits (to - from) (n / 2 ^ from) i (omega arith) ∙ rw (shr-shr n from i) refl

pub get-past : (bytes : List ℕ) (from to i : ℕ) → from ≤ to → to ≤ from + i → to ≤ 8 * length bytes → slice_get (bits_between bytes from to) i ≡ None
get-past bytes from to i o p t = slice_get_past (bits_between bytes from to) i (omega (arith, length-between bytes from to o t))

-- the reader's place behind a packed number
pub packed_end : (bytes : List ℕ) (at to end v : ℕ) → at ≤ end → end ≤ to → to ≤ 8 * length bytes → leading_packed (bits_between bytes at to) ≡ Ok (v, bits_between bytes end to) → end ≡ at + length (packed_bits v)
packed_end bytes at to end v a e t h =
    let s = packed-spelled v (bits_between bytes at to) (bits_between bytes end to) h in
    let whole = ap length s.1 in
    omega (arith, whole, length-append (packed_bits v) (bits_between bytes end to), length-between bytes at to (omega arith) t, length-between bytes end to e t)

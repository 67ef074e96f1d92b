-- Where a packet's content ends.
use Rattle.std.proofs.Common.{◌≡◌, ℕ, zero, suc, ◌<◌, ◌≤◌, ◌+◌, ◌-◌, ◌*◌, ◌^◌, ◌==◌, List, [], ◌∷◌, ◌++◌, Bool, true, false, refl, sym, ap, ◌∙◌, arith, length, reverse, replicate, take, drop, length-append, append_assoc, drop-cons, get_or, append-nil, length-take, ◌/◌}
use Rattle.std.proofs.Math.Seq.{drop-length}
use Rattle.std.specs.Prelude.{slice_index_or}
use Rattle.std.proofs.lemmas.Bool.Decides.{nat_tests}
use Rattle.std.proofs.lemmas.List.{reverse-append, reverse-reverse, take-append-drop, take_at}
use Rattle.std.proofs.Math.Nat.{pow-suc}
use Rattle.std.proofs.lemmas.Nat.{leading_top, div-mul-add}
use Rattle.std.specs.Int.Count.{count_leading_zeros}
use Rattle.std.proofs.lemmas.Grind.{reverse_onto, replicate_next, flat_map-append}
use Rattle.std.proofs.lemmas.Bool.{le-ltb}
use Rattle.protocol_model.specs.Bits.{bits_of, digits}
use Rattle.protocol_model.specs.PacketReading.{after_first_one, content_of, packet_of, content_read}
use Rattle.protocol_model.specs.declared.Version.{Version}
use Rattle.protocol_laws.proofs.Bounds.{not_zero}
use Rattle.protocol_laws.proofs.Digits.{length-digits, digits-split, digits-zero}
use Rattle.protocol_laws.proofs.Lengths.{length-bits_of}

-- 0 bits are the same from either end
zeros_reverse : (n : ℕ) → reverse (replicate n false) ≡ replicate n false
zeros_reverse zero = refl
zeros_reverse (suc n) =
    let next : n + 1 ≡ suc n = omega arith in
    let onto : reverse (replicate (suc n) false) ≡ reverse (replicate n false) ++ false ∷ [] = reverse_onto (replicate n false) false [] in
    onto ∙ ap (λ (bits : List Bool). bits ++ false ∷ []) (zeros_reverse n) ∙ sym (replicate_next n false) ∙ ap (λ (m : ℕ). replicate m false) next

after_zeros : (n : ℕ) (bits : List Bool) → after_first_one (replicate n false ++ true ∷ bits) ≡ bits
after_zeros zero bits = refl
after_zeros (suc n) bits = after_zeros n bits

turned : (bits : List Bool) (pad : ℕ) → reverse (bits ++ true ∷ replicate pad false) ≡ replicate pad false ++ true ∷ reverse bits
turned bits pad =
    let zeros : reverse (true ∷ replicate pad false) ≡ replicate pad false ++ true ∷ [] = reverse_onto (replicate pad false) true [] ∙ ap (λ (bits : List Bool). bits ++ true ∷ []) (zeros_reverse pad) in
    reverse-append bits (true ∷ replicate pad false) ∙ ap (λ (front : List Bool). front ++ reverse bits) zeros ∙ append_assoc (replicate pad false) (true ∷ []) (reverse bits)

-- what stands before the last 1 bit, where only 0 bits follow it
pub content-is : (bytes : List ℕ) (bits : List Bool) (pad : ℕ) → bits_of bytes ≡ bits ++ true ∷ replicate pad false → content_of bytes ≡ bits
content-is bytes bits pad e =
    ap (λ (all : List Bool). reverse (after_first_one (reverse all))) e
    ∙ ap (λ (back : List Bool). reverse (after_first_one back)) (turned bits pad)
    ∙ ap (λ (back : List Bool). reverse back) (after_zeros pad (reverse bits))
    ∙ reverse-reverse bits

-- fewer 0 bits don't begin as more do
apart : (n m : ℕ) (xs ys : List Bool) → n < m → replicate m false ++ xs ≡ replicate n false ++ true ∷ ys → ⊥
apart zero (suc m) xs ys l e = cc
apart zero zero xs ys l e = omega arith
apart (suc n) zero xs ys l e = omega arith
apart (suc n) (suc m) xs ys l e = apart n m xs ys (omega arith) (cc)

-- the last byte stands behind the others
pub last_behind : (bytes : List ℕ) → 1 ≤ length bytes → bytes ≡ take (length bytes - 1) bytes ++ slice_index_or bytes (length bytes - 1) 0 ∷ []
last_behind bytes h =
    let end : suc (length bytes - 1) ≡ length bytes = omega (arith, h) in
    let within : length bytes - 1 < length bytes = omega (arith, h) in
    let back : drop (length bytes - 1) bytes ≡ get_or bytes (length bytes - 1) 0 ∷ drop (suc (length bytes - 1)) bytes = drop-cons bytes (length bytes - 1) 0 within in
    let none : drop (suc (length bytes - 1)) bytes ≡ [] = ap (λ (m : ℕ). drop m bytes) end ∙ drop-length bytes in
    let one : drop (length bytes - 1) bytes ≡ get_or bytes (length bytes - 1) 0 ∷ [] = back ∙ ap (λ (more : List ℕ). get_or bytes (length bytes - 1) 0 ∷ more) none in
    sym (take-append-drop (length bytes - 1) bytes) ∙ ap (λ (more : List ℕ). take (length bytes - 1) bytes ++ more) one

-- the bits of the last byte stand behind the others
pub last_bits : (bytes : List ℕ) → 1 ≤ length bytes → bits_of bytes ≡ bits_of (take (length bytes - 1) bytes) ++ digits 8 (slice_index_or bytes (length bytes - 1) 0)
last_bits bytes h =
    ap bits_of (last_behind bytes h)
    ∙ flat_map-append (λ byte. digits 8 byte) (take (length bytes - 1) bytes) (slice_index_or bytes (length bytes - 1) 0 ∷ [])
    ∙ ap (λ (more : List Bool). bits_of (take (length bytes - 1) bytes) ++ more) (append-nil (digits 8 (slice_index_or bytes (length bytes - 1) 0)))

zero_digits : digits 8 0 ≡ replicate 8 false
unfolding digits
zero_digits = refl

-- bytes that hold a 1 bit behind which fewer than eight 0 bits stand don't end in a byte 0
pub last_is_some : (bytes : List ℕ) (bits : List Bool) (pad : ℕ) → pad < 8 → 1 ≤ length bytes → bits_of bytes ≡ bits ++ true ∷ replicate pad false → (slice_index_or bytes (length bytes - 1) 0 == 0) ≡ false
last_is_some bytes bits pad l h e = some_where (slice_index_or bytes (length bytes - 1) 0 == 0) refl
  where
    some_where : (b : Bool) → (slice_index_or bytes (length bytes - 1) 0 == 0) ≡ b → b ≡ false
    some_where false t = refl
    some_where true t =
        let none : slice_index_or bytes (length bytes - 1) 0 ≡ 0 = grind (arith, nat_tests) in
        let front : List Bool = bits_of (take (length bytes - 1) bytes) in
        let zeros : bits_of bytes ≡ front ++ replicate 8 false = last_bits bytes h ∙ ap (λ (n : ℕ). front ++ digits 8 n) none ∙ ap (λ (more : List Bool). front ++ more) zero_digits in
        let back : replicate 8 false ++ reverse front ≡ replicate pad false ++ true ∷ reverse bits =
        ap (λ (zs : List Bool). zs ++ reverse front) (sym (zeros_reverse 8)) ∙ sym (reverse-append front (replicate 8 false)) ∙ ap reverse (sym zeros ∙ e) ∙ turned bits pad in
        absurd (apart pad 8 (reverse front) (reverse bits) l back)

-- bytes of a fitting length with an end bit are what their content says
pub packet_of-content : (version : Version) (bytes : List ℕ) → 1 ≤ length bytes → length bytes ≤ 1024 → (slice_index_or bytes (length bytes - 1) 0 == 0) ≡ false → packet_of version bytes ≡ content_read version (content_of bytes)
packet_of-content version bytes h k l = rw (not_zero (length bytes) h, le-ltb 1024 (length bytes) k, l) refl

top_digit : (n p : ℕ) → p ≤ n → n < p * 2 → n / p ≡ 1
top_digit n p h k = let e : n ≡ 1 * p + (n - p) = omega (arith, h) in ap (λ (m : ℕ). m / p) e ∙ div-mul-add 1 p (n - p) (omega (arith, h, k))

-- the last 1 bit of a byte, and the 0 bits behind it
byte_end : (j z n : ℕ) → 2 ^ j ≤ n → n < 2 ^ suc j → digits (j + suc z) n ≡ digits j n ++ true ∷ replicate z false
unfolding digits
byte_end j z n h k =
    let one : n / 2 ^ j ≡ 1 = top_digit n (2 ^ j) h (omega (arith, k, pow-suc 2 j)) in
    let rest : digits (suc z) 1 ≡ true ∷ replicate z false = ap (λ (bits : List Bool). true ∷ bits) (digits-zero z) in
    digits-split j (suc z) n ∙ ap (λ (m : ℕ). digits j n ++ digits (suc z) m) one ∙ ap (λ (more : List Bool). digits j n ++ more) rest

-- the content stands before the last 1 bit of the last byte
pub content_at : (bytes : List ℕ) (j z : ℕ) → 1 ≤ length bytes → z + suc j ≡ 8 → 2 ^ j ≤ slice_index_or bytes (length bytes - 1) 0 → slice_index_or bytes (length bytes - 1) 0 < 2 ^ suc j
    → content_of bytes ≡ take (8 * length bytes - 1 - z) (bits_of bytes)
content_at bytes j z some whole low high =
    let last : ℕ = slice_index_or bytes (length bytes - 1) 0 in
    let front : List Bool = bits_of (take (length bytes - 1) bytes) in
    let eight : 8 ≡ j + suc z = omega (arith, whole) in
    let bits : bits_of bytes ≡ (front ++ digits j last) ++ true ∷ replicate z false =
    last_bits bytes some ∙ ap (λ (k : ℕ). front ++ digits k last) eight ∙ ap (λ (more : List Bool). front ++ more) (byte_end j z last low high) ∙ sym (append_assoc front (digits j last) (true ∷ replicate z false)) in
    let before : length (front ++ digits j last) ≡ 8 * length bytes - 1 - z = omega (arith, length-append front (digits j last), length-digits j last, length-bits_of (take (length bytes - 1) bytes), length-take (length bytes - 1) bytes, whole, some) in
    content-is bytes (front ++ digits j last) z bits ∙ sym (ap (λ (all : List Bool). take (8 * length bytes - 1 - z) all) bits ∙ take_at (front ++ digits j last) (true ∷ replicate z false) (8 * length bytes - 1 - z) before)

-- bits that end in a 1 bit and fewer than eight 0 bits
pub record Ended (bits : List Bool) : Type 0 where
  pub front : List Bool
  pub pad : ℕ
  pub short : pad < 8
  pub bits_are : bits ≡ front ++ true ∷ replicate pad false

-- the bits of bytes of which the last isn't 0
pub ended : (bytes : List ℕ) → 1 ≤ length bytes → slice_index_or bytes (length bytes - 1) 0 < 256 → (slice_index_or bytes (length bytes - 1) 0 ≡ 0 → ⊥) → Ended (bits_of bytes)
ended bytes some fits not_none =
    let last : ℕ = slice_index_or bytes (length bytes - 1) 0 in
    let positive : 0 < last = omega (arith, not_none) in
    let top = leading_top 8 last positive fits in
    let whole = top.1 in
    let front : List Bool = bits_of (take (length bytes - 1) bytes) in
    let eight : 8 ≡ top.0 + suc (count_leading_zeros 8 last) = omega (arith, whole) in
    record {
      front = front ++ digits top.0 last;
      pad = count_leading_zeros 8 last;
      short = omega (arith, whole);
      bits_are = last_bits bytes some ∙ ap (λ (k : ℕ). front ++ digits k last) eight ∙ ap (λ (more : List Bool). front ++ more) (byte_end top.0 (count_leading_zeros 8 last) last top.2 top.3)
          ∙ sym (append_assoc front (digits top.0 last) (true ∷ replicate (count_leading_zeros 8 last) false));
    }

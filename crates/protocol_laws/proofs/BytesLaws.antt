-- Bytes and their bits, there and back.
use Rattle.std.proofs.Common.{◌≡◌, ℕ, zero, suc, ◌<◌, ◌≤◌, ◌+◌, ◌-◌, ◌*◌, ◌/◌, ◌%◌, ◌^◌, List, [], ◌∷◌, ◌++◌, Bool, true, false, nat_lt, min, refl, sym, ap, ◌∙◌, subst, arith, length, take, drop, replicate}
use Rattle.std.specs.Prelude.{All}
use Rattle.std.proofs.lemmas.List.{length-take, length-drop}
use Rattle.std.proofs.lemmas.List.Elements.{All-get_or}
use Rattle.std.proofs.Math.Seq.{take-length}
use Rattle.std.proofs.lemmas.Bool.Decides.{nat_tests}
use Rattle.std.proofs.lemmas.Nat.{pow-add}
use Rattle.std.proofs.Math.ListN.{drop_of_length-le}
use Rattle.std.proofs.Math.Nat.{mod-eq_of_lt, pow-le-pow_right, div-eq_of_lt}
use Rattle.protocol_model.specs.Bits.{digits, number_of, bits_of, bytes_of, bytes_in}
use Rattle.protocol_laws.specs.Packed.{number_of_bytes}
use Rattle.protocol_laws.proofs.Digits.{IsBytes, bits_of-is, digits-split, digits-zero, drop-digits, length-digits, bytes_all, place_up, twice}
use Rattle.protocol_laws.proofs.Reading.{digits-number_of, number_of-digits, number_of_below, take-digits_min}

number_of-parts : (k : ℕ) (bits : List Bool) → number_of (take k bits) + number_of (drop k bits) * 2 ^ k ≡ number_of bits
number_of-parts zero bits = omega arith
number_of-parts (suc k) [] = omega arith
number_of-parts (suc k) (b ∷ bits) = omega (arith, number_of-parts k bits, twice (number_of (drop k bits)) k)

-- that many bytes are made
pub length-bytes_in : (n : ℕ) (bits : List Bool) → length (bytes_in n bits) ≡ n
unfolding bytes_in
length-bytes_in zero bits = refl
length-bytes_in (suc n) bits = ap (λ m. suc m) (length-bytes_in n (drop 8 bits))

-- eight bits make a byte
pub byte_of : (bits : List Bool) → number_of (take 8 bits) < 256
byte_of bits =
    let up : 2 ^ length (take 8 bits) ≤ 2 ^ 8 = pow-le-pow_right {n = 2} (omega arith) {i = length (take 8 bits)} {j = 8} (omega (arith, length-take 8 bits)) in
    omega (arith, up, number_of_below (take 8 bits))

bytes_in-bytes : (n : ℕ) (bits : List Bool) → IsBytes (bytes_in n bits)
unfolding bytes_in
bytes_in-bytes zero bits i = omega arith
bytes_in-bytes (suc n) bits zero = byte_of bits
bytes_in-bytes (suc n) bits (suc i) = bytes_in-bytes n (drop 8 bits) i

number_of_bytes-in : (n : ℕ) (bits : List Bool) → length bits ≤ 8 * n → number_of_bytes (bytes_in n bits) ≡ number_of bits
unfolding bytes_in
number_of_bytes-in zero [] h = refl
number_of_bytes-in zero (b ∷ bits) h = absurd (omega arith)
number_of_bytes-in (suc n) bits h =
    let rest = number_of_bytes-in n (drop 8 bits) (omega (arith, length-drop 8 bits)) in
    omega (arith, rest, number_of-parts 8 bits)

-- bytes made of bits hold them, and then fewer than eight 0 bits
pub bits_of-bytes_of : (bits : List Bool) → (pad : ℕ) × (pad < 8) × (bits_of (bytes_of bits) ≡ bits ++ replicate pad false)
bits_of-bytes_of bits =
    let len = length bits in
    let n = (len + 7) / 8 in
    let pad = 8 * n - len in
    let value = number_of bits in
    let size : 8 * length (bytes_in n bits) ≡ len + pad = omega (arith, length-bytes_in n bits) in
    let none : value / 2 ^ len ≡ 0 = div-eq_of_lt (number_of_below bits) in
    let whole : bits_of (bytes_in n bits) ≡ digits (len + pad) value =
    bits_of-is (bytes_in n bits) (bytes_in-bytes n bits) ∙ rw (size, number_of_bytes-in n bits (omega arith)) refl in
    (pad, omega arith, whole ∙ digits-split len pad value ∙ rw (digits-number_of bits, none, digits-zero pad) refl)

-- the lowest eight digits of bytes, or fewer where there are no more, make the first byte
first_byte : (len b rest : ℕ) → b < 256 → b + 256 * rest < 2 ^ len → (b + 256 * rest) % 2 ^ min 8 len ≡ b
first_byte len b rest h below = first_where (nat_lt len 8) refl
  where
    first_where : (t : Bool) → nat_lt len 8 ≡ t → (b + 256 * rest) % 2 ^ min 8 len ≡ b
    first_where true t =
        let short : len < 8 = grind (arith, nat_tests) in
        let e : min 8 len ≡ len = omega arith in
        let up : 2 ^ len ≤ 2 ^ 8 = pow-le-pow_right {n = 2} (omega arith) {i = len} {j = 8} (omega arith) in
        rw e (mod-eq_of_lt below ∙ omega (arith, below, up))
    first_where false t =
        let long : 8 ≤ len = grind (arith, nat_tests) in
        let e : min 8 len ≡ 8 = omega arith in
        rw e (omega (arith, h))

-- and those above them the bytes behind it
other_bytes : (len b rest : ℕ) → b < 256 → b + 256 * rest < 2 ^ len → rest < 2 ^ (len - 8)
other_bytes len b rest h below = other_where (nat_lt len 8) refl
  where
    other_where : (t : Bool) → nat_lt len 8 ≡ t → rest < 2 ^ (len - 8)
    other_where true t =
        let short : len < 8 = grind (arith, nat_tests) in
        let up : 2 ^ len ≤ 2 ^ 8 = pow-le-pow_right {n = 2} (omega arith) {i = len} {j = 8} (omega arith) in
        let e : len - 8 ≡ 0 = omega arith in
        rw e (omega (arith, below, up))
    other_where false t =
        let long : 8 ≤ len = grind (arith, nat_tests) in
        let e : len ≡ 8 + (len - 8) = omega arith in
        let p : 2 ^ len ≡ 256 * 2 ^ (len - 8) = ap (λ m. 2 ^ m) e ∙ pow-add 2 8 (len - 8) in
        omega (arith, below, p)

digits-none : (n : ℕ) → digits 0 n ≡ []
unfolding digits
digits-none n = refl

drop-digits_eight : (len n : ℕ) → drop 8 (digits len n) ≡ digits (len - 8) (n / 2 ^ 8)
drop-digits_eight len n = drop_where (nat_lt len 8) refl
  where
    drop_where : (t : Bool) → nat_lt len 8 ≡ t → drop 8 (digits len n) ≡ digits (len - 8) (n / 2 ^ 8)
    drop_where true t =
        let short : len < 8 = grind (arith, nat_tests) in
        let e : len - 8 ≡ 0 = omega arith in
        drop_of_length-le (digits len n) {i = 8} (omega (arith, length-digits len n)) ∙ rw e (sym (digits-none (n / 2 ^ 8)))
    drop_where false t =
        let long : 8 ≤ len = grind (arith, nat_tests) in
        let e : len ≡ 8 + (len - 8) = omega arith in
        ap (λ k. drop 8 (digits k n)) e ∙ drop-digits 8 (len - 8) n

-- bytes that hold only these digits are those that the digits make
pub bytes_in-digits : (count len : ℕ) (bytes : List ℕ) → IsBytes (take count bytes) → count ≤ length bytes → number_of_bytes bytes < 2 ^ len
    → bytes_in count (digits len (number_of_bytes bytes)) ≡ take count bytes
unfolding bytes_in
bytes_in-digits zero len bytes h c below = refl
bytes_in-digits (suc count) len [] h c below = absurd (omega arith)
bytes_in-digits (suc count) len (b ∷ bytes) h c below =
    let n = b + 256 * number_of_bytes bytes in
    let small : b < 256 = h 0 in
    let first : number_of (take 8 (digits len n)) ≡ b = ap number_of (take-digits_min 8 len n) ∙ number_of-digits (min 8 len) n ∙ first_byte len b (number_of_bytes bytes) small below in
    let up : n / 2 ^ 8 ≡ number_of_bytes bytes = omega (arith, small) in
    let after : drop 8 (digits len n) ≡ digits (len - 8) (number_of_bytes bytes) = drop-digits_eight len n ∙ ap (digits (len - 8)) up in
    rw (first, after, bytes_in-digits count (len - 8) bytes (λ i. h (suc i)) (omega arith) (other_bytes len b (number_of_bytes bytes) small below)) refl

number_of_bytes_below : (bytes : List ℕ) → IsBytes bytes → number_of_bytes bytes < 2 ^ (8 * length bytes)
number_of_bytes_below [] h = omega arith
number_of_bytes_below (b ∷ bytes) h = omega (arith, h 0, number_of_bytes_below bytes (λ i. h (suc i)), place_up (length bytes))

-- bytes are those that their bits make
pub bytes_of-bits_of : (bytes : List ℕ) → All (λ byte. byte < 256) bytes → bytes_of (bits_of bytes) ≡ bytes
bytes_of-bits_of bytes h =
    let n = number_of_bytes bytes in
    let size = length bytes in
    let small : IsBytes bytes = bytes_all bytes (λ i d l. All-get_or (λ byte. byte < 256) bytes i d l h) in
    let count : (length (digits (8 * size) n) + 7) / 8 ≡ size = omega (arith, length-digits (8 * size) n) in
    let all : take size bytes ≡ bytes = take-length bytes in
    ap bytes_of (bits_of-is bytes small)
    ∙ ap (λ k. bytes_in k (digits (8 * size) n)) count
    ∙ bytes_in-digits size (8 * size) bytes (subst (λ (xs : List ℕ). IsBytes xs) (sym all) small) (omega arith) (number_of_bytes_below bytes small)
    ∙ all

-- One byte's part of a number, written into the bytes or read out of them.
use Rattle.std.proofs.Common.{◌≡◌, ℕ, suc, ◌<◌, ◌≤◌, ◌+◌, ◌-◌, ◌*◌, ◌/◌, ◌%◌, ◌^◌, List, [], ◌∷◌, zero, refl, sym, ap, ◌∙◌, subst, arith, length, get_or, set}
use Rattle.std.proofs.lemmas.Nat.{pow_pos, pow-add, shr_below, mul-add-lt, shr_split, field_of, mod-pow-add, shr-shr}
use Rattle.std.proofs.Math.Nat.{pow-le-pow_right}
use Rattle.std.proofs.Math.Pow.{mod-mod-pow}
use Rattle.protocol_laws.specs.Packed.{number_of_bytes}
use Rattle.protocol_laws.proofs.Digits.{number_of_bytes-set, byte_below_at, IsBytes}

pub place_split : (place : ℕ) → 2 ^ place ≡ 2 ^ (place % 8) * 2 ^ (8 * (place / 8))
place_split place =
    let e : place ≡ place % 8 + 8 * (place / 8) = omega arith in
    ap (λ m. 2 ^ m) e ∙ pow-add 2 (place % 8) (8 * (place / 8))

-- the byte at a place, and a part that goes above its bits, fit together
pub fits_byte : (part count s b : ℕ) → part < 2 ^ count → count + s ≤ 8 → b < 2 ^ s → part * 2 ^ s + b < 256
fits_byte part count s b p c h =
    let low : part * 2 ^ s + b < 2 ^ s * 2 ^ count = mul-add-lt part (2 ^ s) b (2 ^ count) p h in
    let sum : 2 ^ (s + count) ≡ 2 ^ s * 2 ^ count = pow-add 2 s count in
    let top : 2 ^ (s + count) ≤ 2 ^ 8 = pow-le-pow_right {n = 2} (omega arith) {i = s + count} {j = 8} (omega arith) in
    omega (arith, low, sum, top)

pub byte_clear : (bytes : List ℕ) (place : ℕ) → number_of_bytes bytes < 2 ^ place → get_or bytes (place / 8) 0 < 2 ^ (place % 8)
byte_clear bytes place h =
    let e : place ≡ 8 * (place / 8) + place % 8 = omega arith in
    byte_below_at bytes (place / 8) (place % 8) (subst (λ (m : ℕ). number_of_bytes bytes < 2 ^ m) e h)

pub added : (bytes : List ℕ) (place part : ℕ) → place / 8 < length bytes → number_of_bytes (set bytes (place / 8) (get_or bytes (place / 8) 0 + part * 2 ^ (place % 8))) ≡ number_of_bytes bytes + part * 2 ^ place
added bytes place part h =
    let n = number_of_bytes-set bytes (place / 8) (part * 2 ^ (place % 8)) h in
    let p = place_split place in
    let q : part * 2 ^ place ≡ part * 2 ^ (place % 8) * 2 ^ (8 * (place / 8)) = rw p (omega arith) in
    omega (arith, n, q)

pub step_same : (n m rest place count total : ℕ) → m ≡ n + rest % 2 ^ count * 2 ^ place → n + rest * 2 ^ place ≡ total → m + rest / 2 ^ count * 2 ^ (place + count) ≡ total
step_same n m rest place count total e h =
    let split : rest ≡ rest / 2 ^ count * 2 ^ count + rest % 2 ^ count = sym (shr_split rest count) in
    let whole : rest * 2 ^ place ≡ (rest / 2 ^ count * 2 ^ count + rest % 2 ^ count) * 2 ^ place = ap (λ r. r * 2 ^ place) split in
    rw (pow-add 2 place count) (omega (arith, e, h, whole))

pub step_rest : (rest count left : ℕ) → rest < 2 ^ left → count ≤ left → rest / 2 ^ count < 2 ^ (left - count)
step_rest rest count left h c =
    let e : left ≡ left - count + count = omega arith in
    shr_below rest (left - count) count (subst (λ (m : ℕ). rest < 2 ^ m) e h)

pub step_clear : (n m part place count : ℕ) → m ≡ n + part * 2 ^ place → n < 2 ^ place → part < 2 ^ count → m < 2 ^ (place + count)
step_clear n m part place count e h p =
    rw (pow-add 2 place count) (omega (arith, e, mul-add-lt part (2 ^ place) n (2 ^ count) p h))

zero_over : (k : ℕ) → 0 ≡ 0 / k % 256
zero_over k = omega arith

byte_at_index : (bs : List ℕ) (i : ℕ) → IsBytes bs → get_or bs i 0 ≡ number_of_bytes bs / 2 ^ (8 * i) % 256
byte_at_index [] i h = zero_over (2 ^ (8 * i))
byte_at_index (b ∷ bs) zero h = let low : b < 256 = h 0 in omega arith
byte_at_index (b ∷ bs) (suc i) h =
    let low : b < 256 = h 0 in
    let e : 8 * suc i ≡ 8 + 8 * i = omega arith in
    let up : (b + 256 * number_of_bytes bs) / 2 ^ 8 ≡ number_of_bytes bs = omega arith in
    let two : (b + 256 * number_of_bytes bs) / 2 ^ 8 / 2 ^ (8 * i) ≡ (b + 256 * number_of_bytes bs) / 2 ^ (8 + 8 * i) = shr-shr (b + 256 * number_of_bytes bs) 8 (8 * i) in
    byte_at_index bs i (λ j. h (suc j)) ∙ ap (λ m. m / 2 ^ (8 * i) % 256) (sym up) ∙ ap (λ m. m % 256) (two ∙ ap (λ m. (b + 256 * number_of_bytes bs) / 2 ^ m) (sym e))

-- what is read of one byte is that part of the number
pub part_at : (bytes : List ℕ) (at done count : ℕ) → IsBytes bytes → count + (at + done) % 8 ≤ 8
    → get_or bytes ((at + done) / 8) 0 / 2 ^ ((at + done) % 8) % 2 ^ count ≡ number_of_bytes bytes / 2 ^ at / 2 ^ done % 2 ^ count
part_at bytes at done count h fits =
    let place = at + done in
    let n = number_of_bytes bytes in
    let high = n / 2 ^ (8 * (place / 8)) in
    let byte = byte_at_index bytes (place / 8) h in
    let width : 8 - place % 8 + place % 8 ≡ 8 = omega arith in
    let f : high % 2 ^ (8 - place % 8 + place % 8) / 2 ^ (place % 8) ≡ high / 2 ^ (place % 8) % 2 ^ (8 - place % 8) = field_of high (8 - place % 8) (place % 8) in
    let f8 : high % 256 / 2 ^ (place % 8) ≡ high / 2 ^ (place % 8) % 2 ^ (8 - place % 8) = subst (λ (m : ℕ). high % 2 ^ m / 2 ^ (place % 8) ≡ high / 2 ^ (place % 8) % 2 ^ (8 - place % 8)) width f in
    let both : high / 2 ^ (place % 8) ≡ n / 2 ^ place = shr-shr n (8 * (place / 8)) (place % 8) ∙ (let e : 8 * (place / 8) + place % 8 ≡ place = omega arith in ap (λ m. n / 2 ^ m) e) in
    let shorter : n / 2 ^ place % 2 ^ (8 - place % 8) % 2 ^ count ≡ n / 2 ^ place % 2 ^ count =
    let e : 8 - place % 8 ≡ 8 - place % 8 - count + count = omega arith in
    subst (λ (m : ℕ). n / 2 ^ place % 2 ^ m % 2 ^ count ≡ n / 2 ^ place % 2 ^ count) (sym e) (mod-mod-pow (n / 2 ^ place) (8 - place % 8 - count) count) in
    rw (byte, f8, both, shorter, shr-shr n at done) refl

-- one more part of a number that is read from its lowest bits up
pub read_more : (n done count : ℕ) → n % 2 ^ done + n / 2 ^ done % 2 ^ count * 2 ^ done ≡ n % 2 ^ (done + count)
read_more n done count =
    let e : count + done ≡ done + count = omega arith in
    let m : n % 2 ^ (done + count) ≡ n / 2 ^ done % 2 ^ count * 2 ^ done + n % 2 ^ done = subst (λ (k : ℕ). n % 2 ^ k ≡ n / 2 ^ done % 2 ^ count * 2 ^ done + n % 2 ^ done) e (mod-pow-add n count done) in
    omega (arith, m)

-- a part above the bits that are read fits 64 bits
pub fits_word : (value part done count : ℕ) → value < 2 ^ done → part < 2 ^ count → done + count ≤ 64 → part * 2 ^ done + value < 2 ^ 64
fits_word value part done count v p h =
    let low : part * 2 ^ done + value < 2 ^ done * 2 ^ count = mul-add-lt part (2 ^ done) value (2 ^ count) p v in
    let sum : 2 ^ (done + count) ≡ 2 ^ done * 2 ^ count = pow-add 2 done count in
    let top : 2 ^ (done + count) ≤ 2 ^ 64 = pow-le-pow_right {n = 2} (omega arith) {i = done + count} {j = 64} h in
    omega (arith, low, sum, top)

-- one more part of other bytes
pub slice_same : (init cur new n done count at part : ℕ) → new ≡ cur + part * 2 ^ (at + done) → cur ≡ init + n % 2 ^ done * 2 ^ at → part ≡ n / 2 ^ done % 2 ^ count → new ≡ init + n % 2 ^ (done + count) * 2 ^ at
slice_same init cur new n done count at part e h p =
    let m : n % 2 ^ done + part * 2 ^ done ≡ n % 2 ^ (done + count) = rw p (read_more n done count) in
    let up : part * 2 ^ (at + done) ≡ part * 2 ^ done * 2 ^ at = rw (pow-add 2 at done) (omega arith) in
    rw (← m) (omega (arith, e, h, up))

pub slice_clear : (cur new at done count part : ℕ) → new ≡ cur + part * 2 ^ (at + done) → cur < 2 ^ (at + done) → part < 2 ^ count → new < 2 ^ (at + (done + count))
slice_clear cur new at done count part e h p =
    let s : at + done + count ≡ at + (done + count) = omega arith in
    subst (λ (m : ℕ). new < 2 ^ m) s (step_clear cur new part (at + done) count e h p)

-- the number from one byte on is that byte and the number from the next one on
pub byte_and_rest : (bs : List ℕ) (i j : ℕ) → j ≡ i + 1 → IsBytes bs → number_of_bytes bs / 2 ^ (8 * i) ≡ get_or bs i 0 + 256 * (number_of_bytes bs / 2 ^ (8 * j))
byte_and_rest bs i j is h =
    let n = number_of_bytes bs / 2 ^ (8 * i) in
    let e : 8 * i + 8 ≡ 8 * j = omega arith in
    let up : n / 256 ≡ number_of_bytes bs / 2 ^ (8 * j) = shr-shr (number_of_bytes bs) (8 * i) 8 ∙ ap (λ m. number_of_bytes bs / 2 ^ m) e in
    omega (arith, byte_at_index bs i h, up)

-- the bits of a word from one of its bits on are those of the bytes
pub word_part : (n first shift width at : ℕ) → shift + width ≤ 64 → at ≡ 8 * first + shift → n / 2 ^ (8 * first) % 2 ^ 64 / 2 ^ shift % 2 ^ width ≡ n / 2 ^ at % 2 ^ width
word_part n first shift width at fits e =
    let high = n / 2 ^ (8 * first) in
    let whole : 64 - shift + shift ≡ 64 = omega arith in
    let f : high % 2 ^ 64 / 2 ^ shift ≡ high / 2 ^ shift % 2 ^ (64 - shift) = subst (λ (m : ℕ). high % 2 ^ m / 2 ^ shift ≡ high / 2 ^ shift % 2 ^ (64 - shift)) whole (field_of high (64 - shift) shift) in
    let both : high / 2 ^ shift ≡ n / 2 ^ at = shr-shr n (8 * first) shift ∙ ap (λ m. n / 2 ^ m) (sym e) in
    let split : 64 - shift ≡ 64 - shift - width + width = omega arith in
    let shorter : n / 2 ^ at % 2 ^ (64 - shift) % 2 ^ width ≡ n / 2 ^ at % 2 ^ width = subst (λ (m : ℕ). n / 2 ^ at % 2 ^ m % 2 ^ width ≡ n / 2 ^ at % 2 ^ width) (sym split) (mod-mod-pow (n / 2 ^ at) (64 - shift - width) width) in
    ap (λ m. m % 2 ^ width) (f ∙ ap (λ m. m % 2 ^ (64 - shift)) both) ∙ shorter

-- a number that is shifted to its place in a word
pub shifted_fits : (value width shift : ℕ) → value < 2 ^ width → shift + width ≤ 64 → value * 2 ^ shift < 2 ^ 64
shifted_fits value width shift v fits =
    let low : value * 2 ^ shift + 0 < 2 ^ shift * 2 ^ width = mul-add-lt value (2 ^ shift) 0 (2 ^ width) v (pow_pos shift) in
    let sum : 2 ^ (shift + width) ≡ 2 ^ shift * 2 ^ width = pow-add 2 shift width in
    let top : 2 ^ (shift + width) ≤ 2 ^ 64 = pow-le-pow_right {n = 2} (omega arith) {i = shift + width} {j = 64} fits in
    omega (arith, low, sum, top)

pub shifted_is : (at value : ℕ) → value * 2 ^ (at % 8) < 2 ^ 64 → value * 2 ^ (at % 8) % 18446744073709551616 * 2 ^ (8 * (at / 8)) ≡ value * 2 ^ at
shifted_is at value h =
    let whole : value * 2 ^ (at % 8) % 18446744073709551616 ≡ value * 2 ^ (at % 8) = omega (arith, h) in
    rw (whole, place_split at) (omega arith)

pub word_room : (n at value width : ℕ) → n < 2 ^ at → value < 2 ^ width → at % 8 + width ≤ 64 → n + value * 2 ^ at < 2 ^ (8 * (at / 8) + 64)
word_room n at value width h v fits =
    let low : n + value * 2 ^ at < 2 ^ (at + width) = step_clear n (n + value * 2 ^ at) value at width (omega arith) h v in
    let top : 2 ^ (at + width) ≤ 2 ^ (8 * (at / 8) + 64) = pow-le-pow_right {n = 2} (omega arith) {i = at + width} {j = 8 * (at / 8) + 64} (omega arith) in
    omega (arith, low, top)

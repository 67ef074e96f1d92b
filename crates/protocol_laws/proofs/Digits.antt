use Rattle.std.proofs.Common.{◌≡◌, ℕ, zero, suc, ◌<◌, ◌≤◌, ◌+◌, ◌-◌, ◌*◌, ◌/◌, ◌%◌, ◌^◌, ◌==◌, List, [], ◌∷◌, ◌++◌, refl, sym, ap, ◌∙◌, subst, arith, length, take, drop, get_or, set, zero-add, slice_get, Some, replicate, false}
use Rattle.std.proofs.lemmas.Nat.{pow-add, mod-pow-add, shr-shr, pow_pos, div-add-mod', mod_below}
use Rattle.std.proofs.Math.Nat.{pow-suc}
use Rattle.std.proofs.Math.Pow.{mod-mod-pow}
use Rattle.protocol_model.specs.Bits.{digits, bits_of}
use Rattle.protocol_laws.specs.Packed.{number_of_bytes}

pub length-digits : (k n : ℕ) → length (digits k n) ≡ k
unfolding digits
length-digits zero n = refl
length-digits (suc k) n = ap (λ m. suc m) (length-digits k (n / 2))

low_bit : (n p : ℕ) → (n + 2 * p) % 2 ≡ n % 2
low_bit n p = omega arith

other_bits : (n p : ℕ) → (n + 2 * p) / 2 ≡ n / 2 + p
other_bits n p = omega arith

pub twice : (v a : ℕ) → v * 2 ^ suc a ≡ 2 * (v * 2 ^ a)
twice v a = grind (arith, pow-suc)

half_below : (n a : ℕ) → n < 2 ^ suc a → n / 2 < 2 ^ a
half_below n a h = omega (arith, pow-suc 2 a)

-- a number with another above it has the digits of the one and then those of the other
pub digits-append : (a w n v : ℕ) → n < 2 ^ a → digits (a + w) (n + v * 2 ^ a) ≡ digits a n ++ digits w v
unfolding digits
digits-append zero w n v h = let e : n + v * 1 ≡ v = omega arith in rw (zero-add w, e) refl
digits-append (suc a) w n v h =
    let s : suc a + w ≡ suc (a + w) = omega arith in
    rw (s, twice v a, low_bit n (v * 2 ^ a), other_bits n (v * 2 ^ a), digits-append a w (n / 2) v (half_below n a h)) refl

mod_half : (n w : ℕ) → n % 2 ^ suc w ≡ 2 * (n / 2 % 2 ^ w) + n % 2
mod_half n w = let e : w + 1 ≡ suc w = omega arith in rw (← e) (mod-pow-add n w 1 ∙ omega arith)

pub digits-mod : (w n : ℕ) → digits w (n % 2 ^ w) ≡ digits w n
unfolding digits
digits-mod zero n = refl
digits-mod (suc w) n =
    let low : n % 2 ^ suc w % 2 ≡ n % 2 = omega (arith, mod_half n w) in
    let high : n % 2 ^ suc w / 2 ≡ n / 2 % 2 ^ w = omega (arith, mod_half n w) in
    rw (low, high, digits-mod w (n / 2)) refl

pub take-digits : (w k n : ℕ) → take w (digits (w + k) n) ≡ digits w n
unfolding digits
take-digits zero k n = refl
take-digits (suc w) k n = let s : suc w + k ≡ suc (w + k) = omega arith in rw (s, take-digits w k (n / 2)) refl

pub drop-digits : (a k n : ℕ) → drop a (digits (a + k) n) ≡ digits k (n / 2 ^ a)
unfolding digits
drop-digits zero k n = let e : n / 1 ≡ n = omega arith in rw (zero-add k, e) refl
drop-digits (suc a) k n =
    let s : suc a + k ≡ suc (a + k) = omega arith in
    let e : n / 2 / 2 ^ a ≡ n / 2 ^ suc a = shr-shr n 1 a ∙ (let t : 1 + a ≡ suc a = omega arith in rw t refl) in
    rw (s, drop-digits a k (n / 2), e) refl

abbrev pub IsBytes : List ℕ → Type 0
IsBytes bytes = (i : ℕ) → get_or bytes i 0 < 256

-- the bits of bytes are the digits of their number
pub bits_of-is : (bytes : List ℕ) → IsBytes bytes → bits_of bytes ≡ digits (8 * length bytes) (number_of_bytes bytes)
unfolding digits
bits_of-is [] h = refl
bits_of-is (b ∷ bs) h =
    let s : 8 * suc (length bs) ≡ 8 + 8 * length bs = omega arith in
    let n : b + 256 * number_of_bytes bs ≡ b + number_of_bytes bs * 256 = omega arith in
    rw (s, n, digits-append 8 (8 * length bs) b (number_of_bytes bs) (h 0), bits_of-is bs (λ i. h (suc i))) refl

pub place_up : (i : ℕ) → 2 ^ (8 * suc i) ≡ 256 * 2 ^ (8 * i)
place_up i = let s : 8 * suc i ≡ 8 + 8 * i = omega arith in rw (s, pow-add 2 8 (8 * i)) refl

-- adding to one byte adds to the number
pub number_of_bytes-set : (bs : List ℕ) (i c : ℕ) → i < length bs → number_of_bytes (set bs i (get_or bs i 0 + c)) ≡ number_of_bytes bs + c * 2 ^ (8 * i)
number_of_bytes-set [] i c h = absurd (omega arith)
number_of_bytes-set (b ∷ bs) zero c h = omega arith
number_of_bytes-set (b ∷ bs) (suc i) c h =
    let rest = number_of_bytes-set bs i c (omega arith) in
    let up : c * 2 ^ (8 * suc i) ≡ 256 * (c * 2 ^ (8 * i)) = rw (place_up i) (omega arith) in
    omega (arith, rest, up)

pub byte_below_at : (bs : List ℕ) (i s : ℕ) → number_of_bytes bs < 2 ^ (8 * i + s) → get_or bs i 0 < 2 ^ s
byte_below_at [] i s h = pow_pos s
byte_below_at (b ∷ bs) zero s h = let e : 0 + s ≡ s = omega arith in let h' : b + 256 * number_of_bytes bs < 2 ^ s = rw e at h in omega (arith, h')
byte_below_at (b ∷ bs) (suc i) s h =
    let e : 8 * suc i + s ≡ 8 + (8 * i + s) = omega arith in
    let p : 2 ^ (8 + (8 * i + s)) ≡ 256 * 2 ^ (8 * i + s) = pow-add 2 8 (8 * i + s) in
    let h' : b + 256 * number_of_bytes bs < 256 * 2 ^ (8 * i + s) = rw (e, p) at h in
    byte_below_at bs i s (omega (arith, h'))

-- so many digits and the ones above them
pub digits-split : (w k n : ℕ) → digits (w + k) n ≡ digits w n ++ digits k (n / 2 ^ w)
digits-split w k n =
    let whole : n ≡ n % 2 ^ w + n / 2 ^ w * 2 ^ w = omega (arith, div-add-mod' n (2 ^ w)) in
    let low : n % 2 ^ w < 2 ^ w = mod_below n (2 ^ w) (pow_pos w) in
    ap (λ m. digits (w + k) m) whole ∙ digits-append w k (n % 2 ^ w) (n / 2 ^ w) low ∙ ap (λ xs. xs ++ digits k (n / 2 ^ w)) (digits-mod w n)

-- what stands from one place to another
pub view-left : (bytes : List ℕ) (at to : ℕ) → IsBytes bytes → at ≤ to → to ≤ 8 * length bytes → drop at (take to (bits_of bytes)) ≡ digits (to - at) (number_of_bytes bytes / 2 ^ at)
view-left bytes at to h a t =
    let e : 8 * length bytes ≡ to + (8 * length bytes - to) = omega arith in
    let f : to ≡ at + (to - at) = omega arith in
    let front : take to (bits_of bytes) ≡ digits to (number_of_bytes bytes) =
    ap (take to) (bits_of-is bytes h ∙ ap (λ m. digits m (number_of_bytes bytes)) e) ∙ take-digits to (8 * length bytes - to) (number_of_bytes bytes) in
    ap (drop at) (front ∙ ap (λ m. digits m (number_of_bytes bytes)) f) ∙ drop-digits at (to - at) (number_of_bytes bytes)

pub slice_get-digits : (k n i : ℕ) → i < k → slice_get (digits k n) i ≡ Some (n / 2 ^ i % 2 == 1)
unfolding digits
slice_get-digits zero n i h = absurd (omega arith)
slice_get-digits (suc k) n zero h = let e : n / 1 ≡ n = omega arith in rw e refl
slice_get-digits (suc k) n (suc i) h =
    let e : n / 2 / 2 ^ i ≡ n / 2 ^ suc i = shr-shr n 1 i ∙ (let t : 1 + i ≡ suc i = omega arith in rw t refl) in
    slice_get-digits k (n / 2) i (omega arith) ∙ rw e refl

pub digits-zero : (k : ℕ) → digits k 0 ≡ replicate k false
unfolding digits
digits-zero zero = refl
digits-zero (suc k) = rw (digits-zero k) refl

-- what a vector of bytes says of its own items
pub bytes_all : (bytes : List ℕ) → ((i d : ℕ) → i < length bytes → get_or bytes i d < 256) → IsBytes bytes
bytes_all [] h i = omega arith
bytes_all (b ∷ bs) h zero = h 0 0 (omega arith)
bytes_all (b ∷ bs) h (suc i) = bytes_all bs (λ j d l. h (suc j) d (omega (arith, l))) i

pub mod_parts : (n k : ℕ) → n % 2 ^ suc k ≡ n / 2 % 2 ^ k * 2 + n % 2
mod_parts n k = let e : k + 1 ≡ suc k = omega arith in subst (λ (m : ℕ). n % 2 ^ m ≡ n / 2 % 2 ^ k * 2 + n % 2) e (mod-pow-add n k 1)

pub mod-mod-le : (n i k : ℕ) → i ≤ k → n % 2 ^ k % 2 ^ i ≡ n % 2 ^ i
mod-mod-le n i k h =
    let e : k ≡ k - i + i = omega arith in
    subst (λ (m : ℕ). n % 2 ^ m % 2 ^ i ≡ n % 2 ^ i) (sym e) (mod-mod-pow n (k - i) i)

-- Bits of words that are moved up.
use Rattle.std.proofs.Common.{◌≡◌, ℕ, ◌+◌, ◌-◌, ◌*◌, ◌/◌, ◌%◌, ◌^◌, ◌<◌, ◌≤◌, ◌==◌, max, List, length, nat_lt, if◌then◌else◌, refl, sym, ap, ◌∙◌, arith, slice_index, slice_index_or, slice_set, bit_or, ⊎_elim}
use Rattle.std.specs.Int.{bit_at}
use Rattle.std.proofs.lemmas.Bool.{cases_lt, cases_eq, cond_below, cond_above}
use Rattle.std.proofs.lemmas.Bool.Decides.{nat_tests}
use Rattle.std.proofs.lemmas.List.{get_or-set_same, get_or-set_other}
use Rattle.std.proofs.lemmas.Nat.{shr-shr, shr_split}
use Rattle.std.proofs.lemmas.Nat.Bits.{bit_at-zero, bit_at_cat_low, bit_at_cat_high, bit_at_or, bit_at-pow_other, bit_at-lt}
use Rattle.ack_book.specs.History.{bit_in}

-- a mask leaves the bits below it
pub bit_at_mod : (n k i : ℕ) → i < k → bit_at (n % 2 ^ k) i ≡ bit_at n i
bit_at_mod n k i h = sym (bit_at_cat_low (n / 2 ^ k) k (n % 2 ^ k) i h) ∙ ap (λ (m : ℕ). bit_at m i) (shr_split n k)

-- a bit by its word and its place there
pub bit_in_word : (words : List ℕ) (k m j : ℕ) → m < 32 → j ≡ 32 * k + m → bit_in words j ≡ bit_at (slice_index words k) m
bit_in_word words k m j h e =
    let word : j / 32 ≡ k = omega arith in
    let place : j % 32 ≡ m = omega arith in
    ap (λ (x : ℕ). bit_at (slice_index words x) (j % 32)) word ∙ ap (bit_at (slice_index words k)) place

-- the bits of the upper of two words
upper_bit : (hi lo b i r : ℕ) → i < 32 → r ≡ (hi * 2 ^ 32 + lo) / 2 ^ (32 - b) % 2 ^ 32 → r / 2 ^ i % 2 ≡ bit_at (hi * 2 ^ 32 + lo) (32 - b + i)
upper_bit hi lo b i r h e =
    ap (λ (x : ℕ). bit_at x i) e ∙ bit_at_mod ((hi * 2 ^ 32 + lo) / 2 ^ (32 - b)) 32 i h ∙ ap (λ (x : ℕ). x % 2) (shr-shr (hi * 2 ^ 32 + lo) (32 - b) i)

low_bit : (words : List ℕ) (w by q b i lo x : ℕ) → b < 32 → by ≡ 32 * q + b → i < b
    → lo ≡ (if nat_lt w (q + 1) then 0 else slice_index words (w - (q + 1))) → x ≡ bit_at lo (32 - b + i)
    → x ≡ (if nat_lt (32 * w + i) by then 0 else bit_in words (32 * w + i - by))
low_bit words w by q b i lo x fits split under is e =
    ⊎_elim
    (λ (h : w < q + 1).
    let none : lo ≡ 0 = is ∙ sym (cond_below w (q + 1) 0 (slice_index words (w - (q + 1))) h) in
    (e ∙ ap (λ (n : ℕ). bit_at n (32 - b + i)) none ∙ bit_at-zero (32 - b + i)) ∙ cond_below (32 * w + i) by 0 (bit_in words (32 * w + i - by)) (omega arith))
    (λ (h : q + 1 ≤ w).
    let some : lo ≡ slice_index words (w - (q + 1)) = is ∙ sym (cond_above w (q + 1) 0 (slice_index words (w - (q + 1))) _ h refl) in
    cond_above (32 * w + i) by 0 (bit_in words (32 * w + i - by)) x (omega arith)
    (e ∙ ap (λ (n : ℕ). bit_at n (32 - b + i)) some ∙ sym (bit_in_word words (w - (q + 1)) (32 - b + i) (32 * w + i - by) (omega arith) (omega arith))))
    (cases_lt w (q + 1))

high_bit : (words : List ℕ) (w by q b i hi x : ℕ) → by ≡ 32 * q + b → b ≤ i → i < 32
    → hi ≡ (if nat_lt w q then 0 else slice_index words (w - q)) → x ≡ bit_at hi (i - b)
    → x ≡ (if nat_lt (32 * w + i) by then 0 else bit_in words (32 * w + i - by))
high_bit words w by q b i hi x split over fits is e =
    ⊎_elim
    (λ (h : w < q).
    let none : hi ≡ 0 = is ∙ sym (cond_below w q 0 (slice_index words (w - q)) h) in
    (e ∙ ap (λ (n : ℕ). bit_at n (i - b)) none ∙ bit_at-zero (i - b)) ∙ cond_below (32 * w + i) by 0 (bit_in words (32 * w + i - by)) (omega arith))
    (λ (h : q ≤ w).
    let some : hi ≡ slice_index words (w - q) = is ∙ sym (cond_above w q 0 (slice_index words (w - q)) _ h refl) in
    cond_above (32 * w + i) by 0 (bit_in words (32 * w + i - by)) x (omega arith)
    (e ∙ ap (λ (n : ℕ). bit_at n (i - b)) some ∙ sym (bit_in_word words (w - q) (i - b) (32 * w + i - by) (omega arith) (omega arith))))
    (cases_lt w q)

-- the upper of the two words that come to word w, after all are moved up by so many bits
pub shifted_bit : (words : List ℕ) (w by i hi lo r : ℕ) → i < 32 → lo < 2 ^ 32
    → hi ≡ (if nat_lt w (by / 32) then 0 else slice_index words (w - by / 32))
    → lo ≡ (if nat_lt w (by / 32 + 1) then 0 else slice_index words (w - (by / 32 + 1)))
    → r ≡ (hi * 2 ^ 32 + lo) / 2 ^ (32 - by % 32) % 2 ^ 32
    → r / 2 ^ i % 2 ≡ (if nat_lt (32 * w + i) by then 0 else bit_in words (32 * w + i - by))
shifted_bit words w by i hi lo r h fits hi_is lo_is is =
    let b : ℕ = by % 32 in
    let below : b < 32 = omega arith in
    let split : by ≡ 32 * (by / 32) + b = omega arith in
    let bit : r / 2 ^ i % 2 ≡ bit_at (hi * 2 ^ 32 + lo) (32 - b + i) = upper_bit hi lo b i r h is in
    ⊎_elim
    (λ (under : i < b). low_bit words w by (by / 32) b i lo (r / 2 ^ i % 2) below split under lo_is (bit ∙ bit_at_cat_low hi 32 lo (32 - b + i) (omega arith)))
    (λ (over : b ≤ i).
    let place : 32 - b + i - 32 ≡ i - b = omega arith in
    high_bit words w by (by / 32) b i hi (r / 2 ^ i % 2) split over h hi_is (bit ∙ bit_at_cat_high hi 32 lo (32 - b + i) fits (omega arith) ∙ ap (bit_at hi) place))
    (cases_lt i b)

-- the lowest bit is set
pub pushed_bit : (words : List ℕ) (i x : ℕ) → 0 < length words → bit_in words i ≡ x
    → bit_in (slice_set words 0 (bit_or (slice_index_or words 0 0) 1)) i ≡ (if i == 0 then 1 else x)
pushed_bit words i x some e =
    let first : ℕ = slice_index_or words 0 0 in
    ⊎_elim
    (λ (h : i < 32).
    let word : i / 32 ≡ 0 = omega arith in
    let place : i % 32 ≡ i = omega arith in
    let at : slice_index (slice_set words 0 (bit_or first 1)) (i / 32) ≡ bit_or first 1 = rw word (get_or-set_same words 0 (bit_or first 1) 0 some) in
    let whole : bit_in (slice_set words 0 (bit_or first 1)) i ≡ max (bit_at first i) (bit_at 1 i) =
    ap (λ (n : ℕ). bit_at n (i % 32)) at ∙ ap (bit_at (bit_or first 1)) place ∙ bit_at_or first 1 i in
    let before : bit_at first i ≡ x = sym (bit_in_word words 0 i i h (omega arith)) ∙ e in
    ⊎_elim
    (λ (zero_place : i ≡ 0).
    let one : bit_at 1 i ≡ 1 = rw zero_place refl in
    let low : bit_at first i < 2 = bit_at-lt first i in
    let m : max (bit_at first i) (bit_at 1 i) ≡ 1 = omega arith in
    whole ∙ m ∙ grind (arith, nat_tests))
    (λ (other : i ≡ 0 → ⊥).
    let none : bit_at 1 i ≡ 0 = bit_at-pow_other 0 i other in
    let m : max (bit_at first i) (bit_at 1 i) ≡ x = omega arith in
    whole ∙ m ∙ grind (arith, nat_tests))
    (cases_eq i 0))
    (λ (h : 32 ≤ i).
    let apart : i / 32 ≡ 0 → ⊥ = λ z. omega arith in
    ap (λ (n : ℕ). bit_at n (i % 32)) (get_or-set_other words 0 (i / 32) (bit_or first 1) 0 apart) ∙ e ∙ grind (arith, nat_tests))
    (cases_lt i 32)

-- Words of history: their bits as a list, and the numbers that they spell.
use Rattle.std.proofs.Common.{◌≡◌, ℕ, zero, suc, ◌+◌, ◌-◌, ◌*◌, ◌/◌, ◌%◌, ◌^◌, ◌<◌, ◌≤◌, ◌==◌, List, [], ◌∷◌, length, take, drop, map, replicate, Bool, true, false, ◌&&◌, nat_lt, if◌then◌else◌, refl, sym, ap, ◌∙◌, subst, arith, slice_index, slice_index_or, slice_set, ⊎_elim}
use Rattle.std.specs.Int.{bit_at, w32}
use Rattle.std.specs.List.{flat_map, range_with_len, list_all}
use Rattle.std.specs.Int.Count.{count_trailing_zeros}
use Rattle.std.proofs.lemmas.Bool.{cases_lt, cases_eq, cond_below, cond_above}
use Rattle.std.proofs.lemmas.Bool.Decides.{nat_tests}
use Rattle.std.proofs.lemmas.List.{get_or-set_same, get_or-set_other, get_or-replicate, get_or_past, length-replicate, get_or-take, get_or-drop, length-take, length-drop, ext_get_or, get_or_append_left, get_or-append_right}
use Rattle.std.proofs.lemmas.List.FromFn.{length-map-range_with_len, get_or-map-range_with_len}
use Rattle.std.proofs.lemmas.Nat.Bits.{bit_at-zero, bit_at_lowest, bit_at-suc, bit_at-trailing_zeros, same_from_bits_below}
use Rattle.protocol_model.specs.Bits.{digits, number_of, fixed_bits}
use Rattle.protocol_laws.proofs.Digits.{length-digits}
use Rattle.protocol_laws.proofs.Reading.{number_of_below}
use Rattle.ack_book.specs.History.{bit_in}
use Rattle.ack_book.proofs.Words.{bit_in_word}

-- one more word is kept
pub kept_step : (kept words : List ℕ) (w k : ℕ) → length kept ≡ 8 → w < 8
    → slice_index kept k ≡ (if nat_lt k w then slice_index words k else 0)
    → slice_index (slice_set kept w (slice_index_or words w 0)) k ≡ (if nat_lt k (w + 1) then slice_index words k else 0)
kept_step kept words w k len within before =
    ⊎_elim
    (λ (e : k ≡ w).
    (rw e (get_or-set_same kept w (slice_index words w) 0 (omega arith)) ∙ ap (slice_index words) (sym e))
    ∙ cond_below k (w + 1) (slice_index words k) 0 (omega arith))
    (λ (n : k ≡ w → ⊥). get_or-set_other kept w k (slice_index words w) 0 n ∙ before ∙ wider k w (slice_index words k) n)
    (cases_eq k w)
  where
    wider : (a b x : ℕ) → (a ≡ b → ⊥) → (if nat_lt a b then x else 0) ≡ (if nat_lt a (b + 1) then x else 0)
    wider a b x n = grind (arith, nat_tests)

pub kept_fits : (kept : List ℕ) (w k x : ℕ) → length kept ≡ 8 → w < 8 → x < 2 ^ 32 → slice_index kept k < 2 ^ 32
    → slice_index (slice_set kept w x) k < 2 ^ 32
kept_fits kept w k x len within fits before =
    ⊎_elim
    (λ (e : k ≡ w). let at : slice_index (slice_set kept w x) k ≡ x = rw e (get_or-set_same kept w x 0 (omega arith)) in omega arith)
    (λ (n : k ≡ w → ⊥). let at : slice_index (slice_set kept w x) k ≡ slice_index kept k = get_or-set_other kept w k x 0 n in omega arith)
    (cases_eq k w)

-- the lowest bit that is set, in the first word that isn't 0
pub first_bit : (words : List ℕ) (w : ℕ) → w < 8 → 0 < slice_index words w → slice_index words w < 2 ^ 32
    → ((k : ℕ) → k < w → slice_index words k ≡ 0)
    → (w * 32 + count_trailing_zeros 32 (slice_index words w) < 256)
    × (bit_in words (w * 32 + count_trailing_zeros 32 (slice_index words w)) ≡ 1)
    × ((j : ℕ) → j < w * 32 + count_trailing_zeros 32 (slice_index words w) → bit_in words j ≡ 0)
first_bit words w within some fits zeros =
    let x : ℕ = slice_index words w in
    let t : ℕ = count_trailing_zeros 32 x in
    let bits = bit_at-trailing_zeros w32 x some fits in
    let low : t < 32 = bits.0 in (
      omega arith,
      bit_in_word words w t (w * 32 + t) low (omega arith) ∙ bits.1,
      λ j h. ⊎_elim
          (λ (under : j < 32 * w). ap (λ (n : ℕ). bit_at n (j % 32)) (zeros (j / 32) (omega arith)) ∙ bit_at-zero (j % 32))
          (λ (over : 32 * w ≤ j). bit_in_word words w (j - 32 * w) j (omega arith) (omega arith) ∙ bits.2 (j - 32 * w) (omega arith))
          (cases_lt j (32 * w)),
    )

-- ---- the list of bits

digit_at : (k n i : ℕ) → i < k → slice_index_or (digits k n) i false ≡ (bit_at n i == 1)
unfolding digits
digit_at zero n i h = absurd (omega arith)
digit_at (suc k) n zero h = ap (λ (m : ℕ). m == 1) (sym (bit_at_lowest n))
digit_at (suc k) n (suc i) h = digit_at k (n / 2) i (omega arith) ∙ ap (λ (m : ℕ). m == 1) (sym (bit_at-suc n i))

-- a bit of the words is a bit of the list
pub bit_of_words : (ws : List ℕ) (i : ℕ) → slice_index_or (flat_map (λ word. fixed_bits 32 word) ws) i false ≡ (bit_in ws i == 1)
bit_of_words [] i = ap (λ (m : ℕ). m == 1) (sym (bit_at-zero (i % 32)))
bit_of_words (w ∷ ws) i =
    let rest : List Bool = flat_map (λ word. fixed_bits 32 word) ws in
    ⊎_elim
    (λ (h : i < 32).
    get_or_append_left (digits 32 w) rest false i (omega (arith, length-digits 32 w)) ∙ digit_at 32 w i h
    ∙ ap (λ (m : ℕ). m == 1) (sym (bit_in_word (w ∷ ws) 0 i i h (omega arith))))
    (λ (h : 32 ≤ i).
    let k : ℕ = (i - 32) / 32 in
    let m : ℕ = (i - 32) % 32 in
    let low : m < 32 = omega arith in
    get_or-append_right (digits 32 w) rest 32 i false (length-digits 32 w) h ∙ bit_of_words ws (i - 32)
    ∙ ap (λ (b : ℕ). b == 1) (bit_in_word ws k m (i - 32) low (omega arith) ∙ sym (bit_in_word (w ∷ ws) (suc k) m i low (omega arith))))
    (cases_lt i 32)

pub zero_at : (n i : ℕ) → slice_index (replicate n 0) i ≡ 0
zero_at n i =
    ⊎_elim (λ (h : i < n). get_or-replicate n i 0 0 h) (λ (h : n ≤ i). get_or_past (replicate n 0) i 0 (omega (arith, length-replicate {A = ℕ} n 0))) (cases_lt i n)

-- words past the count that are 0 have no bits
pub bit_taken_first : (words : List ℕ) (count i : ℕ) → drop count words ≡ replicate (8 - count) 0
    → bit_in (take count words) i ≡ bit_in words i
bit_taken_first words count i zeros =
    ap (λ (n : ℕ). bit_at n (i % 32)) (same (i / 32))
  where
    same : (k : ℕ) → slice_index (take count words) k ≡ slice_index words k
    same k =
        ⊎_elim (λ (h : k < count). get_or-take count words k 0 h)
        (λ (h : count ≤ k).
        let place : count + (k - count) ≡ k = omega arith in
        get_or_past (take count words) k 0 (omega (arith, length-take count words))
        ∙ sym (zero_at (8 - count) (k - count)) ∙ ap (λ (xs : List ℕ). slice_index xs (k - count)) (sym zeros)
        ∙ get_or-drop count words (k - count) 0 ∙ ap (slice_index words) place)
        (cases_lt k count)

-- ---- the number that bits spell

bit_of_number : (bits : List Bool) (i : ℕ) → bit_at (number_of bits) i ≡ (if slice_index_or bits i false then 1 else 0)
bit_of_number [] i = bit_at-zero i
bit_of_number (true ∷ bits) zero = bit_at_lowest (1 + 2 * number_of bits) ∙ omega arith
bit_of_number (false ∷ bits) zero = bit_at_lowest (0 + 2 * number_of bits) ∙ omega arith
bit_of_number (true ∷ bits) (suc i) =
    let half : (1 + 2 * number_of bits) / 2 ≡ number_of bits = omega arith in
    bit_at-suc (1 + 2 * number_of bits) i ∙ ap (λ (n : ℕ). bit_at n i) half ∙ bit_of_number bits i
bit_of_number (false ∷ bits) (suc i) =
    let half : (0 + 2 * number_of bits) / 2 ≡ number_of bits = omega arith in
    bit_at-suc (0 + 2 * number_of bits) i ∙ ap (λ (n : ℕ). bit_at n i) half ∙ bit_of_number bits i

-- a number is spelled by its bits
pub spelled_by : (k x : ℕ) (f : ℕ → Bool) → x < 2 ^ k → ((i : ℕ) → i < k → bit_at x i ≡ (if f i then 1 else 0))
    → x ≡ number_of (map f (range_with_len 0 k))
spelled_by k x f fits bits =
    let below : number_of (map f (range_with_len 0 k)) < 2 ^ k =
    subst (λ (n : ℕ). number_of (map f (range_with_len 0 k)) < 2 ^ n) (length-map-range_with_len f 0 k) (number_of_below (map f (range_with_len 0 k))) in
    same_from_bits_below k x (number_of (map f (range_with_len 0 k))) fits below
    (λ i h. bits i h ∙ ap (λ (b : Bool). if b then 1 else 0) (sym (get_or-map-range_with_len f 0 k i i false h (omega arith)))
    ∙ sym (bit_of_number (map f (range_with_len 0 k)) i))

-- each word fits
pub all_fit : (ws : List ℕ) → ((k : ℕ) → slice_index ws k < 2 ^ 32) → list_all (λ word. nat_lt word (2 ^ 32)) ws ≡ true
all_fit [] h = refl
all_fit (w ∷ ws) h = both (nat_lt w (2 ^ 32)) _ (test w (h 0)) (all_fit ws (λ k. h (suc k)))
  where
    test : (x : ℕ) → x < 2 ^ 32 → nat_lt x (2 ^ 32) ≡ true
    test x g = grind (arith, nat_tests)

    both : (a b : Bool) → a ≡ true → b ≡ true → (a && b) ≡ true
    both a b p q = grind arith

pub taken_fit : (ws : List ℕ) (count : ℕ) → ((k : ℕ) → slice_index ws k < 2 ^ 32) → (k : ℕ) → slice_index (take count ws) k < 2 ^ 32
taken_fit ws count h k =
    ⊎_elim (λ (g : k < count). let e : slice_index (take count ws) k ≡ slice_index ws k = get_or-take count ws k 0 g in omega (arith, h k))
    (λ (g : count ≤ k). let e : slice_index (take count ws) k ≡ 0 = get_or_past (take count ws) k 0 (short ws count k g) in omega arith)
    (cases_lt k count)
  where
    short : (xs : List ℕ) (n m : ℕ) → n ≤ m → length (take n xs) ≤ m
    short xs n m g = omega (arith, length-take n xs)

-- nothing stands past the first words
pub rest_of_kept : (kept words : List ℕ) (count : ℕ) → length kept ≡ 8 → count ≤ 8
    → ((k : ℕ) → k < 8 → slice_index kept k ≡ (if nat_lt k count then slice_index words k else 0))
    → drop count kept ≡ replicate (8 - count) 0
rest_of_kept kept words count len most each =
    let long : length (drop count kept) ≡ 8 - count = length-drop count kept ∙ ap (λ (n : ℕ). n - count) len in
    ext_get_or 0 (drop count kept) (replicate (8 - count) 0) (long ∙ sym (length-replicate {A = ℕ} (8 - count) 0))
    (λ i low. get_or-drop count kept i 0 ∙ each (count + i) (omega arith)
    ∙ sym (cond_above (count + i) count (slice_index words (count + i)) 0 0 (omega arith) refl) ∙ sym (zero_at (8 - count) i))

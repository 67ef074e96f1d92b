-- Sets of indexes in words of 64 bits.
use Rattle.std.proofs.Common.{◌≡◌, ℕ, zero, suc, replicate, ◌+◌, ◌-◌, ◌*◌, ◌/◌, ◌%◌, ◌^◌, ◌<◌, ◌≤◌, ◌==◌, max, List, length, Bool, true, false, not, if◌then◌else◌, refl, sym, ap, ◌∙◌, arith, slice_index, slice_index_or, slice_set, bit_or, ⊎_elim, w64}
use Rattle.std.specs.Int.{bit_at, trailing_zeros, bit_not}
use Rattle.std.proofs.lemmas.Bool.{cases_lt, cases_eq}
use Rattle.std.proofs.lemmas.Bool.Decides.{nat_tests}
use Rattle.std.proofs.lemmas.List.{get_or_read, get_or_past, get_or-set_same, get_or-set_other}
use Rattle.std.proofs.lemmas.Nat.{or_lt}
use Rattle.std.proofs.Math.Nat.{div-le_self}
use Rattle.std.proofs.lemmas.Nat.Bits.{bit_at-zero, bit_at_ones, bit_at-trailing_zeros, bit_at_above, bit_at_or, bit_at_not, bit_at-lt, bit_at-pow_same, bit_at-pow_other}
use Rattle.reliable_window.specs.Bits.{bit_in}
use Rattle.reliable_window.proofs.Words.{bit_in_word, written, moved_bit, fits_word}
use Rattle.outgoing_channels.specs.Indexes.{AreFilled, HaveGaps}

-- a word is written with one bit changed, which the bits of the set follow
pub bit_written : (words : List ℕ) (place i before word x : ℕ) → place / 64 < length words
    → before ≡ slice_index words (place / 64)
    → bit_at word (place % 64) ≡ x
    → ((m : ℕ) → m < 64 → (m ≡ place % 64 → ⊥) → bit_at word m ≡ bit_at before m)
    → bit_in (slice_set words (place / 64) word) i ≡ (if i == place then x else bit_in words i)
bit_written words place i before word x within is here others =
    written words place i word x within here (λ m h o. others m h o ∙ ap (λ (n : ℕ). bit_at n m) is)

-- ---- the next one

-- the bits of the word of a place from it on
at_first : (words : List ℕ) (from j : ℕ) → from % 64 + j < 64
    → bit_in words (from + j) ≡ bit_at (slice_index words (from / 64) / 2 ^ (from % 64)) j
at_first words from j h =
    bit_in_word words (from / 64) (from % 64 + j) (from + j) h (omega arith)
    ∙ sym (moved_bit (slice_index words (from / 64)) (from % 64) j)

pub found_first : (words : List ℕ) (count from word : ℕ) → from < 64 * count → word ≡ slice_index words (from / 64)
    → 0 < word / 2 ^ (from % 64) → word < 2 ^ 64
    → (from ≤ from + trailing_zeros w64 (word / 2 ^ (from % 64)))
    × (from + trailing_zeros w64 (word / 2 ^ (from % 64)) < 64 * count)
    × (bit_in words (from + trailing_zeros w64 (word / 2 ^ (from % 64))) ≡ 1)
    × ((j : ℕ) → from ≤ j → j < from + trailing_zeros w64 (word / 2 ^ (from % 64)) → bit_in words j ≡ 0)
found_first words count from word low is some fits =
    let b : ℕ = from % 64 in
    let rest : ℕ = word / 2 ^ b in
    let tz : ℕ = trailing_zeros w64 rest in
    let least : rest ≤ word = div-le_self word (2 ^ b) in
    let found : (tz < 64) × (bit_at rest tz ≡ 1) × ((i : ℕ) → i < tz → bit_at rest i ≡ 0) =
    bit_at-trailing_zeros w64 rest some (omega arith) in
    let short : b + tz < 64 =
    fits_word (bit_at rest tz) (b + tz) found.1 (λ h. moved_bit word b tz ∙ bit_at_above word 64 (b + tz) fits h) in
    let here : (j : ℕ) → b + j < 64 → bit_in words (from + j) ≡ bit_at rest j = λ j h. at_first words from j h ∙ ap (λ (x : ℕ). bit_at (x / 2 ^ b) j) (sym is) in (
      omega arith,
      omega arith,
      here tz short ∙ found.1,
      λ j lo hi. (let e : from + (j - from) ≡ j = omega arith in ap (bit_in words) (sym e) ∙ here (j - from) (omega arith) ∙ found.2 (j - from) (omega arith)),
    )

pub none_first : (words : List ℕ) (from word j : ℕ) → word ≡ slice_index words (from / 64) → word / 2 ^ (from % 64) ≡ 0
    → from ≤ j → j < 64 * (from / 64 + 1) → bit_in words j ≡ 0
none_first words from word j is none lo hi =
    let e : from + (j - from) ≡ j = omega arith in
    ap (bit_in words) (sym e) ∙ at_first words from (j - from) (omega arith)
    ∙ ap (λ (x : ℕ). bit_at (x / 2 ^ (from % 64)) (j - from)) (sym is)
    ∙ ap (λ (x : ℕ). bit_at x (j - from)) none ∙ bit_at-zero (j - from)

pub found_later : (words : List ℕ) (count from k word : ℕ) → from < 64 * k → k < count → word ≡ slice_index words k
    → 0 < word → word < 2 ^ 64
    → ((j : ℕ) → from ≤ j → j < 64 * k → bit_in words j ≡ 0)
    → (from ≤ 64 * k + trailing_zeros w64 word) × (64 * k + trailing_zeros w64 word < 64 * count)
    × (bit_in words (64 * k + trailing_zeros w64 word) ≡ 1)
    × ((j : ℕ) → from ≤ j → j < 64 * k + trailing_zeros w64 word → bit_in words j ≡ 0)
found_later words count from k word low most is some fits before =
    let tz : ℕ = trailing_zeros w64 word in
    let found : (tz < 64) × (bit_at word tz ≡ 1) × ((i : ℕ) → i < tz → bit_at word i ≡ 0) = bit_at-trailing_zeros w64 word some fits in
    let here : (j : ℕ) → j < 64 → bit_in words (64 * k + j) ≡ bit_at word j = λ j h. bit_in_word words k j (64 * k + j) h refl ∙ ap (λ (x : ℕ). bit_at x j) (sym is) in (
      omega arith,
      omega (arith, found.0),
      here tz found.0 ∙ found.1,
      λ j lo hi. ⊎_elim
          (λ (h : j < 64 * k). before j lo h)
          (λ (h : 64 * k ≤ j).
          let e : 64 * k + (j - 64 * k) ≡ j = omega arith in
          ap (bit_in words) (sym e) ∙ here (j - 64 * k) (omega (arith, found.0)) ∙ found.2 (j - 64 * k) (omega arith))
          (cases_lt j (64 * k)),
    )

-- ---- the least outside

-- index 0 counts as taken
abbrev pub skips : ℕ → ℕ → Type 0
skips k s = s ≡ (if k == 0 then 1 else 0)

skip_zero : (k s : ℕ) → skips k s → k ≡ 0 → s ≡ 1
skip_zero k s e z = grind (arith, nat_tests)

skip_more : (k s : ℕ) → skips k s → (k ≡ 0 → ⊥) → s ≡ 0
skip_more k s e z = grind (arith, nat_tests)

skip_bit : (k s i : ℕ) → skips k s → 1 ≤ 64 * k + i → bit_at s i ≡ 0
skip_bit k s i e some = ⊎_elim
    (λ (z : k ≡ 0). ap (λ (x : ℕ). bit_at x i) (skip_zero k s e z) ∙ bit_at-pow_other 0 i (λ q. absurd (omega arith)))
    (λ (z : k ≡ 0 → ⊥). ap (λ (x : ℕ). bit_at x i) (skip_more k s e z) ∙ bit_at-zero i)
    (cases_eq k 0)

skip_fits : (k s : ℕ) → skips k s → s < 2 ^ 64
skip_fits k s e = ⊎_elim
    (λ (z : k ≡ 0). omega (arith, skip_zero k s e z))
    (λ (z : k ≡ 0 → ⊥). omega (arith, skip_more k s e z))
    (cases_eq k 0)

-- a bit that neither has
free_bit : (x y z w i : ℕ) → w ≡ bit_or (bit_or x y) z → w < 2 ^ 64 → i < 64
    → bit_at (bit_not w64 w) i ≡ 1 - max (max (bit_at x i) (bit_at y i)) (bit_at z i)
free_bit x y z w i e fits h =
    bit_at_not w64 w i fits h
    ∙ ap (λ (b : ℕ). 1 - b) (ap (λ (n : ℕ). bit_at n i) e ∙ bit_at_or (bit_or x y) z i ∙ ap (λ (b : ℕ). max b (bit_at z i)) (bit_at_or x y i))

or_fits : (x y z : ℕ) → x < 2 ^ 64 → y < 2 ^ 64 → z < 2 ^ 64 → bit_or (bit_or x y) z < 2 ^ 64
or_fits x y z a b c = or_lt 64 (bit_or x y) z (or_lt 64 x y a b) c

-- the index is the least from 1 on that neither set has
abbrev pub IsOutside : (one other : List ℕ) → ℕ → Type 0
IsOutside one other d =
    (1 ≤ d) × (d < 32768) × (bit_in one d ≡ 0) × (bit_in other d ≡ 0)
    × ((j : ℕ) → 1 ≤ j → j < d → bit_in one j ≡ 0 → bit_in other j ≡ 1)

pub outside_found : (one other : List ℕ) (k s x y : ℕ) → skips k s → k < 512 → x ≡ slice_index one k
    → y ≡ slice_index other k
    → x < 2 ^ 64 → y < 2 ^ 64 → 0 < bit_not w64 (bit_or (bit_or x y) s)
    → ((j : ℕ) → 1 ≤ j → j < 64 * k → bit_in one j ≡ 0 → bit_in other j ≡ 1)
    → IsOutside one other (64 * k + trailing_zeros w64 (bit_not w64 (bit_or (bit_or x y) s)))
outside_found one other k s x y sk most is js fx fy some before =
    let free : ℕ = bit_not w64 (bit_or (bit_or x y) s) in
    let all : bit_or (bit_or x y) s < 2 ^ 64 = or_fits x y s fx fy (skip_fits k s sk) in
    let tz : ℕ = trailing_zeros w64 free in
    let found : (tz < 64) × (bit_at free tz ≡ 1) × ((i : ℕ) → i < tz → bit_at free i ≡ 0) = bit_at-trailing_zeros w64 free some (omega arith) in
    let in_one : (j : ℕ) → j < 64 → bit_in one (64 * k + j) ≡ bit_at x j = λ j h. bit_in_word one k j (64 * k + j) h refl ∙ ap (λ (n : ℕ). bit_at n j) (sym is) in
    let in_other : (j : ℕ) → j < 64 → bit_in other (64 * k + j) ≡ bit_at y j = λ j h. bit_in_word other k j (64 * k + j) h refl ∙ ap (λ (n : ℕ). bit_at n j) (sym js) in
    let here : bit_at free tz ≡ 1 - max (max (bit_at x tz) (bit_at y tz)) (bit_at s tz) = free_bit x y s _ tz refl all found.0 in (
      ⊎_elim (λ (z : 64 * k + tz < 1).
          let kz : k ≡ 0 = omega arith in
          let one_bit : bit_at s tz ≡ 1 = (let t : tz ≡ 0 = omega arith in rw t (ap (λ (n : ℕ). bit_at n 0) (skip_zero k s sk kz) ∙ bit_at-pow_same 0)) in
          absurd (omega (arith, here, found.1, one_bit)))
          (λ (h : 1 ≤ 64 * k + tz). h) (cases_lt (64 * k + tz) 1),
      omega (arith, found.0),
      in_one tz found.0 ∙ omega (arith, here, found.1),
      in_other tz found.0 ∙ omega (arith, here, found.1),
      λ j lo hi out. ⊎_elim
          (λ (h : j < 64 * k). before j lo h out)
          (λ (h : 64 * k ≤ j).
          let i : ℕ = j - 64 * k in
          let e : 64 * k + i ≡ j = omega arith in
          let low : i < tz = omega arith in
          let within : i < 64 = omega (arith, found.0) in
          let taken : bit_at free i ≡ 1 - max (max (bit_at x i) (bit_at y i)) (bit_at s i) = free_bit x y s _ i refl all within in
          let none : bit_at x i ≡ 0 = sym (in_one i within) ∙ ap (bit_in one) e ∙ out in
          ap (bit_in other) (sym e) ∙ in_other i within
          ∙ omega (arith, taken, found.2 i low, none, skip_bit k s i sk (omega arith), bit_at-lt y i))
          (cases_lt j (64 * k)),
    )

pub outside_none : (one other : List ℕ) (k s x y : ℕ) → skips k s → x ≡ slice_index one k → y ≡ slice_index other k
    → x < 2 ^ 64 → y < 2 ^ 64 → bit_not w64 (bit_or (bit_or x y) s) ≡ 0
    → ((j : ℕ) → 1 ≤ j → j < 64 * k → bit_in one j ≡ 0 → bit_in other j ≡ 1)
    → (j : ℕ) → 1 ≤ j → j < 64 * (k + 1) → bit_in one j ≡ 0 → bit_in other j ≡ 1
outside_none one other k s x y sk is js fx fy none before j lo hi out = ⊎_elim
    (λ (h : j < 64 * k). before j lo h out)
    (λ (h : 64 * k ≤ j).
    let i : ℕ = j - 64 * k in
    let e : 64 * k + i ≡ j = omega arith in
    let within : i < 64 = omega arith in
    let all : bit_or (bit_or x y) s < 2 ^ 64 = or_fits x y s fx fy (skip_fits k s sk) in
    let taken : bit_at (bit_not w64 (bit_or (bit_or x y) s)) i ≡ 1 - max (max (bit_at x i) (bit_at y i)) (bit_at s i) = free_bit x y s _ i refl all within in
    let empty : bit_at (bit_not w64 (bit_or (bit_or x y) s)) i ≡ 0 = ap (λ (n : ℕ). bit_at n i) none ∙ bit_at-zero i in
    let gone : bit_at x i ≡ 0 = ap (λ (n : ℕ). bit_at n i) is ∙ sym (bit_in_word one k i (64 * k + i) within refl) ∙ ap (bit_in one) e ∙ out in
    ap (bit_in other) (sym e) ∙ bit_in_word other k i (64 * k + i) within refl ∙ ap (λ (n : ℕ). bit_at n i) (sym js)
    ∙ omega (arith, taken, empty, gone, skip_bit k s i sk (omega arith), bit_at-lt y i))
    (cases_lt j (64 * k))

-- ---- words that are all alike

same_words : (n word k : ℕ) → k < n → slice_index (replicate n word) k ≡ word
same_words zero word k h = absurd (omega arith)
same_words (suc n) word zero h = refl
same_words (suc n) word (suc k) h = same_words n word k (omega arith)

zeros : (n k : ℕ) → slice_index (replicate n 0) k ≡ 0
zeros zero k = refl
zeros (suc n) zero = refl
zeros (suc n) (suc k) = zeros n k

pub none_in : (n i : ℕ) → bit_in (replicate n 0) i ≡ 0
none_in n i = ap (λ (x : ℕ). bit_at x (i % 64)) (zeros n (i / 64)) ∙ bit_at-zero (i % 64)

all_in : (n i : ℕ) → i < 64 * n → bit_in (replicate n (2 ^ 64 - 1)) i ≡ 1
all_in n i h =
    ap (λ (x : ℕ). bit_at x (i % 64)) (same_words n (2 ^ 64 - 1) (i / 64) (omega arith))
    ∙ bit_at_ones 64 (i % 64) (omega arith)

-- ---- words that aren't empty, and words that aren't full

if_zero : (word x : ℕ) → word ≡ 0 → x ≡ 0 → x ≡ (if word == 0 then 0 else 1)
if_zero word x e h = grind (arith, nat_tests)

if_short : (word x : ℕ) → word ≡ 0 → x ≡ 1 → x ≡ (if word == 2 ^ 64 - 1 then 0 else 1)
if_short word x e h = grind (arith, nat_tests)

pub none_filled : (words : List ℕ) → words ≡ replicate 512 0 → AreFilled words (replicate 8 0)
none_filled words e =
    λ k h. if_zero (slice_index words k) (bit_in (replicate 8 0) k) (ap (λ xs. slice_index xs k) e ∙ zeros 512 k) (none_in 8 k)

pub all_gaps : (words : List ℕ) → words ≡ replicate 512 0 → HaveGaps words (replicate 8 (2 ^ 64 - 1))
all_gaps words e =
    λ k h. if_short (slice_index words k) (bit_in (replicate 8 (2 ^ 64 - 1)) k) (ap (λ xs. slice_index xs k) e ∙ zeros 512 k) (all_in 8 k h)

pub if_not : (b : Bool) → ◌≡◌ {A = ℕ} (if not b then 1 else 0) (if b then 0 else 1)
if_not true = refl
if_not false = refl

told : (word value x : ℕ) → x ≡ (if word == value then 0 else 1) → x ≡ 0 → word ≡ value
told word value x e h = grind (arith, nat_tests)

told_other : (word value x : ℕ) → x ≡ (if word == value then 0 else 1) → x ≡ 1 → word ≡ value → ⊥
told_other word value x e h q = grind (arith, nat_tests)

-- a bit that follows one written word
pub follows : (words bits : List ℕ) (place before word value x : ℕ) → place < 512 → length words ≡ 512 → length bits ≡ 8
    → ((k : ℕ) → k < 512 → bit_in bits k ≡ (if slice_index words k == value then 0 else 1))
    → before ≡ slice_index bits (place / 64)
    → bit_at x (place % 64) ≡ (if word == value then 0 else 1)
    → ((m : ℕ) → m < 64 → (m ≡ place % 64 → ⊥) → bit_at x m ≡ bit_at before m)
    → (k : ℕ) → k < 512 → bit_in (slice_set bits (place / 64) x) k ≡ (if slice_index (slice_set words place word) k == value then 0 else 1)
follows words bits place before word value x low long short was is here others k h =
    bit_written bits place k before x (if word == value then 0 else 1) (omega (arith, short)) is here others
    ∙ ⊎_elim
    (λ (e : k ≡ place). this k e ∙ ap (λ (n : ℕ). if n == value then 0 else 1) (sym (ap (λ (i : ℕ). slice_index (slice_set words place word) i) e ∙ get_or-set_same words place word 0 (omega (arith, long)))))
    (λ (ne : k ≡ place → ⊥). other k ne ∙ was k h ∙ ap (λ (n : ℕ). if n == value then 0 else 1) (sym (get_or-set_other words place k word 0 ne)))
    (cases_eq k place)
  where
    this : (k : ℕ) → k ≡ place
        → (if k == place then (if word == value then 0 else 1) else bit_in bits k) ≡ (if word == value then 0 else 1)
    this k e = pick k e (if word == value then 0 else 1) (bit_in bits k)
      where
        pick : (k : ℕ) → k ≡ place → (a b : ℕ) → (if k == place then a else b) ≡ a
        pick k e a b = grind (arith, nat_tests)

    other : (k : ℕ) → (k ≡ place → ⊥)
        → (if k == place then (if word == value then 0 else 1) else bit_in bits k) ≡ bit_in bits k
    other k ne = pick k ne (if word == value then 0 else 1) (bit_in bits k)
      where
        pick : (k : ℕ) → (k ≡ place → ⊥) → (a b : ℕ) → (if k == place then a else b) ≡ b
        pick k ne a b = grind (arith, nat_tests)

-- no index stands in a word that isn't among those filled
pub unfilled : (words filled : List ℕ) (j : ℕ) → AreFilled words filled → j / 64 < 512 → bit_in filled (j / 64) ≡ 0
    → bit_in words j ≡ 0
unfilled words filled j are h e =
    ap (λ (x : ℕ). bit_at x (j % 64)) (told (slice_index words (j / 64)) 0 (bit_in filled (j / 64)) (are (j / 64) h) e)
    ∙ bit_at-zero (j % 64)

pub is_filled : (words filled : List ℕ) (k word : ℕ) → AreFilled words filled → k < 512 → bit_in filled k ≡ 1
    → word ≡ slice_index words k → 0 < word
is_filled words filled k word are h e is =
    omega (arith, told_other (slice_index words k) 0 (bit_in filled k) (are k h) e)

-- each index stands in a word that isn't among those with gaps
pub gapless : (words gaps : List ℕ) (j : ℕ) → HaveGaps words gaps → j / 64 < 512 → bit_in gaps (j / 64) ≡ 0
    → bit_in words j ≡ 1
gapless words gaps j have h e =
    ap (λ (x : ℕ). bit_at x (j % 64)) (told (slice_index words (j / 64)) (2 ^ 64 - 1) (bit_in gaps (j / 64)) (have (j / 64) h) e)
    ∙ bit_at_ones 64 (j % 64) (omega arith)

-- no index stands past the last word
pub past_words : (words : List ℕ) (j : ℕ) → length words ≤ j / 64 → bit_in words j ≡ 0
past_words words j h = ap (λ (x : ℕ). bit_at x (j % 64)) (get_or_past words (j / 64) 0 h) ∙ bit_at-zero (j % 64)

-- ---- the set by its words

-- a word that was read
pub read_as : (words now : List ℕ) (k word : ℕ) → words ≡ now → length words ≡ 512 → k < 512
    → word ≡ slice_index_or words k word → word ≡ slice_index now k
read_as words now k word e long h is =
    get_or_read words k word (omega (arith, long)) is 0 ∙ ap (λ xs. slice_index xs k) e

-- no index stands from a place up to the next word that has one
pub none_after : (words filled : List ℕ) (from word upto j : ℕ) → length words ≡ 512 → AreFilled words filled
    → word ≡ slice_index words (from / 64) → word / 2 ^ (from % 64) ≡ 0
    → ((k : ℕ) → from / 64 + 1 ≤ k → k < upto → k < 512 → bit_in filled k ≡ 0)
    → from ≤ j → j < 64 * upto → bit_in words j ≡ 0
none_after words filled from word upto j long are is none between lo hi = ⊎_elim
    (λ (h : j < 64 * (from / 64 + 1)). none_first words from word j is none lo h)
    (λ (h : 64 * (from / 64 + 1) ≤ j). ⊎_elim
    (λ (low : j / 64 < 512). unfilled words filled j are low (between (j / 64) (omega arith) (omega arith) low))
    (λ (high : 512 ≤ j / 64). past_words words j (omega (arith, long)))
    (cases_lt (j / 64) 512))
    (cases_lt j (64 * (from / 64 + 1)))

-- what was shown of the words before one holds up to the next word that isn't full
pub full_between : (one other gaps : List ℕ) (at k : ℕ) → HaveGaps other gaps → k ≤ 512
    → ((j : ℕ) → 1 ≤ j → j < 64 * at → bit_in one j ≡ 0 → bit_in other j ≡ 1)
    → ((i : ℕ) → at ≤ i → i < k → bit_in gaps i ≡ 0)
    → (j : ℕ) → 1 ≤ j → j < 64 * k → bit_in one j ≡ 0 → bit_in other j ≡ 1
full_between one other gaps at k have most before none j lo hi out = ⊎_elim
    (λ (h : j < 64 * at). before j lo h out)
    (λ (h : 64 * at ≤ j). gapless other gaps j have (omega arith) (none (j / 64) (omega arith) (omega arith)))
    (cases_lt j (64 * at))

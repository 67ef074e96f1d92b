-- Eight bytes as one number, written and read at once.
use Rattle.std.proofs.Common.{◌≡◌, ℕ, suc, ◌<◌, ◌≤◌, ◌+◌, ◌*◌, ◌^◌, List, [], ◌∷◌, ◌++◌, refl, sym, ap, ◌∙◌, arith, length, take, drop, get_or, append-nil, length-append, length-drop, drop-cons}
use Rattle.std.proofs.lemmas.List.{length-take-le, take-append-drop}
use Rattle.std.proofs.Math.Nat.{lt_of_mul-lt-mul_left}
use Rattle.std.proofs.lemmas.Nat.{pow-add, from_le_bytes-to_le_bytes_8}
use Rattle.std.proofs.Math.ListN.{drop_of_length-le}
use Rattle.std.proofs.Math.Seq.{take-length}
use Rattle.std.specs.Int.{w64, to_le_bytes, from_le_bytes}
use Rattle.protocol_laws.specs.Packed.{number_of_bytes}
use Rattle.protocol_laws.proofs.Digits.{place_up}

-- the first byte of a part, and those behind it
pub next_part : (bs : List ℕ) (i j k : ℕ) → j ≡ i + 1 → i < length bs → number_of_bytes (take (suc k) (drop i bs)) ≡ get_or bs i 0 + 256 * number_of_bytes (take k (drop j bs))
next_part bs i j k e h =
    let up : j ≡ suc i = omega arith in
    rw (up, drop-cons bs i 0) refl

pub no_part : (bs : List ℕ) (i : ℕ) → number_of_bytes (take 0 (drop i bs)) ≡ 0
no_part bs i = refl

pub number_of_bytes-append : (xs ys : List ℕ) → number_of_bytes (xs ++ ys) ≡ number_of_bytes xs + number_of_bytes ys * 2 ^ (8 * length xs)
number_of_bytes-append [] ys = omega arith
number_of_bytes-append (x ∷ xs) ys =
    let up : number_of_bytes ys * 2 ^ (8 * suc (length xs)) ≡ 256 * (number_of_bytes ys * 2 ^ (8 * length xs)) = rw (place_up (length xs)) (omega arith) in
    omega (arith, number_of_bytes-append xs ys, up)

eight_is : (a b c d e f g h : ℕ) → number_of_bytes (a ∷ b ∷ c ∷ d ∷ e ∷ f ∷ g ∷ h ∷ []) ≡ from_le_bytes w64 (a ∷ b ∷ c ∷ d ∷ e ∷ f ∷ g ∷ h ∷ [])
eight_is a b c d e f g h = omega arith

pub number_of_word : (n : ℕ) → n < 2 ^ 64 → number_of_bytes (to_le_bytes w64 n) ≡ n
number_of_word n h = eight_is _ _ _ _ _ _ _ _ ∙ from_le_bytes-to_le_bytes_8 n h

-- bytes in three parts, of which the second has eight
pub in_three : (front mid back : List ℕ) (first : ℕ) → length front ≡ first → length mid ≡ 8
    → number_of_bytes (front ++ (mid ++ back)) ≡ number_of_bytes front + (number_of_bytes mid + number_of_bytes back * 2 ^ 64) * 2 ^ (8 * first)
in_three front mid back first f m =
    let inner : number_of_bytes (mid ++ back) ≡ number_of_bytes mid + number_of_bytes back * 2 ^ 64 = number_of_bytes-append mid back ∙ rw m refl in
    number_of_bytes-append front (mid ++ back) ∙ rw (inner, f) refl

parts_of : (items : List ℕ) (first : ℕ) → items ≡ take first items ++ (take 8 (drop first items) ++ drop 8 (drop first items))
parts_of items first = sym (ap (λ xs. take first items ++ xs) (take-append-drop 8 (drop first items)) ∙ take-append-drop first items)

whole_number : (items : List ℕ) (first : ℕ) → first + 8 ≤ length items
    → number_of_bytes items ≡ number_of_bytes (take first items) + (number_of_bytes (take 8 (drop first items)) + number_of_bytes (drop 8 (drop first items)) * 2 ^ 64) * 2 ^ (8 * first)
whole_number items first h =
    ap number_of_bytes (parts_of items first)
    ∙ in_three (take first items) (take 8 (drop first items)) (drop 8 (drop first items)) first
    (length-take-le first items (omega arith)) (length-take-le 8 (drop first items) (omega (arith, length-drop first items)))

-- the sum fits a word where it fits the bytes
pub sum_fits : (items : List ℕ) (first part word : ℕ) → first + 8 ≤ length items → part ≡ number_of_bytes (take 8 (drop first items))
    → number_of_bytes items + word * 2 ^ (8 * first) < 2 ^ (8 * first + 64) → part + word < 2 ^ 64
sum_fits items first part word h e fits =
    let scale = 2 ^ (8 * first) in
    let top : 2 ^ (8 * first + 64) ≡ scale * 2 ^ 64 = pow-add 2 (8 * first) 64 in
    let whole = whole_number items first h in
    let spread : (part + number_of_bytes (drop 8 (drop first items)) * 2 ^ 64) * scale ≡ scale * part + number_of_bytes (drop 8 (drop first items)) * scale * 2 ^ 64 = omega arith in
    let both : scale * (part + word) ≡ scale * part + word * scale = omega arith in
    lt_of_mul-lt-mul_left scale (omega (arith, top, whole, spread, both, fits, ap (λ m. (m + number_of_bytes (drop 8 (drop first items)) * 2 ^ 64) * scale) e))

put_back_into : (items new : List ℕ) (first : ℕ) → length new ≡ 8 → first + 8 ≤ length items → length (take first items ++ (new ++ drop 8 (drop first items))) ≡ length items
put_back_into items new first n h =
    let back = drop 8 (drop first items) in
    omega (arith, n, length-append (take first items) (new ++ back), length-append new back, length-take-le first items (omega arith), length-drop 8 (drop first items), length-drop first items)

-- what the bytes are after a word was put back
pub put_back : (items held new : List ℕ) (first count len : ℕ) → held ≡ items → count ≡ 8 → length new ≡ 8 → first + 8 ≤ length items → len ≡ length items
    → take len (take first held ++ (new ++ drop count (drop first held)) ++ drop (length (take first held ++ (new ++ drop count (drop first held)))) items)
    ≡ take first items ++ (new ++ drop 8 (drop first items))
put_back items held new first count len e c n h l =
    let all = take first items ++ (new ++ drop 8 (drop first items)) in
    let size : length all ≡ length items = put_back_into items new first n h in
    let none : drop (length all) items ≡ [] = drop_of_length-le items {i = length all} (omega (arith, size)) in
    rw (e, c) (ap (λ xs. take len (all ++ xs)) none ∙ ap (take len) (append-nil all) ∙ ap (λ m. take m all) (l ∙ sym size) ∙ take-length all)

pub word_added : (items new : List ℕ) (first part word sum : ℕ) → first + 8 ≤ length items → part ≡ number_of_bytes (take 8 (drop first items)) → sum ≡ part + word → new ≡ to_le_bytes w64 sum → sum < 2 ^ 64
    → number_of_bytes (take first items ++ (new ++ drop 8 (drop first items))) ≡ number_of_bytes items + word * 2 ^ (8 * first)
word_added items new first part word sum h p s n fits =
    let scale = 2 ^ (8 * first) in
    let back = number_of_bytes (drop 8 (drop first items)) in
    let size : length new ≡ 8 = ap length n in
    let value : number_of_bytes new ≡ part + word = ap number_of_bytes n ∙ number_of_word sum fits ∙ s in
    let whole : number_of_bytes items ≡ number_of_bytes (take first items) + (part + back * 2 ^ 64) * scale = rw p (whole_number items first h) in
    let spread : (part + word + back * 2 ^ 64) * scale ≡ (part + back * 2 ^ 64) * scale + word * scale = omega arith in
    in_three (take first items) new (drop 8 (drop first items)) first (length-take-le first items (omega arith)) size
    ∙ rw value (omega (arith, whole, spread))

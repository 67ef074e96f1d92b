-- The last values, written one by one.
use Rattle.std.proofs.Common.{◌≡◌, ℕ, zero, suc, ◌+◌, ◌<◌, List, [], ◌∷◌, ◌++◌, Some, refl, sym, ap, ◌∙◌, arith, map, take, drop, length, append_assoc, ℤ}
use Rattle.std.specs.Prelude.{slice_get, slice_index_or, slice_set}
use Rattle.std.proofs.lemmas.List.{length-map, length-take-le, map-append, set-get_or, set_split, take_at, drop_at, drop-drop}
use Rattle.value_codec.specs.Values.{whole_of}
use Rattle.value_codec.specs.declared.value.Value.{Value}
use Rattle.shadow_changes.proofs.Putting.{take_next}

-- ---- one number

-- a list with the number that stands there is the list
pub same_set : (last : List ℤ) (i : ℕ) (z x : ℤ) → i < length last → x ≡ slice_index_or last i x → x ≡ z
    → last ≡ take i last ++ z ∷ drop (i + 1) last
same_set last i z x low at is =
    let one : suc i ≡ i + 1 = omega arith in
    sym (set-get_or last i x) ∙ ap (slice_set last i) (sym at ∙ is) ∙ set_split last i z low
    ∙ ap (λ (k : ℕ). take i last ++ z ∷ drop k last) one

pub set_is : (last : List ℤ) (i : ℕ) (z x : ℤ) → i < length last → x ≡ z
    → slice_set last i x ≡ take i last ++ z ∷ drop (i + 1) last
set_is last i z x low is =
    let one : suc i ≡ i + 1 = omega arith in
    ap (slice_set last i) is ∙ set_split last i z low ∙ ap (λ (k : ℕ). take i last ++ z ∷ drop k last) one

-- ---- all of them

-- what is behind the front and one more
drop_front : {X : Type 0} (xs ys : List X) (i : ℕ) → length xs ≡ i → drop (i + 1) (xs ++ drop i ys) ≡ drop (i + 1) ys
drop_front xs ys i e =
    sym (drop-drop 1 i (xs ++ drop i ys)) ∙ ap (drop 1) (drop_at xs (drop i ys) i e) ∙ drop-drop 1 i ys

get_front : {X : Type 0} (xs ys : List X) (i : ℕ) → length xs ≡ i → slice_get (xs ++ ys) i ≡ slice_get ys 0
get_front [] ys zero e = refl
get_front [] ys (suc i) e = absurd (omega arith)
get_front (x ∷ xs) ys zero e = absurd (omega arith)
get_front (x ∷ xs) ys (suc i) e = get_front xs ys i (omega arith)

get_drop : {X : Type 0} (xs : List X) (i : ℕ) → slice_get (drop i xs) 0 ≡ slice_get xs i
get_drop [] zero = refl
get_drop [] (suc i) = refl
get_drop (x ∷ xs) zero = refl
get_drop (x ∷ xs) (suc i) = get_drop xs i

front_length : (values : List Value) (i : ℕ) → i < length values → length (map whole_of (take i values)) ≡ i
front_length values i low = length-map (take i values) whole_of ∙ length-take-le i values (omega arith)

-- behind the values written so far stand the numbers from before
pub get_last : (old last : List ℤ) (values : List Value) (i : ℕ) → i < length values
    → last ≡ map whole_of (take i values) ++ drop i old
    → slice_get last i ≡ slice_get old i
get_last old last values i low e =
    ap (λ (zs : List ℤ). slice_get zs i) e
    ∙ get_front (map whole_of (take i values)) (drop i old) i (front_length values i low) ∙ get_drop old i

pub next_last : (old last : List ℤ) (values : List Value) (i : ℕ) (v : Value) → i < length values
    → last ≡ map whole_of (take i values) ++ drop i old → slice_get values i ≡ Some v
    → take i last ++ whole_of v ∷ drop (i + 1) last ≡ map whole_of (take (i + 1) values) ++ drop (i + 1) old
next_last old last values i v low e get =
    let front : List ℤ = map whole_of (take i values) in
    let len = front_length values i low in
    let now : map whole_of (take (i + 1) values) ≡ front ++ whole_of v ∷ [] =
    ap (map whole_of) (take_next values i v get) ∙ map-append whole_of (take i values) (v ∷ []) in
    ap (λ (zs : List ℤ). take i zs ++ whole_of v ∷ drop (i + 1) zs) e
    ∙ ap (λ (zs : List ℤ). zs ++ whole_of v ∷ drop (i + 1) (front ++ drop i old)) (take_at front (drop i old) i len)
    ∙ ap (λ (zs : List ℤ). front ++ whole_of v ∷ zs) (drop_front front old i len)
    ∙ sym (append_assoc front (whole_of v ∷ []) (drop (i + 1) old))
    ∙ ap (λ (zs : List ℤ). zs ++ drop (i + 1) old) (sym now)

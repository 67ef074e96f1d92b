-- The numbers that a history names.
use Rattle.std.proofs.Common.{◌≡◌, ℕ, zero, suc, ◌+◌, ◌<◌, ◌≤◌, ◌==◌, List, [], ◌∷◌, drop, Bool, true, false, ◌||◌, nat_lt, Option, refl, sym, ap, ◌∙◌, arith, slice_index_or, ⊎_elim, ℤ, pos, negsuc, ◌/◌, ◌+ℤ◌, ◌-ℤ◌, ◌≤ℤ◌, ◌<ℤ◌}
use Rattle.std.specs.Prelude.{int_lt}
use Rattle.std.specs.Int.{int_rem_euclid}
use Rattle.std.specs.Bool.{then_some}
use Rattle.std.specs.List.{filter_map, cons_option, list_any}
use Rattle.std.proofs.lemmas.Int.{ints}
use Rattle.std.proofs.lemmas.Bool.{cases_lt, false≢true}
use Rattle.std.proofs.lemmas.Bool.Decides.{nat_tests}
use Rattle.protocol_model.specs.Bits.{near}
use Rattle.protocol_model.specs.Search.{is_among, greatest_of}
use Rattle.connection_model.specs.Fates.{named_numbers, number_above}
use Rattle.protocol_laws.proofs.Greatest.{greatest_of-cons}
use Rattle.ack_book.proofs.Steps.{none_above}

-- no bit, no number
pub named_none : (bits : List Bool) (a : ℤ) → ((j : ℕ) → slice_index_or bits j false ≡ false) → named_numbers a bits ≡ []
named_none [] a h = refl
named_none (true ∷ bits) a h = absurd (false≢true (sym (h 0)))
named_none (false ∷ bits) a h = named_none bits (a -ℤ pos 1) (λ j. h (suc j))

-- the numbers named are those named from the first bit that is set
pub named_first : (bits : List Bool) (a : ℤ) (i : ℕ) → ((j : ℕ) → j < i → slice_index_or bits j false ≡ false) → slice_index_or bits i false ≡ true
    → named_numbers a bits ≡ named_numbers (a -ℤ pos i) (true ∷ drop (suc i) bits)
named_first [] a i low set = absurd (false≢true set)
named_first (true ∷ bits) a zero low set =
    let same : a ≡ a -ℤ pos 0 = omega (arith, ints) in
    ap (λ (z : ℤ). named_numbers z (true ∷ bits)) same
named_first (false ∷ bits) a zero low set = absurd (false≢true set)
named_first (true ∷ bits) a (suc i) low set = absurd (false≢true (sym (low 0 (omega arith))))
named_first (false ∷ bits) a (suc i) low set =
    let same : a -ℤ pos 1 -ℤ pos i ≡ a -ℤ pos (suc i) = omega (arith, ints) in
    named_first bits (a -ℤ pos 1) i (λ j h. low (suc j) (omega arith)) set
    ∙ ap (λ (z : ℤ). named_numbers z (true ∷ drop (suc i) bits)) same

-- none of those named from a number that isn't above the greatest moved moves
pub named_low : (bits : List Bool) (a : ℤ) (high : ℕ) → a ≤ℤ pos high → filter_map (number_above high) (named_numbers a bits) ≡ []
named_low [] a high h = refl
named_low (true ∷ bits) a high h =
    let rest : List ℕ = filter_map (number_above high) (named_numbers (a -ℤ pos 1) bits) in
    ap (λ (o : Option ℕ). cons_option o rest) (none_above high a h) ∙ named_low bits (a -ℤ pos 1) high (omega (arith, ints))
named_low (false ∷ bits) a high h = named_low bits (a -ℤ pos 1) high (omega (arith, ints))

not_above : (last : ℕ) (z : ℤ) (b : Bool) → z ≤ℤ pos last → b ≡ false → (int_lt (pos last) z || b) ≡ false
not_above last z b h e = grind (arith, ints)

-- none of those named from a number that was sent wasn't sent
pub named_sent : (bits : List Bool) (a : ℤ) (last : ℕ) → a ≤ℤ pos last → list_any (λ n. int_lt (pos last) n) (named_numbers a bits) ≡ false
named_sent [] a last h = refl
named_sent (true ∷ bits) a last h =
    not_above last a _ h (named_sent bits (a -ℤ pos 1) last (omega (arith, ints)))
named_sent (false ∷ bits) a last h = named_sent bits (a -ℤ pos 1) last (omega (arith, ints))

-- and one that wasn't sent is named first
pub named_unsent : (bits : List Bool) (a : ℤ) (last : ℕ) → pos last <ℤ a → list_any (λ n. int_lt (pos last) n) (named_numbers a (true ∷ bits)) ≡ true
named_unsent bits a last h = above last a _ h
  where
    above : (m : ℕ) (z : ℤ) (b : Bool) → pos m <ℤ z → (int_lt (pos m) z || b) ≡ true
    above m z b g = grind (arith, ints)

-- ---- which numbers are moved

then_other : (b : Bool) (n k : ℕ) (rest : List ℕ) → (n ≡ k → ⊥) → is_among k (cons_option (then_some b n) rest) ≡ is_among k rest
then_other true n k rest h = other (is_among k rest)
  where
    other : (b : Bool) → ((n == k) || b) ≡ b
    other b = grind (arith, nat_tests)
then_other false n k rest h = refl

cons_other : (high k : ℕ) (z : ℤ) (rest : List ℕ) → (z ≡ pos k → ⊥) → is_among k (cons_option (number_above high z) rest) ≡ is_among k rest
cons_other high k (pos n) rest h = then_other (nat_lt high n) n k rest (λ e. h (ap pos e))
cons_other high k (negsuc n) rest h = refl

cons_this : (high k : ℕ) (rest : List ℕ) → high < k → is_among k (cons_option (number_above high (pos k)) rest) ≡ true
cons_this high k rest h =
    let test : nat_lt high k ≡ true = grind (arith, nat_tests) in
    ap (λ (b : Bool). is_among k (cons_option (then_some b k) rest)) test ∙ this (is_among k rest)
  where
    this : (b : Bool) → ((k == k) || b) ≡ true
    this b = grind (arith, nat_tests)

among_past : (bits : List Bool) (high k : ℕ) (a : ℤ) → a <ℤ pos k → is_among k (filter_map (number_above high) (named_numbers a bits)) ≡ false
among_past [] high k a h = refl
among_past (true ∷ bits) high k a h =
    cons_other high k a _ (λ e. absurd (omega (arith, ints))) ∙ among_past bits high k (a -ℤ pos 1) (omega (arith, ints))
among_past (false ∷ bits) high k a h = among_past bits high k (a -ℤ pos 1) (omega (arith, ints))

-- a number above the greatest moved is moved where its bit is set
pub among_named : (bits : List Bool) (high k i : ℕ) → high < k
    → is_among k (filter_map (number_above high) (named_numbers (pos (k + i)) bits)) ≡ slice_index_or bits i false
among_named [] high k i h = refl
among_named (true ∷ bits) high k zero h =
    let same : pos (k + 0) ≡ pos k = omega (arith, ints) in
    let rest : ℤ → List ℕ = λ z. filter_map (number_above high) (named_numbers (z -ℤ pos 1) bits) in
    ap (λ (z : ℤ). is_among k (cons_option (number_above high z) (rest z))) same ∙ cons_this high k (rest (pos k)) h
among_named (false ∷ bits) high k zero h = among_past bits high k (pos (k + 0) -ℤ pos 1) (omega (arith, ints))
among_named (true ∷ bits) high k (suc i) h =
    let less : pos (k + suc i) -ℤ pos 1 ≡ pos (k + i) = omega (arith, ints) in
    cons_other high k (pos (k + suc i)) _ (λ e. absurd (omega (arith, ints)))
    ∙ ap (λ (z : ℤ). is_among k (filter_map (number_above high) (named_numbers z bits))) less ∙ among_named bits high k i h
among_named (false ∷ bits) high k (suc i) h =
    let less : pos (k + suc i) -ℤ pos 1 ≡ pos (k + i) = omega (arith, ints) in
    ap (λ (z : ℤ). is_among k (filter_map (number_above high) (named_numbers z bits))) less ∙ among_named bits high k i h

cons_low : (high k : ℕ) (z : ℤ) (rest : List ℕ) → k ≤ high → is_among k (cons_option (number_above high z) rest) ≡ is_among k rest
cons_low high k (pos n) rest h =
    ⊎_elim
    (λ (above : high < n). then_other (nat_lt high n) n k rest (λ e. omega arith))
    (λ (low : n ≤ high).
    let test : nat_lt high n ≡ false = grind (arith, nat_tests) in
    ap (λ (b : Bool). is_among k (cons_option (then_some b n) rest)) test)
    (cases_lt high n)
cons_low high k (negsuc n) rest h = refl

-- no other is
pub among_low : (zs : List ℤ) (high k : ℕ) → k ≤ high → is_among k (filter_map (number_above high) zs) ≡ false
among_low [] high k h = refl
among_low (z ∷ zs) high k h = cons_low high k z _ h ∙ among_low zs high k h

-- ---- the greatest

cons_most : (high m : ℕ) (z : ℤ) (rest : List ℕ) → z ≤ℤ pos m → greatest_of rest ≤ m → greatest_of (cons_option (number_above high z) rest) ≤ m
cons_most high m (pos n) rest h g = then_most (nat_lt high n) (omega (arith, ints))
  where
    then_most : (b : Bool) → n ≤ m → greatest_of (cons_option (then_some b n) rest) ≤ m
    then_most true low = omega (arith, greatest_of-cons n rest)
    then_most false low = g
cons_most high m (negsuc n) rest h g = g

named_most : (bits : List Bool) (a : ℤ) (high m : ℕ) → a ≤ℤ pos m → greatest_of (filter_map (number_above high) (named_numbers a bits)) ≤ m
named_most [] a high m h = omega arith
named_most (true ∷ bits) a high m h = cons_most high m a _ h (named_most bits (a -ℤ pos 1) high m (omega (arith, ints)))
named_most (false ∷ bits) a high m h = named_most bits (a -ℤ pos 1) high m (omega (arith, ints))

-- the greatest that is moved is the one named first
pub named_greatest : (bits : List Bool) (high to : ℕ) → high < to → greatest_of (filter_map (number_above high) (named_numbers (pos to) (true ∷ bits))) ≡ to
named_greatest bits high to h =
    let rest : List ℕ = filter_map (number_above high) (named_numbers (pos to -ℤ pos 1) bits) in
    let test : nat_lt high to ≡ true = grind (arith, nat_tests) in
    ap (λ (b : Bool). greatest_of (cons_option (then_some b to) rest)) test
    ∙ omega (arith, greatest_of-cons to rest, named_most bits (pos to -ℤ pos 1) high to (omega (arith, ints)))

rem_low : (z : ℤ) → pos 0 ≤ℤ int_rem_euclid z (pos 16384)
rem_low (pos n) = omega (arith, ints)
rem_low (negsuc n) = omega (arith, ints)

-- the nearest number isn't far below
pub near_low : (v high : ℕ) → negsuc 8191 ≤ℤ near v (pos high) 16384
near_low v high = omega (arith, ints, rem_low (pos v -ℤ pos high +ℤ pos (16384 / 2)))

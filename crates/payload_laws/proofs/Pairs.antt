-- A value list is read as it was spelled.
use Rattle.std.proofs.Common.{◌≡◌, ℕ, ℤ, zero, suc, ◌<◌, ◌≤◌, ◌+◌, ◌-◌, ◌==◌, List, [], ◌∷◌, ◌++◌, Bool, true, false, ◌&&◌, ◌||◌, cond, nat_lt, nat_le, Ok, refl, ap, ◌∙◌, arith, append_assoc, length}
use Rattle.std.specs.List.{flat_map}
use Rattle.std.proofs.lemmas.Bool.{and_from, lt-ltb, le-leb}
use Rattle.protocol_model.specs.Bits.{packed_bits}
use Rattle.protocol_model.specs.Reading.{◌>>=◌, give}
use Rattle.protocol_model.specs.Value.{Class, Pair, fits, handle_count}
use Rattle.protocol_model.specs.Payload.{value_bits, pair_bits, list_bits, kind_at}
use Rattle.connection_model.specs.PayloadReading.{PayloadReading, field, number_at, value_at, pairs_at, values_at, some_values_at}
use Rattle.payload_laws.specs.Limits.{HasLimits, AreValues}
use Rattle.protocol_laws.proofs.Bounds.{not_zero}
use Rattle.payload_laws.proofs.Fields.{then_read, packed_read, must_read}
use Rattle.payload_laws.proofs.Values.{value_read, kind_is}

-- the value of the handle and the pairs after it
abbrev pub on_handle : Class → (more h : ℕ) → PayloadReading (List Pair)
on_handle class more h = do
  v ← value_at (kind_at class h)
  pairs ← pairs_at class more h
  give (record { handle = h; value = v } ∷ pairs)

regroup : (a b c d r : List Bool) → ((a ++ b) ++ c) ++ d ++ r ≡ a ++ (b ++ (c ++ d ++ r))
regroup a b c d r = simp append_assoc

-- a list of pairs begins with its first handle and value
pub list_is : (class : Class) (p : Pair) (pairs : List Pair) (rest : List Bool) → list_bits class (p ∷ pairs) ++ rest ≡ packed_bits p.handle ++ (value_bits (kind_at class p.handle) p.value ++ (list_bits class pairs ++ rest))
list_is class p pairs rest = regroup (packed_bits p.handle) (value_bits (kind_at class p.handle) p.value) (flat_map (λ p. pair_bits class p) pairs) (packed_bits 0) rest

handle_ok : (h last count : ℕ) → last < h → h ≤ count → (h == 0 || (nat_lt last h && nat_le h count)) ≡ true
handle_ok h last count a b = rw (not_zero h (omega (arith, a)), and_from (nat_lt last h) (nat_le h count) (lt-ltb last h a) (le-leb h count b)) refl

-- the pairs from a handle on, where the value and the pairs behind it are read
handle_on : (class : Class) (more : ℕ) (p : Pair) (pairs : List Pair) (rest : List Bool) → HasLimits class → fits (kind_at class p.handle) p.value ≡ true
    → pairs_at class more p.handle (list_bits class pairs ++ rest) ≡ Ok (pairs, rest)
    → on_handle class more p.handle (value_bits (kind_at class p.handle) p.value ++ (list_bits class pairs ++ rest)) ≡ Ok (p ∷ pairs, rest)
handle_on class more p pairs rest limits f more_read =
    let back : List Bool = list_bits class pairs ++ rest in
    let with_pairs : ℤ → PayloadReading (List Pair) = λ (v : ℤ). (pairs_at class more p.handle >>= (λ pairs. give (record { handle = p.handle; value = v } ∷ pairs))) in
    then_read (value_at (kind_at class p.handle)) with_pairs (value_bits (kind_at class p.handle) p.value ++ back) p.value back (Ok (p ∷ pairs, rest))
    (value_read false (kind_at class p.handle) p.value back (kind_is class p.handle limits) f)
    (then_read (pairs_at class more p.handle) (λ pairs. give (record { handle = p.handle; value = p.value } ∷ pairs)) back pairs rest (Ok (p ∷ pairs, rest)) more_read refl)

-- the pairs above a handle, of which there are at most so many
pairs_read : (class : Class) (more last : ℕ) (pairs : List Pair) (rest : List Bool) → HasLimits class → handle_count class ≤ more + last → AreValues class last pairs
    → pairs_at class more last (list_bits class pairs ++ rest) ≡ Ok (pairs, rest)
pairs_read class zero last [] rest limits m v =
    then_read (field number_at (λ h. h == 0)) (λ _. give []) (packed_bits 0 ++ rest) 0 rest (Ok ([], rest))
    (must_read number_at (λ h. h == 0) _ (packed_bits 0 ++ rest) 0 rest (packed_read _ 0 rest (omega arith)) refl) refl
pairs_read class (suc more) last [] rest limits m v =
    let rule : ℕ → Bool = λ (h : ℕ). (h == 0 || (nat_lt last h && nat_le h (handle_count class))) in
    then_read (field number_at rule) (λ h. cond (h == 0) (give []) (on_handle class more h)) (packed_bits 0 ++ rest) 0 rest (Ok ([], rest))
    (must_read number_at rule _ (packed_bits 0 ++ rest) 0 rest (packed_read _ 0 rest (omega arith)) refl) refl
pairs_read class zero last (p ∷ pairs) rest limits m v =
    let above = v.0 in
    let within = v.1 in
    absurd (omega (arith, m, above, within))
pairs_read class (suc more) last (p ∷ pairs) rest limits m v =
    let above = v.0 in
    let within = v.1 in
    let few = limits.handles in
    let rule : ℕ → Bool = λ (h : ℕ). (h == 0 || (nat_lt last h && nat_le h (handle_count class))) in
    let back : List Bool = value_bits (kind_at class p.handle) p.value ++ (list_bits class pairs ++ rest) in
    let behind = pairs_read class more p.handle pairs rest limits (omega (arith, m, above)) v.3 in
    ap (pairs_at class (suc more) last) (list_is class p pairs rest)
    ∙ then_read (field number_at rule) (λ h. cond (h == 0) (give []) (on_handle class more h)) (packed_bits p.handle ++ back) p.handle back (Ok (p ∷ pairs, rest))
    (must_read number_at rule _ (packed_bits p.handle ++ back) p.handle back (packed_read _ p.handle back (omega (arith, within, few))) (handle_ok p.handle last (handle_count class) above within))
    (rw (not_zero p.handle (omega (arith, above))) (handle_on class more p pairs rest limits v.2 behind))

-- a value list
pub values_read : (class : Class) (pairs : List Pair) (rest : List Bool) → HasLimits class → AreValues class 0 pairs → values_at class (list_bits class pairs ++ rest) ≡ Ok (pairs, rest)
values_read class pairs rest limits v = pairs_read class (handle_count class) 0 pairs rest limits (omega arith) v

-- a value list with a handle
pub some_values_read : (class : Class) (pairs : List Pair) (rest : List Bool) → HasLimits class → 0 < length pairs → AreValues class 0 pairs → some_values_at class (list_bits class pairs ++ rest) ≡ Ok (pairs, rest)
some_values_read class [] rest limits s v = absurd (omega (arith, s))
some_values_read class (p ∷ pairs) rest limits s v =
    let above = v.0 in
    let within = v.1 in
    let few = limits.handles in
    let rule : ℕ → Bool = λ (h : ℕ). (nat_lt 0 h && nat_le h (handle_count class)) in
    let back : List Bool = value_bits (kind_at class p.handle) p.value ++ (list_bits class pairs ++ rest) in
    let behind = pairs_read class (handle_count class - 1) p.handle pairs rest limits (omega (arith, above)) v.3 in
    ap (some_values_at class) (list_is class p pairs rest)
    ∙ then_read (field number_at rule) (λ h. on_handle class (handle_count class - 1) h) (packed_bits p.handle ++ back) p.handle back (Ok (p ∷ pairs, rest))
    (must_read number_at rule _ (packed_bits p.handle ++ back) p.handle back (packed_read _ p.handle back (omega (arith, within, few))) (and_from (nat_lt 0 p.handle) (nat_le p.handle (handle_count class)) (lt-ltb 0 p.handle above) (le-leb p.handle (handle_count class) within)))
    (handle_on class (handle_count class - 1) p pairs rest limits v.2 behind)

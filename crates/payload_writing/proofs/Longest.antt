-- The longest prefix of some values that an update may hold.
use Rattle.std.proofs.Common.{◌≡◌, ◌∙◌, ℕ, zero, suc, ◌+◌, ◌≤◌, ◌<◌, List, [], ◌∷◌, ◌++◌, map, take, get_or, length, Bool, true, false, nat_le, refl, sym, ap, subst, arith, length-append}
use Rattle.std.specs.List.{flat_map}
use Rattle.std.proofs.lemmas.Bool.{leb-true, leb-false, le-leb, lt-leb}
use Rattle.std.proofs.lemmas.List.{take-map, length-map, map-append, take_more, flat_map_more}
use Rattle.std.proofs.lemmas.List.Folds.{flat_map-map}
use Rattle.protocol_model.specs.Bits.{packed_bits}
use Rattle.protocol_model.specs.Limits.{update_bits}
use Rattle.protocol_model.specs.Payload.{pair_bits, message_bits}
use Rattle.protocol_model.specs.Search.{longest_prefix}
use Rattle.protocol_model.specs.Sight.{Seen}
use Rattle.protocol_model.specs.Value.{Class, Pair}
use Rattle.protocol_laws.proofs.FieldLengths.{packed_8}
use Rattle.connection_model.specs.Items.{update_message, update_pairs}
use Rattle.bit_io.specs.Written.{Written, Appends}
use Rattle.value_codec.specs.declared.pair.Pair.{Pair as PairValue}
use Rattle.payload_reading.specs.Values.{pair_value, pair_values}

-- a prefix that passes, and behind which no longer one does, is the longest
longest_is : {A : Type 0} (test : List A → Bool) (xs : List A) (k most : ℕ) → k ≤ most → test (take k xs) ≡ true
    → ((j : ℕ) → k < j → j ≤ most → test (take j xs) ≡ false) → longest_prefix test most xs ≡ take k xs
longest_is test xs zero zero l h none = refl
longest_is test xs (suc k) zero l h none = absurd (omega (arith, l))
longest_is test xs k (suc most) l h none =
    by_case (nat_le k most) refl
    (λ below. longest_is test xs k most below h (λ j above within. none j above (omega (arith, within))))
  where
    by_case : (b : Bool) → nat_le k most ≡ b → (k ≤ most → longest_prefix test most xs ≡ take k xs)
        → longest_prefix test (suc most) xs ≡ take k xs
    by_case true e shorter =
        let below : k ≤ most = leb-true k most e in
        rw (none (suc most) (omega (arith, below)) (omega arith)) (shorter below)
    by_case false e shorter =
        let same : k ≡ suc most = omega (arith, leb-false k most e, l) in
        let passes : test (take (suc most) xs) ≡ true = rw (sym same) h in
        rw (passes, same) refl

-- a longer prefix has no fewer bits
longer_has_more : {A B : Type 0} (f : A → List B) (xs : List A) (i j : ℕ) → i ≤ j
    → length (flat_map f (take i xs)) ≤ length (flat_map f (take j xs))
longer_has_more f xs zero j l = omega arith
longer_has_more f [] (suc i) zero l = omega arith
longer_has_more f [] (suc i) (suc j) l = omega arith
longer_has_more f (x ∷ xs) (suc i) zero l = absurd (omega (arith, l))
longer_has_more f (x ∷ xs) (suc i) (suc j) l =
    let more = longer_has_more f xs i j (omega (arith, l)) in
    omega (arith, more, length-append (f x) (flat_map f (take i xs)), length-append (f x) (flat_map f (take j xs)))

-- ---- updates

-- an update of the first so many values, but for the 0 that ends it
abbrev pub begun : Class → List PairValue → (count : ℕ) → List Bool
begun class values k = false ∷ flat_map (pair_bits class) (pair_values (take k values))

-- so many have room in an update, and no more
pub record HasRoomFor (class : Class) (values : List PairValue) (k : ℕ) : Type 0 where
  pub within : k ≤ length values
  pub short : length (begun class values k) + 8 ≤ update_bits
  pub next : k < length values → update_bits < length (begun class values (k + 1)) + 8

-- how many bits an update has
update_size : (seen : Seen) (pairs : List Pair)
    → length (message_bits (update_message seen pairs)) ≡ 1 + length (flat_map (pair_bits seen.class) pairs) + 8
update_size seen pairs =
    omega (arith, length-append (flat_map (pair_bits seen.class) pairs) (packed_bits 0), packed_8 0 (omega arith))

-- how many it has with the first so many values
size_of : (seen : Seen) (values : List PairValue) (j : ℕ)
    → length (message_bits (update_message seen (take j (pair_values values)))) ≡ length (begun seen.class values j) + 8
size_of seen values j =
    update_size seen (take j (pair_values values))
    ∙ ap (λ (pairs : List Pair). 1 + length (flat_map (pair_bits seen.class) pairs) + 8) (take-map pair_value j values)
    ∙ omega arith

-- the definition takes these
taken_pairs : (seen : Seen) (values : List PairValue) (k : ℕ) → HasRoomFor seen.class values k
    → update_pairs seen (pair_values values) ≡ pair_values (take k values)
taken_pairs seen values k h =
    let bits : ℕ → ℕ = λ j. length (message_bits (update_message seen (take j (pair_values values)))) in
    longest_is (λ (pairs : List Pair). nat_le (length (message_bits (update_message seen pairs))) update_bits)
    (pair_values values) k (length (pair_values values))
    (omega (arith, h.within, length-map values pair_value))
    (le-leb (bits k) update_bits (omega (arith, size_of seen values k, h.short)))
    (λ j above within. lt-leb (bits j) update_bits
    (longer j above (omega (arith, within, length-map values pair_value))))
    ∙ take-map pair_value k values
  where
    written : PairValue → List Bool
    written p = pair_bits seen.class (pair_value p)

    same : (j : ℕ) → length (begun seen.class values j) ≡ 1 + length (flat_map written (take j values))
    same j =
        ap (λ (bits : List Bool). suc (length bits)) (flat_map-map (pair_bits seen.class) pair_value (take j values))
        ∙ omega arith

    longer : (j : ℕ) → k < j → j ≤ length values
        → update_bits < length (message_bits (update_message seen (take j (pair_values values))))
    longer j above within =
        let next = h.next (omega (arith, above, within)) in
        let more = longer_has_more written values (k + 1) j (omega (arith, above)) in
        omega (arith, next, more, same (k + 1), same j, size_of seen values j)

pub longest_pairs : (class : Class) (values : List PairValue) (k : ℕ) → HasRoomFor class values k
    → (seen : Seen) → seen.class ≡ class → update_pairs seen (pair_values values) ≡ pair_values (take k values)
longest_pairs class values k h seen e =
    taken_pairs seen values k (subst (λ (class : Class). HasRoomFor class values k) (sym e) h)

-- and the update has them, and a 0 behind
pub longest_bits : (class : Class) (values : List PairValue) (k : ℕ) → HasRoomFor class values k
    → (seen : Seen) → seen.class ≡ class
    → begun class values k ++ packed_bits 0
    ≡ message_bits (update_message seen (update_pairs seen (pair_values values)))
longest_bits class values k h seen e =
    ap (λ (class : Class). begun class values k ++ packed_bits 0) (sym e)
    ∙ ap (λ (pairs : List Pair). message_bits (update_message seen pairs)) (sym (longest_pairs class values k h seen e))

-- ---- steps of the loop

-- one value more
begun_more : (class : Class) (values : List PairValue) (k : ℕ) (p : PairValue) → k < length values
    → p ≡ get_or values k p → begun class values (k + 1) ≡ begun class values k ++ pair_bits class (pair_value p)
begun_more class values k p l e =
    ap (λ (ps : List PairValue). false ∷ flat_map (pair_bits class) (map pair_value ps))
    (take_more values k p l ∙ ap (λ (q : PairValue). take k values ++ q ∷ []) (sym e))
    ∙ ap (λ (ps : List Pair). false ∷ flat_map (pair_bits class) ps) (map-append pair_value (take k values) (p ∷ []))
    ∙ sym (flat_map_more (pair_bits class) (false ∷ []) (map pair_value (take k values)) (pair_value p))

pub one_begun : (class : Class) (values : List PairValue) (k : ℕ) (p : PairValue) (old new : Written)
    → k < length values → p ≡ get_or values k p → old.bits ≡ begun class values k
    → Appends old new (pair_bits class (pair_value p)) → new.bits ≡ begun class values (k + 1)
one_begun class values k p old new l e before put =
    put.bits ∙ ap (λ (bits : List Bool). bits ++ pair_bits class (pair_value p)) before
    ∙ sym (begun_more class values k p l e)

-- all have room
pub all_fit : (class : Class) (values : List PairValue) (bits : List Bool) → bits ≡ begun class values (length values)
    → length bits + 8 ≤ update_bits → HasRoomFor class values (length values)
all_fit class values bits e short =
    let len : length bits ≡ length (begun class values (length values)) = ap length e in
    record { within = omega arith; short = omega (arith, len, short); next = λ l. absurd (omega (arith, l)) }

-- with one more they have none
pub some_fit : (class : Class) (values : List PairValue) (k : ℕ) (bits more : List Bool) → bits ≡ begun class values k
    → more ≡ begun class values (k + 1) → k < length values → length bits + 8 ≤ update_bits
    → update_bits < length more + 8 → HasRoomFor class values k
some_fit class values k bits more e f l short long =
    let len : length bits ≡ length (begun class values k) = ap length e in
    let len_more : length more ≡ length (begun class values (k + 1)) = ap length f in
    record { within = omega (arith, l); short = omega (arith, len, short); next = λ _. omega (arith, len_more, long) }

-- Joining refuses no part of a message of at most 70,000 bits.
use Rattle.std.proofs.Common.{◌≡◌, ℕ, zero, suc, ◌+◌, ◌-◌, ◌*◌, ◌/◌, ◌<◌, ◌≤◌, ◌==◌, ◌&&◌, List, [], ◌∷◌, ◌++◌, map, drop, length, Bool, true, false, nat_le, nat_lt, refl, sym, ◌∙◌, subst, arith, None, if◌then◌else◌}
use Rattle.std.specs.List.{flat_map, range_with_len, AllByRecursion}
use Rattle.std.specs.Bool.{MatchBool}
use Rattle.std.proofs.lemmas.Bool.{cond_both, ne_eqb, eqb-true, eqb-false, le-ltb, lt-ltb, lt-leb, and_right}
use Rattle.std.proofs.lemmas.List.{length-take, length-drop, nil_from_length}
use Rattle.protocol_model.specs.Packet.{Bunch}
use Rattle.protocol_model.specs.declared.Part.{Part}
use Rattle.protocol_model.specs.declared.Part.TheVariants.{Whole, First, Middle, Last}
use Rattle.protocol_model.specs.Payload.{Message, Opens, Closes, Updates, Calls, Gone, message_bits, part_count, parts_of, part_at, piece_at}
use Rattle.connection_model.specs.Feed.{End, Past}
use Rattle.connection_model.specs.Bunches.{made_bunch, is_opening, is_closing}
use Rattle.connection_model.specs.Windows.{received_on, applied_of, ends_payload, part_fault}
use Rattle.connection_laws.specs.Run.{IsRun}
use Rattle.connection_laws.specs.Delivered.{Numbered, messages_on, AppliesPrefixes, JoinsFrom, NeverMisjoins}
use Rattle.connection_laws.proofs.Spans.{some_parts}
use Rattle.connection_laws.proofs.Prefixes.{bunches_of, cut_in_parts}
use Rattle.connection_laws.proofs.PartsJoin.{last_ends, middle_goes_on}

-- ---- a prefix of what joins joins

-- a run that joins begins with one that does
joins_begin : (xs ys kept : List Bunch) → JoinsFrom kept (xs ++ ys) → JoinsFrom kept xs
joins_begin [] ys kept h = tt
joins_begin (x ∷ xs) ys kept h = (h.0, by (ends_payload x) (λ q. joins_begin xs ys [] q) (λ q. joins_begin xs ys (x ∷ kept) q) h.1)
  where
    by : (b : Bool) → (JoinsFrom [] (xs ++ ys) → JoinsFrom [] xs) → (JoinsFrom (x ∷ kept) (xs ++ ys) → JoinsFrom (x ∷ kept) xs)
        → MatchBool b (JoinsFrom [] (xs ++ ys)) (JoinsFrom (x ∷ kept) (xs ++ ys)) → MatchBool b (JoinsFrom [] xs) (JoinsFrom (x ∷ kept) xs)
    by true f g q = f q
    by false f g q = g q

-- ---- one part

module _ (ch n : ℕ) (m : Message) (i : ℕ) (kept : List Bunch) where
  whole_fits : kept ≡ [] → length (piece_at (message_bits m) i) ≤ 7000 → part_fault kept (made_bunch ch n m i) Whole ≡ None
  whole_fits k s = (let small : nat_lt 7000 (length (piece_at (message_bits m) i)) ≡ false = le-ltb 7000 (length (piece_at (message_bits m) i)) s in rw (k, small) refl)

  first_fits : kept ≡ [] → is_closing m ≡ false → length (piece_at (message_bits m) i) ≡ 7000 → part_fault kept (made_bunch ch n m i) First ≡ None
  first_fits k c s = rw (k, s, c) refl

  middle_fits : 0 < length kept → length kept < 10 → is_closing m ≡ false → (i == 0) ≡ false → length (piece_at (message_bits m) i) ≡ 7000 → part_fault kept (made_bunch ch n m i) Middle ≡ None
  middle_fits lo hi c z s =
      let some : nat_lt 0 (length kept) ≡ true = lt-ltb 0 (length kept) lo in
      let few : nat_le 10 (length kept) ≡ false = lt-leb 10 (length kept) hi in
      let none : (is_opening m && (i == 0)) ≡ false = and_right (is_opening m) (i == 0) z in
      rw (s, c, some, few, none) refl

  last_fits : 0 < length kept → length kept < 10 → is_closing m ≡ false → (i == 0) ≡ false → 0 < length (piece_at (message_bits m) i) → length (piece_at (message_bits m) i) ≤ 7000 → part_fault kept (made_bunch ch n m i) Last ≡ None
  last_fits lo hi c z some_bits s =
      let small : nat_lt 7000 (length (piece_at (message_bits m) i)) ≡ false = le-ltb 7000 (length (piece_at (message_bits m) i)) s in
      let some : nat_lt 0 (length kept) ≡ true = lt-ltb 0 (length kept) lo in
      let few : nat_le 10 (length kept) ≡ false = lt-leb 10 (length kept) hi in
      let none : (is_opening m && (i == 0)) ≡ false = and_right (is_opening m) (i == 0) z in
      let bits : (length (piece_at (message_bits m) i) == 0) ≡ false = ne_eqb (length (piece_at (message_bits m) i)) 0 (λ e. absurd (omega arith)) in
      rw (small, c, some, few, none, bits) refl

-- ---- sizes

-- all parts but the last are full, and the last isn't empty
more_than : (m : Message) (i : ℕ) → i + 1 < parts_of m → 7000 * (i + 1) < length (message_bits m)
more_than m i = by (length (message_bits m))
  where
    by : (n : ℕ) → i + 1 < part_count n → 7000 * (i + 1) < n
    by n = cond_both (nat_le n 7000) 1 ((n + 6999) / 7000) (λ (p : ℕ). i + 1 < p → 7000 * (i + 1) < n) (λ e lt. absurd (omega arith)) (λ e lt. omega arith)

-- a short message has at most ten parts
few_parts : (m : Message) → length (message_bits m) ≤ 70000 → parts_of m ≤ 10
few_parts m = by (length (message_bits m))
  where
    by : (n : ℕ) → n ≤ 70000 → part_count n ≤ 10
    by n = cond_both (nat_le n 7000) 1 ((n + 6999) / 7000) (λ (p : ℕ). n ≤ 70000 → p ≤ 10) (λ e le. omega arith) (λ e le. omega arith)

-- a message of several parts is no close
no_close : (m : Message) → 1 < parts_of m → is_closing m ≡ false
no_close (Opens exports a class values) h = refl
no_close (Closes a sleeps) h = absurd (omega arith)
no_close (Updates a class values) h = refl
no_close (Calls a n call args) h = refl
no_close (Gone a) h = refl

-- each piece has at most 7,000 bits
short_piece : (bits : List Bool) (i : ℕ) → length (piece_at bits i) ≤ 7000
short_piece bits i = omega (arith, length-take 7000 (drop (7000 * i) bits))

-- each piece but the last has 7,000
full_piece : (m : Message) (i : ℕ) → i + 1 < parts_of m → length (piece_at (message_bits m) i) ≡ 7000
full_piece m i lt = omega (arith, length-take 7000 (drop (7000 * i) (message_bits m)), length-drop (7000 * i) (message_bits m), more_than m i lt)

-- a part in its turn breaks no rule
part_fits : (ch n : ℕ) (m : Message) (i : ℕ) (kept : List Bunch) → i < parts_of m → parts_of m ≤ 10 → length kept ≡ i → part_fault kept (made_bunch ch n m i) (part_at (parts_of m) i) ≡ None
part_fits ch n m i kept lt few long =
    cond_both (parts_of m == 1) Whole (if i == 0 then First else if i + 1 == parts_of m then Last else Middle) (λ (p : Part). part_fault kept (made_bunch ch n m i) p ≡ None)
    (λ e. (let one : parts_of m ≡ 1 = eqb-true (parts_of m) 1 e in whole_fits ch n m i kept (nil_from_length kept (omega arith)) (short_piece (message_bits m) i)))
    (λ e. several (eqb-false (parts_of m) 1 e))
  where
    several : (parts_of m ≡ 1 → ⊥) → part_fault kept (made_bunch ch n m i) (if i == 0 then First else if i + 1 == parts_of m then Last else Middle) ≡ None
    several ne =
        let many : 1 < parts_of m = omega (arith, some_parts m, ne) in
        let closing : is_closing m ≡ false = no_close m many in
        cond_both (i == 0) First (if i + 1 == parts_of m then Last else Middle) (λ (p : Part). part_fault kept (made_bunch ch n m i) p ≡ None)
        (λ e. (let z : i ≡ 0 = eqb-true i 0 e in first_fits ch n m i kept (nil_from_length kept (omega arith)) closing (full_piece m i (omega arith))))
        (λ e. (let pos : 0 < i = positive (eqb-false i 0 e) in
        cond_both (i + 1 == parts_of m) Last Middle (λ (p : Part). part_fault kept (made_bunch ch n m i) p ≡ None)
        (λ q. last_fits ch n m i kept (omega arith) (omega arith) closing e (last_has (eqb-true (i + 1) (parts_of m) q) pos) (short_piece (message_bits m) i))
        (λ q. middle_fits ch n m i kept (omega arith) (omega arith) closing e (full_piece m i (before (eqb-false (i + 1) (parts_of m) q))))))
      where
        positive : (i ≡ 0 → ⊥) → 0 < i
        positive z = omega (arith, z)

        before : (i + 1 ≡ parts_of m → ⊥) → i + 1 < parts_of m
        before z = omega (arith, z, lt)

        last_has : i + 1 ≡ parts_of m → 0 < i → 0 < length (piece_at (message_bits m) i)
        last_has e pos =
            let below : i - 1 + 1 < parts_of m = omega arith in
            let same : i - 1 + 1 ≡ i = omega arith in
            let more : 7000 * (i - 1 + 1) < length (message_bits m) = more_than m (i - 1) below in
            omega (arith, length-take 7000 (drop (7000 * i) (message_bits m)), length-drop (7000 * i) (message_bits m))

-- ---- a message, and all of them

module _ (ch n : ℕ) (m : Message) (few : parts_of m ≤ 10) (rest : List Bunch) (fits : JoinsFrom [] rest) where
  parts_fit : (count i : ℕ) (kept : List Bunch) → i + count ≡ parts_of m → 1 ≤ count → length kept ≡ i → JoinsFrom kept (map (λ i. made_bunch ch (n + i) m i) (range_with_len i count) ++ rest)
  parts_fit zero i kept e lo long = absurd (omega arith)
  parts_fit (suc zero) i kept e lo long =
      let last : ends_payload (made_bunch ch (n + i) m i) ≡ true = last_ends (parts_of m) i (omega arith) in (
        part_fits ch (n + i) m i kept (omega arith) few long,
        subst (λ (b : Bool). MatchBool b (JoinsFrom [] rest) (JoinsFrom (made_bunch ch (n + i) m i ∷ kept) rest)) (sym last) fits,
      )
  parts_fit (suc (suc count)) i kept e lo long =
      let goes_on : ends_payload (made_bunch ch (n + i) m i) ≡ false = middle_goes_on (parts_of m) i (omega arith) in (
        part_fits ch (n + i) m i kept (omega arith) few long,
        subst (λ (b : Bool). MatchBool b (JoinsFrom [] (map (λ i. made_bunch ch (n + i) m i) (range_with_len (i + 1) (suc count)) ++ rest)) (JoinsFrom (made_bunch ch (n + i) m i ∷ kept) (map (λ i. made_bunch ch (n + i) m i) (range_with_len (i + 1) (suc count)) ++ rest))) (sym goes_on)
            (parts_fit (suc count) (i + 1) (made_bunch ch (n + i) m i ∷ kept) (omega arith) (omega arith) (omega (arith, long))),
      )

-- joining refuses no part of short messages
pub all_fit : (ch : ℕ) (ms : List Numbered) → AllByRecursion (λ (made : Numbered). length (message_bits made.1) ≤ 70000) ms → JoinsFrom [] (flat_map (bunches_of ch) ms)
all_fit ch [] h = tt
all_fit ch (x ∷ ms) h =
    parts_fit ch x.0 x.1 (few_parts x.1 h.0) (flat_map (bunches_of ch) ms) (all_fit ch ms h.1) (parts_of x.1) 0 [] (omega arith) (some_parts x.1) refl

-- joining refuses no part that is applied
pub no_misjoin : (end : End) (from to : Past) → IsRun end from → AppliesPrefixes from to → NeverMisjoins from to
no_misjoin end from to run h ch short =
    joins_begin (applied_of (received_on to ch)) (h ch).0 []
    (subst (JoinsFrom []) (sym (cut_in_parts end from run ch) ∙ (h ch).1) (all_fit ch (messages_on from ch) short))

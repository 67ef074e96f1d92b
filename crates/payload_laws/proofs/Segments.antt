-- Exported segments are read as they were spelled, where each is learnt.
use Rattle.std.proofs.Common.{◌≡◌, ℕ, suc, ◌<◌, ◌≤◌, ◌%◌, ◌^◌, ◌==◌, List, [], ◌∷◌, ◌++◌, Bool, true, false, ◌&&◌, nat_lt, nat_le, Option, None, Ok, refl, ap, ◌∙◌, arith, append_assoc, length}
use Rattle.std.specs.List.{flat_map, list_all}
use Rattle.std.proofs.lemmas.Bool.Decides.{nat_tests}
use Rattle.std.proofs.lemmas.Bool.{and_parts, and_from, le-leb, lt-ltb, eq-eqb}
use Rattle.protocol_model.specs.Bits.{int_bits, packed_bits}
use Rattle.protocol_model.specs.Reading.{◌>>=◌, give, int_at}
use Rattle.protocol_model.specs.Value.{Segment}
use Rattle.protocol_model.specs.Payload.{octets_bits, segment_bits, exports_bits}
use Rattle.protocol_model.specs.declared.Cause.{Cause}
use Rattle.connection_model.specs.Names.{is_letter, is_name_char, is_segment_name, learn_fault, names_with}
use Rattle.connection_model.specs.PayloadReading.{PayloadReading, field, number_at, octets_at, may_fail, segment_at, segments_at, exports_at}
use Rattle.payload_laws.specs.Limits.{IsSegment}
use Rattle.payload_laws.specs.Passing.{AreLearnt}
use Rattle.payload_laws.proofs.Fields.{then_read, int_read, packed_read, must_read}
use Rattle.payload_laws.proofs.Args.{octets_read}

-- ---- names

char_small : (c : ℕ) → is_name_char c ≡ true → c < 256
char_small c h = grind (arith, nat_tests)

letter_small : (c : ℕ) → is_letter c ≡ true → c < 256
letter_small c h = grind (arith, nat_tests)

chars_small : (cs : List ℕ) → list_all is_name_char cs ≡ true → list_all (λ b. nat_lt b 256) cs ≡ true
chars_small [] h = refl
chars_small (c ∷ cs) h = and_from (nat_lt c 256) (list_all (λ b. nat_lt b 256) cs) (lt-ltb c 256 (char_small c (and_parts _ _ h).0)) (chars_small cs (and_parts _ _ h).1)

-- the characters of a name are bytes
name_bytes : (name : List ℕ) → is_segment_name name ≡ true → list_all (λ b. nat_lt b 256) name ≡ true
name_bytes [] h = refl
name_bytes (c ∷ cs) h = and_from (nat_lt c 256) (list_all (λ b. nat_lt b 256) cs) (lt-ltb c 256 (letter_small c (and_parts _ _ h).0)) (chars_small cs (and_parts _ _ h).1)

-- a name isn't empty
name_some : (name : List ℕ) → is_segment_name name ≡ true → 1 ≤ length name
name_some [] h = absurd (cc)
name_some (c ∷ cs) h = omega arith

-- ---- segments

odd_least : (g : ℕ) → g % 2 ≡ 1 → 3 ≤ g → (g % 2 == 1 && nat_le 3 g) ≡ true
odd_least g o l = and_from (g % 2 == 1) (nat_le 3 g) (eq-eqb (g % 2) 1 o) (le-leb 3 g l)

four : (a b c d r : List Bool) → (a ++ b ++ c ++ d) ++ r ≡ a ++ (b ++ (c ++ (d ++ r)))
four a b c d r = simp append_assoc

segment_read : (s : Segment) (rest : List Bool) → IsSegment s → segment_at (segment_bits s ++ rest) ≡ Ok (s, rest)
segment_read s rest is =
    let some : 1 ≤ length s.name = name_some s.name is.name in
    let short : length s.name ≤ 31 = is.short in
    let at_name : List Bool = octets_bits s.name ++ rest in
    let at_size : List Bool = int_bits 64 (length s.name) ++ at_name in
    let at_outer : List Bool = packed_bits s.outer ++ at_size in
    let with_name : ℕ → ℕ → List ℕ → PayloadReading Segment = λ (guid outer : ℕ) (name : List ℕ). give (record { guid = guid; outer = outer; name = name }) in
    let with_size : ℕ → ℕ → ℕ → PayloadReading Segment = λ (guid outer n : ℕ). (field (octets_at n) is_segment_name >>= with_name guid outer) in
    let with_outer : ℕ → ℕ → PayloadReading Segment = λ (guid outer : ℕ). (field (int_at 64) (λ n. nat_le 1 n && nat_le n 31) >>= with_size guid outer) in
    ap segment_at (four (packed_bits s.guid) (packed_bits s.outer) (int_bits 64 (length s.name)) (octets_bits s.name) rest)
    ∙ then_read (field number_at (λ g. g % 2 == 1 && nat_le 3 g)) (λ guid. (number_at >>= with_outer guid)) (packed_bits s.guid ++ at_outer) s.guid at_outer (Ok (s, rest))
    (must_read number_at (λ g. g % 2 == 1 && nat_le 3 g) _ (packed_bits s.guid ++ at_outer) s.guid at_outer (packed_read _ s.guid at_outer is.guid) (odd_least s.guid is.odd is.least))
    (then_read number_at (with_outer s.guid) at_outer s.outer at_size (Ok (s, rest)) (packed_read _ s.outer at_size is.outer)
    (then_read (field (int_at 64) (λ n. nat_le 1 n && nat_le n 31)) (with_size s.guid s.outer) at_size (length s.name) at_name (Ok (s, rest))
    (must_read (int_at 64) (λ n. nat_le 1 n && nat_le n 31) _ at_size (length s.name) at_name (int_read 64 (length s.name) at_name (omega (arith, short)) (omega arith)) (and_from (nat_le 1 (length s.name)) (nat_le (length s.name) 31) (le-leb 1 (length s.name) some) (le-leb (length s.name) 31 short)))
    (then_read (field (octets_at (length s.name)) is_segment_name) (with_name s.guid s.outer) at_name s.name rest (Ok (s, rest))
    (must_read (octets_at (length s.name)) is_segment_name _ at_name s.name rest (octets_read s.name rest (name_bytes s.name is.name)) is.name) refl)))

-- nothing stands against the value
may_read : {A : Type 0} (o : Option Cause) (value : A) (bits : List Bool) → o ≡ None → may_fail o value bits ≡ Ok (value, bits)
may_read o value bits e = rw e refl

-- exported segments are read as they were spelled
pub segments_read : (names exports : List Segment) (rest : List Bool) → AreLearnt names exports → segments_at names (length exports) (flat_map segment_bits exports ++ rest) ≡ Ok (exports, rest)
segments_read names [] rest l = refl
segments_read names (s ∷ exports) rest l =
    let back : List Bool = flat_map segment_bits exports ++ rest in
    let with_segments : Segment → List Segment → PayloadReading (List Segment) = λ (s : Segment) (known : List Segment). (segments_at known (length exports) >>= (λ segments. give (s ∷ segments))) in
    let with_known : Segment → PayloadReading (List Segment) = λ (s : Segment). (may_fail (learn_fault names s) (names_with names s) >>= with_segments s) in
    ap (segments_at names (suc (length exports))) (append_assoc (segment_bits s) (flat_map segment_bits exports) rest)
    ∙ then_read segment_at with_known (segment_bits s ++ back) s back (Ok (s ∷ exports, rest)) (segment_read s back l.0)
    (then_read (may_fail (learn_fault names s) (names_with names s)) (with_segments s) back (names_with names s) back (Ok (s ∷ exports, rest)) (may_read (learn_fault names s) (names_with names s) back l.1)
    (then_read (segments_at (names_with names s) (length exports)) (λ segments. give (s ∷ segments)) back exports rest (Ok (s ∷ exports, rest)) (segments_read (names_with names s) exports rest l.2) refl))

-- the message has segments
abbrev pub are_some : List Segment → Bool
are_some [] = false
are_some (s ∷ exports) = true

-- exports, where the flag says that there are some
pub exports_read : (names exports : List Segment) (rest : List Bool) → length exports < 2 ^ 32 → AreLearnt names exports → exports_at (are_some exports) names (exports_bits exports ++ rest) ≡ Ok (exports, rest)
exports_read names [] rest few l = refl
exports_read names (s ∷ exports) rest few l =
    let all : List Segment = s ∷ exports in
    let back : List Bool = flat_map segment_bits all ++ rest in
    ap (exports_at true names) (append_assoc (packed_bits (length all)) (flat_map segment_bits all) rest)
    ∙ then_read (field number_at (λ n. nat_le 1 n)) (λ count. segments_at names count) (packed_bits (length all) ++ back) (length all) back (Ok (all, rest))
    (must_read number_at (λ n. nat_le 1 n) _ (packed_bits (length all) ++ back) (length all) back (packed_read _ (length all) back few) (le-leb 1 (length all) (omega arith)))
    (segments_read names all rest l)

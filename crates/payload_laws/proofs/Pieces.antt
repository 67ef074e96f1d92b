-- The pieces of a payload, joined, are the payload.
use Rattle.std.proofs.Common.{◌≡◌, ℕ, zero, suc, ◌<◌, ◌≤◌, ◌+◌, ◌-◌, ◌*◌, ◌/◌, ◌==◌, min, List, [], ◌∷◌, ◌++◌, Bool, true, false, nat_lt, nat_le, refl, sym, ap, ◌∙◌, arith, length, take, drop, reverse, append-nil}
use Rattle.std.specs.List.{flat_map, range_with_len}
use Rattle.std.proofs.lemmas.List.{drop-drop, take_all, length-take, length-drop, reverse-append}
use Rattle.std.proofs.lemmas.Bool.Decides.{nat_tests}
use Rattle.std.proofs.lemmas.List.Concat.{flat_map-append}
use Rattle.std.proofs.lemmas.Bool.{leb-true, eq-eqb}
use Rattle.protocol_model.specs.Packet.{Bunch}
use Rattle.protocol_model.specs.declared.Part.{Part}
use Rattle.protocol_model.specs.declared.Part.TheVariants.{Whole, First, Middle, Last, Lone}
use Rattle.protocol_model.specs.Payload.{Message, part_count, part_at, piece_at, message_bits, parts_of}
use Rattle.connection_model.specs.Bunches.{made_bunch}
use Rattle.connection_model.specs.Windows.{ends_payload, joined_bits, first_of, wholes_from}
use Rattle.payload_laws.specs.Parts.{bunches_from, bunches_of, kept_parts}

-- ---- how many there are

not_most : (a b : ℕ) → nat_le a b ≡ false → b < a
not_most a b h = by_order (nat_lt b a) refl
  where
    by_order : (c : Bool) → nat_lt b a ≡ c → b < a
    by_order c e = grind (arith, nat_tests)

-- a payload's count of parts, by whether it is short
pub record Counted (n : ℕ) : Type 0 where
  pub some : 1 ≤ part_count n
  pub enough : n ≤ 7000 * part_count n
  pub needed : (i : ℕ) → 1 ≤ i → i < part_count n → 7000 * i < n

-- by the rest of the division
counted_by : (n : ℕ) (b : Bool) → nat_le n 7000 ≡ b → Counted n
counted_by n true e =
    let short : n ≤ 7000 = leb-true n 7000 e in
    let one : part_count n ≡ 1 = rw e refl in
    record { some = omega (arith, one); enough = omega (arith, one, short); needed = λ i a b. absurd (omega (arith, one, a, b)) }
counted_by n false e =
    let long : 7000 < n = not_most n 7000 e in
    let many : part_count n ≡ (n + 6999) / 7000 = rw e refl in
    record { some = omega (arith, many, long); enough = omega (arith, many, long); needed = λ i a b. omega (arith, many, long, a, b) }

-- the count of parts has room, and is at least one
pub counted : (n : ℕ) → Counted n
counted n = counted_by n (nat_le n 7000) refl

-- ---- pieces

none_taken : (A : Type 0) (b : ℕ) → ◌≡◌ {A = List A} (take b []) []
none_taken A zero = refl
none_taken A (suc b) = refl

-- what is taken in two steps
take_sum : {A : Type 0} (a b : ℕ) (xs : List A) → take a xs ++ take b (drop a xs) ≡ take (a + b) xs
take_sum zero b xs = let e : 0 + b ≡ b = omega arith in rw e refl
take_sum {A = A} (suc a) b [] = let e : suc a + b ≡ suc (a + b) = omega arith in rw e (none_taken A b)
take_sum (suc a) b (x ∷ xs) = let e : suc a + b ≡ suc (a + b) = omega arith in rw e (ap (λ ys. x ∷ ys) (take_sum a b xs))

-- one piece more
piece_more : (bits : List Bool) (i : ℕ) → take (7000 * i) bits ++ piece_at bits i ≡ take (7000 * suc i) bits
piece_more bits i = let e : 7000 * suc i ≡ 7000 * i + 7000 = omega arith in rw e (take_sum (7000 * i) 7000 bits)

-- pieces from one on are the bits from there on
pieces_from : (bits : List Bool) (i k : ℕ) → flat_map (piece_at bits) (range_with_len i k) ≡ take (7000 * k) (drop (7000 * i) bits)
pieces_from bits i zero = refl
pieces_from bits i (suc k) =
    let e : 7000 * suc k ≡ 7000 + 7000 * k = omega arith in
    let f : 7000 * (i + 1) ≡ 7000 * i + 7000 = omega arith in
    let later = pieces_from bits (i + 1) k in
    rw (later, e, f, ← drop-drop 7000 (7000 * i) bits) (take_sum 7000 (7000 * k) (drop (7000 * i) bits))

-- the pieces, joined, are the payload
pub pieces_join : (bits : List Bool) → flat_map (piece_at bits) (range_with_len 0 (part_count (length bits))) ≡ bits
pieces_join bits = pieces_from bits 0 (part_count (length bits)) ∙ take_all (7000 * part_count (length bits)) bits (counted (length bits)).enough

-- how long a piece is
pub piece_length : (bits : List Bool) (i : ℕ) → length (piece_at bits i) ≡ min 7000 (length bits - 7000 * i)
piece_length bits i = length-take 7000 (drop (7000 * i) bits) ∙ ap (λ n. min 7000 n) (length-drop (7000 * i) bits)

-- no piece is longer than 7,000 bits, one before the last has just as many, and the last has the rest
pub piece_most : (bits : List Bool) (i : ℕ) → length (piece_at bits i) ≤ 7000
piece_most bits i = omega (arith, piece_length bits i)

-- a piece before the last is full
pub piece_full : (bits : List Bool) (i : ℕ) → i + 1 < part_count (length bits) → length (piece_at bits i) ≡ 7000
piece_full bits i h = let needed = (counted (length bits)).needed (i + 1) (omega arith) h in omega (arith, piece_length bits i, needed)

-- the last piece has what is left
pub piece_last : (bits : List Bool) (i : ℕ) → i + 1 ≡ part_count (length bits) → 7000 * i + length (piece_at bits i) ≡ length bits
piece_last bits i h =
    by_first (nat_lt 0 i) refl
  where
    by_first : (b : Bool) → nat_lt 0 i ≡ b → 7000 * i + length (piece_at bits i) ≡ length bits
    by_first true e =
        let some : 0 < i = grind (arith, nat_tests) in
        let of = counted (length bits) in
        let enough = of.enough in
        let needed = of.needed i some (omega (arith, h)) in
        omega (arith, piece_length bits i, needed, enough, h)
    by_first false e =
        let none : i ≡ 0 = grind (arith, nat_tests) in
        let of = counted (length bits) in
        let enough = of.enough in
        omega (arith, piece_length bits i, enough, h, none)

-- ---- parts

-- the only part is whole
pub part_whole : (count i : ℕ) → count ≡ 1 → part_at count i ≡ Whole
part_whole count i e = rw e refl

other_is : (a b : ℕ) → a < b → (b == a) ≡ false
other_is a b h = grind (arith, nat_tests)

smaller_is : (a b : ℕ) → a < b → (a == b) ≡ false
smaller_is a b h = grind (arith, nat_tests)

-- the first of several is marked so
pub part_first : (count : ℕ) → 1 < count → part_at count 0 ≡ First
part_first count h = rw (other_is 1 count h) refl

-- one between the first and the last is marked so
pub part_middle : (count i : ℕ) → 0 < i → i + 1 < count → part_at count i ≡ Middle
part_middle count i s h = rw (other_is 1 count (omega (arith, s, h)), other_is 0 i s, smaller_is (i + 1) count h) refl

-- the last of several is marked so
pub part_last : (count i : ℕ) → 0 < i → i + 1 ≡ count → part_at count i ≡ Last
part_last count i s h = rw (other_is 1 count (omega (arith, s, h)), other_is 0 i s, eq-eqb (i + 1) count h) refl

-- ---- which bunch ends the payload

ends_as : (b : Bunch) (part : Part) → b.part ≡ part → ends_payload b ≡ elim part [ Whole ↦ true | Last ↦ true | Lone ↦ true | First ↦ false | Middle ↦ false ]
ends_as b part e = rw e refl

-- the last part ends its payload
pub ends_last : (ch n : ℕ) (message : Message) (i : ℕ) → i + 1 ≡ parts_of message → ends_payload (made_bunch ch n message i) ≡ true
ends_last ch n message zero e = ends_as (made_bunch ch n message 0) Whole (part_whole (parts_of message) 0 (sym e))
ends_last ch n message (suc i) e = ends_as (made_bunch ch n message (suc i)) Last (part_last (parts_of message) (suc i) (omega arith) e)

-- a part before the last doesn't
pub goes_on : (ch n : ℕ) (message : Message) (i : ℕ) → i + 1 < parts_of message → ends_payload (made_bunch ch n message i) ≡ false
goes_on ch n message zero h = ends_as (made_bunch ch n message 0) First (part_first (parts_of message) h)
goes_on ch n message (suc i) h = ends_as (made_bunch ch n message (suc i)) Middle (part_middle (parts_of message) (suc i) (omega arith) h)

-- ---- what is kept

-- the kept parts hold the bits so far
kept_bits : (ch first : ℕ) (message : Message) (i : ℕ) → flat_map (λ (b : Bunch). b.payload) (reverse (kept_parts ch first message i)) ≡ take (7000 * i) (message_bits message)
kept_bits ch first message zero = refl
kept_bits ch first message (suc i) =
    let b : Bunch = made_bunch ch (first + i) message i in
    let kept : List Bunch = kept_parts ch first message i in
    ap (flat_map (λ (b : Bunch). b.payload)) (reverse-append (b ∷ []) kept)
    ∙ flat_map-append (λ (b : Bunch). b.payload) (reverse kept) (b ∷ [])
    ∙ rw (kept_bits ch first message i, append-nil (piece_at (message_bits message) i)) (piece_more (message_bits message) i)

-- the first of the kept parts and this one is the message's first
pub kept_first : (ch first : ℕ) (message : Message) (i : ℕ) → first_of (kept_parts ch first message i) (made_bunch ch (first + i) message i) ≡ made_bunch ch first message 0
kept_first ch first message zero = let e : first + 0 ≡ first = omega arith in rw e refl
kept_first ch first message (suc i) = kept_first ch first message i

-- the first i parts are i
pub kept_count : (ch first : ℕ) (message : Message) (i : ℕ) → length (kept_parts ch first message i) ≡ i
kept_count ch first message zero = refl
kept_count ch first message (suc i) = ap suc (kept_count ch first message i)

-- the last part joins to the whole payload
pub joined_is : (ch first : ℕ) (message : Message) (i : ℕ) → i + 1 ≡ parts_of message → joined_bits (kept_parts ch first message i) (made_bunch ch (first + i) message i) ≡ message_bits message
joined_is ch first message i e =
    let bits : List Bool = message_bits message in
    let enough = (counted (length bits)).enough in
    kept_bits ch first message (suc i) ∙ take_all (7000 * suc i) bits (omega (arith, e, enough))

-- ---- the payloads of a run

-- the parts from one on make the payload
wholes_run : (ch first : ℕ) (message : Message) (more : List Bunch) (i k : ℕ) → i + suc k ≡ parts_of message
    → wholes_from (kept_parts ch first message i) (bunches_from ch first message i (suc k) ++ more) ≡ (made_bunch ch first message 0, message_bits message) ∷ wholes_from [] more
wholes_run ch first message more i zero e = rw (ends_last ch (first + i) message i e, kept_first ch first message i, joined_is ch first message i e) refl
wholes_run ch first message more i (suc k) e =
    let on : i + 1 ≡ suc i = omega arith in
    rw (goes_on ch (first + i) message i (omega (arith, e)))
    (ap (λ (j : ℕ). wholes_from (kept_parts ch first message (suc i)) (bunches_from ch first message j (suc k) ++ more)) on ∙ wholes_run ch first message more (suc i) k (omega (arith, e)))

-- a message's parts join to its payload, with the bunch that it began with
pub wholes_join : (ch first : ℕ) (message : Message) (more : List Bunch) → wholes_from [] (bunches_of ch first message ++ more) ≡ (made_bunch ch first message 0, message_bits message) ∷ wholes_from [] more
wholes_join ch first message more = by_count (parts_of message) refl
  where
    by_count : (count : ℕ) → parts_of message ≡ count → wholes_from [] (bunches_from ch first message 0 count ++ more) ≡ (made_bunch ch first message 0, message_bits message) ∷ wholes_from [] more
    by_count zero e = let some = (counted (length (message_bits message))).some in absurd (omega (arith, e, some))
    by_count (suc k) e = wholes_run ch first message more 0 k (omega (arith, e))

-- Parts of a message are joined to the message; a prefix of parts makes a prefix of messages.
use Rattle.std.proofs.Common.{◌≡◌, inl, inr, ℕ, zero, suc, ◌+◌, ◌*◌, ◌<◌, ◌≤◌, ◌==◌, List, [], ◌∷◌, ◌++◌, map, reverse, take, drop, length, Bool, true, false, cond, nat_le, refl, sym, ap, ◌∙◌, subst, arith, take-add}
use Rattle.std.specs.List.{flat_map, range_with_len}
use Rattle.std.proofs.lemmas.Bool.{cases_Bool, eq-eqb, ne_eqb, eqb-false, leb-true}
use Rattle.std.proofs.lemmas.List.{append-nil, take-append-drop, take_all, length-drop, reverse-append}
use Rattle.std.proofs.lemmas.List.Concat.{flat_map-append}
use Rattle.protocol_model.specs.Packet.{Bunch}
use Rattle.protocol_model.specs.declared.Part.{Part}
use Rattle.protocol_model.specs.declared.Part.TheVariants.{Whole, First, Middle, Last, Lone}
use Rattle.protocol_model.specs.Payload.{Message, message_bits, part_count, parts_of, part_at, piece_at}
use Rattle.connection_model.specs.Feed.{End, Past}
use Rattle.connection_model.specs.Bunches.{made_bunch}
use Rattle.connection_model.specs.Windows.{received_on, applied_of, ends_payload, first_of, joined_bits, wholes_from}
use Rattle.replication_model.specs.Headline.{IsPrefix}
use Rattle.connection_laws.specs.Run.{IsRun}
use Rattle.connection_laws.specs.Delivered.{Numbered, messages_on, payload_of, AppliesPrefixes, ReceivesPrefixes}
use Rattle.connection_laws.proofs.Spans.{some_parts}
use Rattle.connection_laws.proofs.Prefixes.{bunches_of, cut_in_parts}

-- ---- which part is the last

-- the part is the last one of its payload
abbrev pub ends : Part → Bool
ends part = elim part [ Whole ↦ true | Last ↦ true | Lone ↦ true | First ↦ false | Middle ↦ false ]

-- the last part ends its payload
pub last_ends : (p i : ℕ) → i + 1 ≡ p → ends (part_at p i) ≡ true
last_ends p i e = elim (cases_Bool (p == 1)) [
  | inl q ↦ rw q refl
  | inr q ↦ (
      let first : (i == 0) ≡ false = ne_eqb i 0 (λ z. eqb-false p 1 q (omega arith)) in
      let last : (i + 1 == p) ≡ true = eq-eqb (i + 1) p e in
      rw (q, first, last) refl)
]

-- a part before it does not
pub middle_goes_on : (p i : ℕ) → i + 1 < p → ends (part_at p i) ≡ false
middle_goes_on p i lt =
    let some : (p == 1) ≡ false = ne_eqb p 1 (λ z. absurd (omega arith)) in
    rw some (elim (cases_Bool (i == 0)) [
      | inl q ↦ rw q refl
      | inr q ↦ (let last : (i + 1 == p) ≡ false = ne_eqb (i + 1) p (λ z. absurd (omega arith)) in rw (q, last) refl)
    ])

-- a message has room in its parts
pub enough_parts : (m : Message) → length (message_bits m) ≤ 7000 * parts_of m
enough_parts m = by (length (message_bits m))
  where
    by : (n : ℕ) → n ≤ 7000 * part_count n
    by n = elim (cases_Bool (nat_le n 7000)) [
      | inl e ↦ rw e (omega (arith, leb-true n 7000 e))
      | inr e ↦ rw e (omega arith)
    ]

-- ---- one message

-- the kept parts are the first i of the message
abbrev FirstKept : Bunch → List Bunch → ℕ → Type 0
FirstKept first kept zero = kept ≡ []
FirstKept first kept (suc i) = (b : Bunch) → first_of kept b ≡ first

-- one more bunch adds its bits
joined_more : (b : Bunch) (kept : List Bunch) → joined_bits kept b ≡ flat_map (λ (b : Bunch). b.payload) (reverse kept) ++ b.payload
joined_more b kept =
    ap (flat_map (λ (b : Bunch). b.payload)) (reverse-append (b ∷ []) kept)
    ∙ flat_map-append (λ (b : Bunch). b.payload) (reverse kept) (b ∷ [])
    ∙ ap (λ (l : List Bool). flat_map (λ (b : Bunch). b.payload) (reverse kept) ++ l) (append-nil b.payload)

module _ (ch n : ℕ) (m : Message) (rest : List Bunch) where
  join_from : (count i : ℕ) (kept : List Bunch) → i + suc count ≡ parts_of m → flat_map (λ (b : Bunch). b.payload) (reverse kept) ≡ take (7000 * i) (message_bits m) → FirstKept (made_bunch ch n m 0) kept i
      → wholes_from kept (map (λ i. made_bunch ch (n + i) m i) (range_with_len i (suc count)) ++ rest) ≡ (made_bunch ch n m 0, message_bits m) ∷ wholes_from [] rest
  join_from zero i kept e bits first =
      let last : ends_payload (made_bunch ch (n + i) m i) ≡ true = last_ends (parts_of m) i (omega arith) in
      let short : length (drop (7000 * i) (message_bits m)) ≤ 7000 = omega (arith, length-drop (7000 * i) (message_bits m), enough_parts m) in
      let whole : joined_bits kept (made_bunch ch (n + i) m i) ≡ message_bits m =
      joined_more (made_bunch ch (n + i) m i) kept ∙ ap (λ (l : List Bool). l ++ piece_at (message_bits m) i) bits
      ∙ ap (λ (l : List Bool). take (7000 * i) (message_bits m) ++ l) (take_all 7000 (drop (7000 * i) (message_bits m)) short)
      ∙ take-append-drop (7000 * i) (message_bits m) in
      ap (λ (b : Bool). cond b ((first_of kept (made_bunch ch (n + i) m i), joined_bits kept (made_bunch ch (n + i) m i)) ∷ wholes_from [] rest) (wholes_from (made_bunch ch (n + i) m i ∷ kept) rest)) last
      ∙ ap (λ (b : Bunch). (b, joined_bits kept (made_bunch ch (n + i) m i)) ∷ wholes_from [] rest) (begins i kept first)
      ∙ ap (λ (l : List Bool). (made_bunch ch n m 0, l) ∷ wholes_from [] rest) whole
    where
      begins : (i : ℕ) (kept : List Bunch) → FirstKept (made_bunch ch n m 0) kept i → first_of kept (made_bunch ch (n + i) m i) ≡ made_bunch ch n m 0
      begins zero kept f = (let z : n + 0 ≡ n = omega arith in rw (f, z) refl)
      begins (suc i) kept f = f (made_bunch ch (n + suc i) m (suc i))
  join_from (suc count) i kept e bits first =
      let goes_on : ends_payload (made_bunch ch (n + i) m i) ≡ false = middle_goes_on (parts_of m) i (omega arith) in
      let next : 7000 * (i + 1) ≡ 7000 * i + 7000 = omega arith in
      let more : flat_map (λ (b : Bunch). b.payload) (reverse (made_bunch ch (n + i) m i ∷ kept)) ≡ take (7000 * (i + 1)) (message_bits m) =
      joined_more (made_bunch ch (n + i) m i) kept ∙ ap (λ (l : List Bool). l ++ piece_at (message_bits m) i) bits
      ∙ sym (take-add (7000 * i) 7000 (message_bits m)) ∙ ap (λ (k : ℕ). take k (message_bits m)) (sym next) in
      ap (λ (b : Bool). cond b ((first_of kept (made_bunch ch (n + i) m i), joined_bits kept (made_bunch ch (n + i) m i)) ∷ wholes_from [] (map (λ i. made_bunch ch (n + i) m i) (range_with_len (i + 1) (suc count)) ++ rest))
      (wholes_from (made_bunch ch (n + i) m i ∷ kept) (map (λ i. made_bunch ch (n + i) m i) (range_with_len (i + 1) (suc count)) ++ rest))) goes_on
      ∙ join_from count (i + 1) (made_bunch ch (n + i) m i ∷ kept) (omega arith) more (kept_first i kept first)
    where
      begins : (i : ℕ) (kept : List Bunch) → FirstKept (made_bunch ch n m 0) kept i → first_of kept (made_bunch ch (n + i) m i) ≡ made_bunch ch n m 0
      begins zero kept f = (let z : n + 0 ≡ n = omega arith in rw (f, z) refl)
      begins (suc i) kept f = f (made_bunch ch (n + suc i) m (suc i))

      kept_first : (i : ℕ) (kept : List Bunch) → FirstKept (made_bunch ch n m 0) kept i → FirstKept (made_bunch ch n m 0) (made_bunch ch (n + i) m i ∷ kept) (i + 1)
      kept_first i kept f =
          let s : suc i ≡ i + 1 = omega arith in
          subst (FirstKept (made_bunch ch n m 0) (made_bunch ch (n + i) m i ∷ kept)) s (λ b. begins i kept f)

  -- the parts of a message are joined to it
  pub joins : wholes_from [] (bunches_of ch (n, m) ++ rest) ≡ payload_of ch (n, m) ∷ wholes_from [] rest
  joins = by (parts_of m) refl (some_parts m)
    where
      by : (p : ℕ) → parts_of m ≡ p → 1 ≤ p → wholes_from [] (map (λ i. made_bunch ch (n + i) m i) (range_with_len 0 p) ++ rest) ≡ (made_bunch ch n m 0, message_bits m) ∷ wholes_from [] rest
      by zero e lo = absurd (omega arith)
      by (suc count) e lo = join_from count 0 [] (omega (arith, e)) refl refl

-- ---- all of them

-- a prefix of bunches makes a prefix of payloads
wholes_begin : (xs ys kept : List Bunch) → IsPrefix (wholes_from kept xs) (wholes_from kept (xs ++ ys))
wholes_begin [] ys kept = (wholes_from kept ys, refl)
wholes_begin (x ∷ xs) ys kept = by (ends_payload x) (wholes_begin xs ys []) (wholes_begin xs ys (x ∷ kept))
  where
    by : (b : Bool) → IsPrefix (wholes_from [] xs) (wholes_from [] (xs ++ ys)) → IsPrefix (wholes_from (x ∷ kept) xs) (wholes_from (x ∷ kept) (xs ++ ys))
        → IsPrefix (cond b ((first_of kept x, joined_bits kept x) ∷ wholes_from [] xs) (wholes_from (x ∷ kept) xs)) (cond b ((first_of kept x, joined_bits kept x) ∷ wholes_from [] (xs ++ ys)) (wholes_from (x ∷ kept) (xs ++ ys)))
    by true h g = (h.0, ap (λ (l : List (Bunch × List Bool)). (first_of kept x, joined_bits kept x) ∷ l) h.1)
    by false h g = g

-- the parts of messages are joined to the messages
pub all_join : (ch : ℕ) (ms : List Numbered) → wholes_from [] (flat_map (bunches_of ch) ms) ≡ map (payload_of ch) ms
all_join ch [] = refl
all_join ch (x ∷ ms) = joins ch x.0 x.1 (flat_map (bunches_of ch) ms) ∙ ap (λ (l : List (Bunch × List Bool)). payload_of ch x ∷ l) (all_join ch ms)

-- what is applied in order is joined in order
pub receives : (end : End) (from to : Past) → IsRun end from → AppliesPrefixes from to → ReceivesPrefixes from to
receives end from to run h ch =
    let begin = wholes_begin (applied_of (received_on to ch)) (h ch).0 [] in
    (begin.0, sym (all_join ch (messages_on from ch)) ∙ ap (wholes_from []) (sym (cut_in_parts end from run ch)) ∙ ap (wholes_from []) (h ch).1 ∙ begin.1)

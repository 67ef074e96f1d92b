-- Which parts are kept between packets.
use Rattle.std.proofs.Common.{◌≡◌, ℕ, zero, suc, ◌<◌, ◌≤◌, ◌+◌, List, [], ◌∷◌, ◌++◌, false, None, map, reverse, append-nil, length, refl, ap, ◌∙◌, arith}
use Rattle.std.specs.List.{range_with_len}
use Rattle.std.proofs.lemmas.List.{reverse-append, map-append}
use Rattle.protocol_model.specs.Search.{items_since}
use Rattle.protocol_model.specs.Packet.{Bunch}
use Rattle.protocol_model.specs.Payload.{Message, message_bits, parts_of}
use Rattle.connection_model.specs.Feed.{End, Past}
use Rattle.connection_model.specs.Bunches.{made_bunch}
use Rattle.connection_model.specs.Windows.{ends_payload, kept_of}
use Rattle.connection_model.specs.Verdict.{lacks_copy, bunches_result}
use Rattle.payload_laws.specs.Parts.{bunches_from, bunches_of, kept_parts}
use Rattle.payload_laws.proofs.Pieces.{counted, ends_last, goes_on}
use Rattle.payload_laws.proofs.Handing.{lacks_none, no_fault, kept_more, then_more}

-- ---- the kept parts are the first ones, the newest first

-- a range with one more at its end
range_more : (a n : ℕ) → range_with_len a (suc n) ≡ range_with_len a n ++ (a + n) ∷ []
range_more a zero = let e : a + 0 ≡ a = omega arith in rw e refl
range_more a (suc n) = let e : a + 1 + n ≡ a + suc n = omega arith in ap (λ (xs : List ℕ). a ∷ xs) (range_more (a + 1) n ∙ rw e refl)

-- the first i parts turned round are those kept
kept_is : (ch first : ℕ) (message : Message) (i : ℕ) → reverse (bunches_from ch first message 0 i) ≡ kept_parts ch first message i
kept_is ch first message zero = refl
kept_is ch first message (suc i) =
    let f : ℕ → Bunch = λ (j : ℕ). made_bunch ch (first + j) message j in
    let e : 0 + i ≡ i = omega arith in
    let more : bunches_from ch first message 0 (suc i) ≡ bunches_from ch first message 0 i ++ f i ∷ [] = ap (map f) (range_more 0 i) ∙ map-append f (range_with_len 0 i) ((0 + i) ∷ []) ∙ rw e refl in
    ap reverse more ∙ reverse-append (bunches_from ch first message 0 i) (f i ∷ []) ∙ ap (λ (xs : List Bunch). f i ∷ xs) (kept_is ch first message i)

-- since the last whole payload there are just these
since_kept : (ch first : ℕ) (message : Message) (i : ℕ) (before : List Bunch) → i < parts_of message → items_since ends_payload (kept_parts ch first message i ++ before) ≡ kept_parts ch first message i ++ items_since ends_payload before
since_kept ch first message zero before h = refl
since_kept ch first message (suc i) before h =
    rw (goes_on ch (first + i) message i (omega (arith, h))) (ap (λ (xs : List Bunch). made_bunch ch (first + i) message i ∷ xs) (since_kept ch first message i before (omega (arith, h))))

-- behind whole payloads the first parts of the next message are kept
pub front_kept : (ch first : ℕ) (message : Message) (before : List Bunch) (i : ℕ) → kept_of before ≡ [] → i < parts_of message → kept_of (before ++ bunches_from ch first message 0 i) ≡ kept_parts ch first message i
front_kept ch first message before i none h =
    ap (items_since ends_payload) (reverse-append before (bunches_from ch first message 0 i) ∙ ap (λ (xs : List Bunch). xs ++ reverse before) (kept_is ch first message i))
    ∙ since_kept ch first message i (reverse before) h
    ∙ ap (λ (xs : List Bunch). kept_parts ch first message i ++ xs) none
    ∙ append-nil (kept_parts ch first message i)

-- and behind all of them nothing
pub none_kept : (ch first : ℕ) (message : Message) (before : List Bunch) → kept_of (before ++ bunches_of ch first message) ≡ []
none_kept ch first message before = by_count (parts_of message) refl
  where
    by_count : (count : ℕ) → parts_of message ≡ count → kept_of (before ++ bunches_from ch first message 0 count) ≡ []
    by_count zero e = let some = (counted (length (message_bits message))).some in absurd (omega (arith, e, some))
    by_count (suc i) e =
        ap (items_since ends_payload) (reverse-append before (bunches_from ch first message 0 (suc i)) ∙ ap (λ (xs : List Bunch). xs ++ reverse before) (kept_is ch first message (suc i)))
        ∙ rw (ends_last ch (first + i) message i (omega (arith, e))) refl

-- ---- parts that are heard before the last

-- parts before the last are kept one after another
run_kept : (end : End) (past : Past) (ch first : ℕ) (message : Message) (i k : ℕ) → i + k < parts_of message → parts_of message ≤ 10 → lacks_copy end.side past [] (made_bunch ch first message 0) ≡ false
    → bunches_result end past (kept_parts ch first message i) (bunches_from ch first message i k) ≡ record { past = past; cause = None }
run_kept end past ch first message i zero e m l = refl
run_kept end past ch first message i (suc k) e m l =
    let on : i + 1 ≡ suc i = omega arith in
    let b : Bunch = made_bunch ch (first + i) message i in
    let kept : List Bunch = kept_parts ch first message i in
    then_more end past kept b (bunches_from ch first message (i + 1) k)
    (kept_more end past kept b (lacks_none end.side past ch first message i l) (no_fault ch first (first + i) message i (omega (arith, e)) m) (goes_on ch (first + i) message i (omega (arith, e))))
    ∙ ap (λ (j : ℕ). bunches_result end past (kept_parts ch first message (suc i)) (bunches_from ch first message j k)) on
    ∙ run_kept end past ch first message (suc i) k (omega (arith, e)) m l

-- parts before the last change nothing
pub parts_kept : (end : End) (past : Past) (ch first : ℕ) (message : Message) (i count : ℕ) → i + count < parts_of message → parts_of message ≤ 10 → lacks_copy end.side past [] (made_bunch ch first message 0) ≡ false
    → bunches_result end past (kept_parts ch first message i) (bunches_from ch first message i count) ≡ record { past = past; cause = None }
parts_kept end past ch first message i count e m l = run_kept end past ch first message i count e m l

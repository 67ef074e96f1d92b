-- The parts of a message break no rule of parts, and together they hand the message on.
use Rattle.std.proofs.Common.{◌≡◌, ℕ, zero, suc, ◌<◌, ◌≤◌, ◌+◌, ◌==◌, List, [], ◌∷◌, ◌++◌, Bool, true, false, cond, not, ◌&&◌, nat_lt, nat_le, Some, None, is_none, Ok, refl, ap, ◌∙◌, arith, length}
use Rattle.std.proofs.lemmas.Bool.Decides.{nat_tests}
use Rattle.std.proofs.lemmas.Bool.{le-ltb, lt-ltb, eq-eqb}
use Rattle.std.proofs.Math.Bool.{and-false}
use Rattle.protocol_model.specs.Side.{Side, AtServer, AtClient}
use Rattle.protocol_model.specs.Packet.{Bunch}
use Rattle.protocol_model.specs.declared.Part.TheVariants.{Whole, First, Middle, Last}
use Rattle.protocol_model.specs.Payload.{Message, Opens, Closes, Updates, Calls, Gone, part_at, piece_at, message_bits, parts_of}
use Rattle.connection_model.specs.Feed.{End, Past, Delivered}
use Rattle.connection_model.specs.Bunches.{made_bunch, is_opening, is_closing}
use Rattle.connection_model.specs.Windows.{part_fault, joined_bits, first_of, ends_payload}
use Rattle.connection_model.specs.Copies.{copy_on}
use Rattle.connection_model.specs.PayloadReading.{payload_at}
use Rattle.connection_model.specs.Verdict.{lacks_copy, delivery_of, payload_result, bunch_result, bunches_result, with_handed}
use Rattle.payload_laws.specs.Parts.{bunches_from, kept_parts}
use Rattle.protocol_laws.proofs.Bounds.{not_zero}
use Rattle.payload_laws.proofs.Pieces.{counted, piece_length, part_whole, part_first, part_middle, part_last, ends_last, goes_on, kept_count, kept_first, joined_is}

-- a close takes one part
closing_one : (message : Message) → 1 < parts_of message → is_closing message ≡ false
closing_one (Opens exports actor class values) h = refl
closing_one (Closes actor sleeps) h = absurd (omega (arith, h))
closing_one (Updates actor class values) h = refl
closing_one (Calls actor number call args) h = refl
closing_one (Gone actor) h = refl

-- no part is too long
not_oversize : (ch n : ℕ) (message : Message) (i : ℕ) → nat_lt 7000 (length (made_bunch ch n message i).payload) ≡ false
not_oversize ch n message i = le-ltb 7000 (length (piece_at (message_bits message) i)) (omega (arith, piece_length (message_bits message) i))

-- a part before the last has 7,000 bits
full : (ch n : ℕ) (message : Message) (i : ℕ) → i + 1 < parts_of message → (length (made_bunch ch n message i).payload == 7000) ≡ true
full ch n message i h =
    let bits : List Bool = message_bits message in
    let needed = (counted (length bits)).needed (i + 1) (omega arith) h in
    eq-eqb (length (piece_at bits i)) 7000 (omega (arith, piece_length bits i, needed))

-- the last part has some
some_bits : (ch n : ℕ) (message : Message) (i : ℕ) → 0 < i → i < parts_of message → (length (made_bunch ch n message i).payload == 0) ≡ false
some_bits ch n message i s h =
    let bits : List Bool = message_bits message in
    let needed = (counted (length bits)).needed i s h in
    not_zero (length (piece_at bits i)) (omega (arith, piece_length bits i, needed))

-- fewer than ten parts are kept before one
few : (kept : List Bunch) (i : ℕ) → length kept ≡ i → i < 10 → nat_le 10 (length kept) ≡ false
few kept i e h = grind (arith, nat_tests)

-- behind the first part some are kept
are_kept : (kept : List Bunch) (i : ℕ) → length kept ≡ i → 0 < i → nat_lt 0 (length kept) ≡ true
are_kept kept i e h = lt-ltb 0 (length kept) (omega (arith, e, h))

-- a later part opens nothing
later_opens : (message : Message) (i : ℕ) → 0 < i → (is_opening message && i == 0) ≡ false
later_opens message i h = rw (not_zero i h) (and-false (is_opening message))

-- a whole message breaks no rule
fault_whole : (ch n : ℕ) (message : Message) → part_fault [] (made_bunch ch n message 0) Whole ≡ None
fault_whole ch n message = rw (not_oversize ch n message 0) refl

-- nor does the first part
fault_first : (ch n : ℕ) (message : Message) → 1 < parts_of message → part_fault [] (made_bunch ch n message 0) First ≡ None
fault_first ch n message h = rw (not_oversize ch n message 0, closing_one message h, full ch n message 0 h) refl

-- nor does a middle one
fault_middle : (ch n : ℕ) (message : Message) (kept : List Bunch) (i : ℕ) → length kept ≡ i → 0 < i → i < 10 → i + 1 < parts_of message → part_fault kept (made_bunch ch n message i) Middle ≡ None
fault_middle ch n message kept i e s t h =
    rw (not_oversize ch n message i, closing_one message (omega (arith, s, h)), are_kept kept i e s, later_opens message i s, full ch n message i h, few kept i e t) refl

-- nor does the last
fault_last : (ch n : ℕ) (message : Message) (kept : List Bunch) (i : ℕ) → length kept ≡ i → 0 < i → i < 10 → i + 1 ≡ parts_of message → part_fault kept (made_bunch ch n message i) Last ≡ None
fault_last ch n message kept i e s t h =
    rw (not_oversize ch n message i, closing_one message (omega (arith, s, h)), are_kept kept i e s, later_opens message i s, some_bits ch n message i s (omega (arith, h)), few kept i e t) refl

-- no part of a message of at most ten breaks a rule, where those before it are kept
pub no_fault : (ch first n : ℕ) (message : Message) (i : ℕ) → i < parts_of message → parts_of message ≤ 10 → part_fault (kept_parts ch first message i) (made_bunch ch n message i) (made_bunch ch n message i).part ≡ None
no_fault ch first n message zero h m = by_count (nat_lt 1 (parts_of message)) refl
  where
    by_count : (b : Bool) → nat_lt 1 (parts_of message) ≡ b → part_fault [] (made_bunch ch n message 0) (part_at (parts_of message) 0) ≡ None
    by_count true e = let long : 1 < parts_of message = grind (arith, nat_tests) in rw (part_first (parts_of message) long) (fault_first ch n message long)
    by_count false e = let one : parts_of message ≡ 1 = grind (arith, nat_tests) in rw (part_whole (parts_of message) 0 one) (fault_whole ch n message)
no_fault ch first n message (suc i) h m = by_count (nat_lt (suc i + 1) (parts_of message)) refl
  where
    kept : List Bunch
    kept = kept_parts ch first message (suc i)

    by_count : (b : Bool) → nat_lt (suc i + 1) (parts_of message) ≡ b → part_fault kept (made_bunch ch n message (suc i)) (part_at (parts_of message) (suc i)) ≡ None
    by_count true e =
        let more : suc i + 1 < parts_of message = grind (arith, nat_tests) in
        rw (part_middle (parts_of message) (suc i) (omega arith) more) (fault_middle ch n message kept (suc i) (kept_count ch first message (suc i)) (omega arith) (omega (arith, h, m)) more)
    by_count false e =
        let last : suc i + 1 ≡ parts_of message = grind (arith, nat_tests) in
        rw (part_last (parts_of message) (suc i) (omega arith) last) (fault_last ch n message kept (suc i) (kept_count ch first message (suc i)) (omega arith) (omega (arith, h, m)) last)

-- ---- handing on

-- a later part lacks no copy, since those before it are kept
later_lacks : (side : Side) (past : Past) (ch first n : ℕ) (message : Message) (i : ℕ) → lacks_copy side past (kept_parts ch first message (suc i)) (made_bunch ch n message (suc i)) ≡ false
later_lacks AtServer past ch first n message i = refl
later_lacks AtClient past ch first n message i =
    rw (later_opens message (suc i) (omega arith), lt-ltb 0 (suc (length (kept_parts ch first message i))) (omega arith)) (last_of (not (ch == 0)) (is_none (copy_on past ch)))
  where
    last_of : (a b : Bool) → (a && (b && false)) ≡ false
    last_of true true = refl
    last_of true false = refl
    last_of false b = refl

-- no part lacks a copy where the first doesn't
pub lacks_none : (side : Side) (past : Past) (ch first : ℕ) (message : Message) (i : ℕ) → lacks_copy side past [] (made_bunch ch first message 0) ≡ false → lacks_copy side past (kept_parts ch first message i) (made_bunch ch (first + i) message i) ≡ false
lacks_none side past ch first message zero h = let e : first + 0 ≡ first = omega arith in rw e h
lacks_none side past ch first message (suc i) h = later_lacks side past ch first (first + suc i) message i

-- a bunch that goes on is kept
pub kept_more : (end : End) (past : Past) (kept : List Bunch) (b : Bunch) → lacks_copy end.side past kept b ≡ false → part_fault kept b b.part ≡ None → ends_payload b ≡ false → bunch_result end past kept b ≡ Ok None
kept_more end past kept b l f e = rw (l, f, e) refl

-- a bunch that ends a payload hands it on
ends_one : (end : End) (past : Past) (kept : List Bunch) (b : Bunch) (first : Bunch) (bits : List Bool) (message : Message) → lacks_copy end.side past kept b ≡ false → part_fault kept b b.part ≡ None → ends_payload b ≡ true → cond b.reliable kept [] ≡ kept
    → first_of kept b ≡ first → joined_bits kept b ≡ bits → payload_at end past first bits ≡ Ok (message, []) → bunch_result end past kept b ≡ Ok (Some (delivery_of end past first message))
ends_one end past kept b first bits message l f e r s j p = rw (l, f, e, r, s, j) (rw (p, payload_result) refl)

-- a bunch that ends no payload is kept, and the next one is looked at
pub then_more : (end : End) (past : Past) (kept : List Bunch) (b : Bunch) (bunches : List Bunch) → bunch_result end past kept b ≡ Ok None → bunches_result end past kept (b ∷ bunches) ≡ bunches_result end past (b ∷ kept) bunches
then_more end past kept b bunches e = rw (e, bunches_result) refl

-- a bunch that ends a payload hands it on, and the next one begins anew
pub then_ends : (end : End) (past : Past) (kept : List Bunch) (b : Bunch) (bunches : List Bunch) (d : Delivered) → bunch_result end past kept b ≡ Ok (Some d) → bunches_result end past kept (b ∷ bunches) ≡ bunches_result end (with_handed d past) [] bunches
then_ends end past kept b bunches d e = rw (e, bunches_result) refl

-- the parts from one on hand the message on
run_on : (end : End) (past : Past) (ch first : ℕ) (message : Message) (more : List Bunch) (i k : ℕ) → i + suc k ≡ parts_of message → parts_of message ≤ 10
    → lacks_copy end.side past [] (made_bunch ch first message 0) ≡ false → payload_at end past (made_bunch ch first message 0) (message_bits message) ≡ Ok (message, [])
    → bunches_result end past (kept_parts ch first message i) (bunches_from ch first message i (suc k) ++ more) ≡ bunches_result end (with_handed (delivery_of end past (made_bunch ch first message 0) message) past) [] more
run_on end past ch first message more i zero e m l r =
    let b : Bunch = made_bunch ch (first + i) message i in
    let kept : List Bunch = kept_parts ch first message i in
    then_ends end past kept b more (delivery_of end past (made_bunch ch first message 0) message)
    (ends_one end past kept b (made_bunch ch first message 0) (message_bits message) message (lacks_none end.side past ch first message i l) (no_fault ch first (first + i) message i (omega (arith, e)) m) (ends_last ch (first + i) message i e) refl
    (kept_first ch first message i) (joined_is ch first message i e) r)
run_on end past ch first message more i (suc k) e m l r =
    let on : i + 1 ≡ suc i = omega arith in
    let b : Bunch = made_bunch ch (first + i) message i in
    let kept : List Bunch = kept_parts ch first message i in
    then_more end past kept b (bunches_from ch first message (i + 1) (suc k) ++ more)
    (kept_more end past kept b (lacks_none end.side past ch first message i l) (no_fault ch first (first + i) message i (omega (arith, e)) m) (goes_on ch (first + i) message i (omega (arith, e))))
    ∙ ap (λ (j : ℕ). bunches_result end past (kept_parts ch first message (suc i)) (bunches_from ch first message j (suc k) ++ more)) on
    ∙ run_on end past ch first message more (suc i) k (omega (arith, e)) m l r

-- the parts from the i-th on, where those before it are kept, hand the message on
pub handed_on : (end : End) (past : Past) (ch first : ℕ) (message : Message) (more : List Bunch) (i k : ℕ) → i + k ≡ parts_of message → 0 < k → parts_of message ≤ 10
    → lacks_copy end.side past [] (made_bunch ch first message 0) ≡ false → payload_at end past (made_bunch ch first message 0) (message_bits message) ≡ Ok (message, [])
    → bunches_result end past (kept_parts ch first message i) (bunches_from ch first message i k ++ more) ≡ bunches_result end (with_handed (delivery_of end past (made_bunch ch first message 0) message) past) [] more
handed_on end past ch first message more i zero e s m l r = absurd (omega (arith, s))
handed_on end past ch first message more i (suc k) e s m l r = run_on end past ch first message more i k e m l r

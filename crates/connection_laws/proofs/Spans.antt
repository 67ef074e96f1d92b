-- How spans change, and that they stay within their bounds.
use Rattle.std.proofs.Common.{◌≡◌, inl, inr, ℕ, zero, suc, ◌+◌, ◌<◌, ◌≤◌, List, [], ◌∷◌, Bool, true, false, not, nat_le, length, refl, sym, ap, ◌∙◌, subst, arith, Option, Some, None, nat_lt, eqb}
use Rattle.std.specs.List.{filter_map, cons_option}
use Rattle.std.specs.Bool.{then_some}
use Rattle.std.proofs.lemmas.Bool.{cases_Bool, false≢true, cases_eq, leb-false, eqb-true}
use Rattle.protocol_model.specs.Payload.{Message, parts_of, part_count, message_bits}
use Rattle.protocol_model.specs.Search.{is_among, least_from, each_once}
use Rattle.connection_model.specs.Feed.{End, Past, Ticked, Made, Waits, Sent, Took, Ended, has_ended}
use Rattle.connection_model.specs.Fates.{moved_of}
use Rattle.connection_model.specs.Bunches.{made_count, made_on, channel_in, has_arrived, least_unarrived, carrier_of, span, span_sum, room, after_making}
use Rattle.connection_model.specs.Verdict.{with_told, with_handed}
use Rattle.connection_model.specs.Pack.{after_sending}
use Rattle.connection_laws.specs.Run.{Move, Ticks, Makes, Defers, Sends, Takes, Hears, Hands, Ends, after_move, May, IsRun}
use Rattle.connection_laws.specs.Fates.{CarriesMade}
use Rattle.connection_laws.specs.Spans.{SpansFit}
use Rattle.connection_laws.proofs.Searches.{among_here, among_there, greatest_in, least_low, least_high, least_end}
use Rattle.connection_laws.proofs.Sums.{sum_once, sum_in_order, sum_again, sum_falls, sum_more}
use Rattle.connection_laws.proofs.Moves.{making_keeps, told_ignored, handed_ignored}
use Rattle.connection_laws.proofs.Counts.{made_count_made, made_count_elsewhere}
use Rattle.connection_laws.proofs.Deeds.{always}
use Rattle.connection_laws.proofs.Arrivals.{arrival_is, carried_among, arrival_made, arrival_sent, arrival_told, arrival_handed}
use Rattle.connection_laws.proofs.Fates.{made_count_told, made_count_handed, moves_sent, carries_made}

-- a message has at least one part
pub some_parts : (m : Message) → 1 ≤ parts_of m
some_parts m = by (nat_le (length (message_bits m)) 7000) refl
  where
    by : (b : Bool) → nat_le (length (message_bits m)) 7000 ≡ b → 1 ≤ part_count (length (message_bits m))
    by true e = rw e (omega arith)
    by false e = rw e (let long : 7000 < length (message_bits m) = leb-false (length (message_bits m)) 7000 e in omega arith)

-- ---- the least number that hasn't arrived

-- the same test finds the same least number
pub least_like : (p q : ℕ → Bool) → ((n : ℕ) → p n ≡ q n) → (k i : ℕ) → least_from p k i ≡ least_from q k i
least_like p q h zero i = refl
least_like p q h (suc k) i = rw (h i, least_like p q h k (i + 1)) refl

-- where it passes, a longer search finds the same
pub least_longer : (p : ℕ → Bool) (d k i : ℕ) → p (least_from p k i) ≡ true → least_from p (k + d) i ≡ least_from p k i
least_longer p zero zero i e = refl
least_longer p (suc d) zero i e = (let z : 0 + suc d ≡ suc d = omega arith in rw (z, e) refl)
least_longer p d (suc k) i e =
    let s : suc k + d ≡ suc (k + d) = omega arith in
    rw s (elim (cases_Bool (p i)) [
      | inl t ↦ rw t refl
      | inr t ↦ rw t (least_longer p d k (i + 1) (rw t at e))
    ])

-- what passes less often has a later least one
least_later : (p q : ℕ → Bool) → ((n : ℕ) → q n ≡ true → p n ≡ true) → (k i : ℕ) → least_from p k i ≤ least_from q k i
least_later p q h zero i = omega arith
least_later p q h (suc k) i = elim (cases_Bool (q i)) [
  | inl t ↦ (let t' : p i ≡ true = h i t in rw (t, t') (omega arith))
  | inr t ↦ elim (cases_Bool (p i)) [
    | inl r ↦ rw (t, r) (omega (arith, least_low q k (i + 1)))
    | inr r ↦ rw (t, r) (least_later p q h k (i + 1))
  ]
]

-- ---- a span's change

-- what wasn't made hasn't arrived
pub unmade_unarrived : (past : Past) → CarriesMade past → (ch n : ℕ) → made_count past ch < n → has_arrived past ch n ≡ false
unmade_unarrived past h ch n lt = arrival_is past ch n ∙ by (carrier_of past ch n) refl
  where
    by : (o : Option ℕ) → carrier_of past ch n ≡ o → carried_among o (moved_of past) ≡ false
    by None e = refl
    by (Some k) e = (let b = h ch n k e in absurd (omega (arith, b.1)))

-- the bunch has not arrived
abbrev unarrived : Past → ℕ → ℕ → Bool
unarrived past ch n = not (has_arrived past ch n)

-- the least passes, for all that is above the last made does
pub least_is_unarrived : (past : Past) → CarriesMade past → (ch : ℕ) → unarrived past ch (least_unarrived past ch) ≡ true
least_is_unarrived past h ch = elim (least_end (unarrived past ch) (made_count past ch) 1) [
  | inl e ↦ e
  | inr e ↦ ap not (unmade_unarrived past h ch (least_unarrived past ch) (omega (arith, e)))
]

-- the span grows by the parts of a message made there
pub span_made : (past : Past) → CarriesMade past → (ch : ℕ) (m : Message) → span (after_making past ch m) ch ≡ span past ch + parts_of m
span_made past h ch m =
    let later : Past = after_making past ch m in
    let count : made_count later ch ≡ made_count past ch + parts_of m = made_count_made past ch m in
    let least : least_unarrived later ch ≡ least_unarrived past ch =
    least_like (unarrived later ch) (unarrived past ch) (λ n. ap not (arrival_made past ch m ch n)) (made_count later ch) 1
    ∙ ap (λ k. least_from (unarrived past ch) k 1) count
    ∙ least_longer (unarrived past ch) (parts_of m) (made_count past ch) 1 (least_is_unarrived past h ch) in
    let most : least_unarrived past ch ≤ 1 + made_count past ch = least_high (unarrived past ch) (made_count past ch) 1 in
    omega arith

-- where nothing is made and nothing more has arrived a span stays
pub span_like : (past later : Past) (ch : ℕ) → made_count later ch ≡ made_count past ch → ((n : ℕ) → has_arrived later ch n ≡ has_arrived past ch n) → span later ch ≡ span past ch
span_like past later ch c a =
    let least : least_unarrived later ch ≡ least_unarrived past ch =
    least_like (unarrived later ch) (unarrived past ch) (λ n. ap not (a n)) (made_count later ch) 1
    ∙ ap (λ k. least_from (unarrived past ch) k 1) c in
    omega arith

-- a message made elsewhere leaves the span
pub span_elsewhere : (past : Past) (ch c : ℕ) (m : Message) → (c ≡ ch → ⊥) → span (after_making past c m) ch ≡ span past ch
span_elsewhere past ch c m h = span_like past (after_making past c m) ch (made_count_elsewhere past ch c m h) (λ n. arrival_made past c m ch n)

-- what arrives more has a lesser span
pub span_falls : (past later : Past) (ch : ℕ) → made_count later ch ≡ made_count past ch → ((n : ℕ) → has_arrived past ch n ≡ true → has_arrived later ch n ≡ true) → span later ch ≤ span past ch
span_falls past later ch c a =
    let least : least_unarrived past ch ≤ least_unarrived later ch =
    subst (λ (k : ℕ). least_unarrived past ch ≤ least_from (unarrived later ch) k 1) (sym c)
    (least_later (unarrived past ch) (unarrived later ch) fewer (made_count past ch) 1) in
    omega arith
  where
    fewer : (n : ℕ) → unarrived later ch n ≡ true → unarrived past ch n ≡ true
    fewer n e = by (has_arrived past ch n) refl
      where
        by : (b : Bool) → has_arrived past ch n ≡ b → not b ≡ true
        by false q = refl
        by true q = absurd (false≢true (ap not (sym (a n q)) ∙ e))

-- ---- the sum of spans

-- the sum of spans is one over the used indexes
pub span_sum_is : (past : Past) → span_sum past ≡ sum_once (span past) (filter_map channel_in past)
span_sum_is past = sum_in_order (span past) nat_lt (each_once (filter_map channel_in past))

-- an index on which nothing was made has no span
pub unused_count : (ch : ℕ) (past : Past) → is_among ch (filter_map channel_in past) ≡ false → made_count past ch ≡ 0
unused_count ch past e = elim (greatest_in (filter_map (made_on ch) past)) [
  | inl q ↦ q
  | inr q ↦ absurd (false≢true (sym e ∙ used past (made_count past ch) q))
]
  where
    used_step : (c n k : ℕ) (ns cs : List ℕ) → (is_among k ns ≡ true → is_among ch cs ≡ true) → (b : Bool) → (b ≡ true → c ≡ ch) → is_among k (cons_option (then_some b n) ns) ≡ true → is_among ch (c ∷ cs) ≡ true
    used_step c n k ns cs ih true same h = among_here c cs ch (same refl)
    used_step c n k ns cs ih false same h = among_there c cs ch (ih h)

    used : (past : Past) (k : ℕ) → is_among k (filter_map (made_on ch) past) ≡ true → is_among ch (filter_map channel_in past) ≡ true
    used [] k h = absurd (false≢true h)
    used (Made c n m i ∷ past) k h = used_step c n k (filter_map (made_on ch) past) (filter_map channel_in past) (used past k) (eqb c ch) (eqb-true c ch) h
    used (Ticked t s ∷ past) k h = used past k h
    used (Waits m ∷ past) k h = used past k h
    used (Sent n t items ∷ past) k h = used past k h
    used (Took n es ds ∷ past) k h = used past k h
    used (Ended e ∷ past) k h = used past k h

-- an index that was never used has no span
pub unused_span : (ch : ℕ) (past : Past) → is_among ch (filter_map channel_in past) ≡ false → span past ch ≡ 0
unused_span ch past e =
    let none : made_count past ch ≡ 0 = unused_count ch past e in
    let low : 1 ≤ least_unarrived past ch = least_low (unarrived past ch) (made_count past ch) 1 in
    omega arith

-- the indexes after a message
abbrev Uses : (ℕ → ℕ) → ℕ → List ℕ → ℕ → List ℕ → Type 0
Uses f ch ns zero cs = cs ≡ ns
Uses f ch ns (suc i) cs = (sum_once f cs ≡ sum_once f (ch ∷ ns)) × (is_among ch cs ≡ true)

uses_more : (f : ℕ → ℕ) (ch : ℕ) (ns : List ℕ) (i : ℕ) (cs : List ℕ) → Uses f ch ns i cs → Uses f ch ns (suc i) (ch ∷ cs)
uses_more f ch ns zero cs e = (ap (λ l. sum_once f (ch ∷ l)) e, among_here ch cs ch refl)
uses_more f ch ns (suc i) cs h = (sum_again f ch cs h.1 ∙ h.0, among_here ch cs ch refl)

used_sum : (f : ℕ → ℕ) (ch : ℕ) (ns : List ℕ) (i : ℕ) (cs : List ℕ) → 1 ≤ i → Uses f ch ns i cs → sum_once f cs ≡ sum_once f (ch ∷ ns)
used_sum f ch ns zero cs lo h = absurd (omega arith)
used_sum f ch ns (suc i) cs lo h = h.0

-- the sum of spans grows by the parts of a message
pub span_sum_made : (past : Past) → CarriesMade past → (ch : ℕ) (m : Message) → span_sum (after_making past ch m) ≡ span_sum past + parts_of m
span_sum_made past h ch m =
    let later : Past = after_making past ch m in
    let uses : Uses (span later) ch (filter_map channel_in past) (parts_of m) (filter_map channel_in later) =
    making_keeps (λ i before. Uses (span later) ch (filter_map channel_in past) i (filter_map channel_in before)) past ch m refl
    (λ i before lt u. uses_more (span later) ch (filter_map channel_in past) i (filter_map channel_in before) u) in
    span_sum_is later
    ∙ used_sum (span later) ch (filter_map channel_in past) (parts_of m) (filter_map channel_in later) (some_parts m) uses
    ∙ sum_more (span past) (span later) ch (parts_of m) (span_made past h ch m) (λ n ne. span_elsewhere past n ch m ne)
    (filter_map channel_in past) (unused_span ch past)
    ∙ ap (λ s. s + parts_of m) (sym (span_sum_is past))

-- the sum of spans falls where each does
pub span_sum_falls : (past later : Past) → filter_map channel_in later ≡ filter_map channel_in past → ((ch : ℕ) → span later ch ≤ span past ch) → span_sum later ≤ span_sum past
span_sum_falls past later c h =
    let a : span_sum later ≡ sum_once (span later) (filter_map channel_in past) = span_sum_is later ∙ ap (sum_once (span later)) c in
    omega (arith, a, span_sum_is past, sum_falls (span later) (span past) (filter_map channel_in past) h)

-- ---- the bounds

-- spans fit where none grows
falls_fit : (past later : Past) → filter_map channel_in later ≡ filter_map channel_in past → ((ch : ℕ) → span later ch ≤ span past ch) → SpansFit past → SpansFit later
falls_fit past later c h s = record {
  each = λ ch. omega (arith, s.each ch, h ch);
  sum = omega (arith, s.sum, span_sum_falls past later c h);
}

-- spans fit after a message with room
made_fit : (past : Past) → CarriesMade past → (c : ℕ) (m : Message) → parts_of m ≤ room past c → SpansFit past → SpansFit (after_making past c m)
made_fit past h c m r s = record {
  each = λ ch. elim (cases_eq c ch) [
    | inl e ↦ subst (λ (n : ℕ). span (after_making past c m) n ≤ 256) e (omega (arith, span_made past h c m, r, s.each c))
    | inr e ↦ omega (arith, span_elsewhere past ch c m e, s.each ch)
  ];
  sum = omega (arith, span_sum_made past h c m, r, s.sum);
}

-- spans stay within their limits
pub spans_fit : (end : End) (past : Past) → IsRun end past → SpansFit past
spans_fit end past run = always end SpansFit (record { each = λ ch. omega arith; sum = omega arith }) step past run
  where
    step : (past : Past) (move : Move) → IsRun end past → has_ended past ≡ false → May end past move → SpansFit past → SpansFit (after_move past move)
    step past (Ticks sight) run alive may s = falls_fit past (after_move past (Ticks sight)) refl (λ ch. omega arith) s
    step past (Makes ch m) run alive may s = made_fit past (carries_made end past run) ch m may.fits s
    step past (Defers m) run alive may s = falls_fit past (after_move past (Defers m)) refl (λ ch. omega arith) s
    step past (Sends items) run alive may s =
        falls_fit past (after_sending past items) refl
        (λ ch. omega (arith, span_like past (after_sending past items) ch refl (λ n. arrival_sent end past items (λ k e. (moves_sent end past run k e).1) may.each ch n))) s
    step past (Takes n) run alive may s = falls_fit past (after_move past (Takes n)) refl (λ ch. omega arith) s
    step past (Hears entry) run alive may s =
        falls_fit past (with_told entry past) (told_ignored channel_in (λ n e es ds. refl) entry past)
        (λ ch. span_falls past (with_told entry past) ch (made_count_told entry past ch) (λ n. arrival_told entry past ch n)) s
    step past (Hands d) run alive may s =
        falls_fit past (with_handed d past) (handed_ignored channel_in (λ n es d ds. refl) d past)
        (λ ch. omega (arith, span_like past (with_handed d past) ch (made_count_handed d past ch) (λ n. arrival_handed d past ch n))) s
    step past (Ends ending) run alive may s = falls_fit past (after_move past (Ends ending)) refl (λ ch. omega arith) s

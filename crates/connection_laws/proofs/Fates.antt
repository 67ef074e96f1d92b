-- The fates of a run.
use Rattle.std.proofs.Common.{◌≡◌, inl, inr, ℕ, ◌+◌, ◌<◌, ◌≤◌, List, ◌∷◌, ◌++◌, Bool, true, false, refl, sym, ap, ◌∙◌, arith, Option, Some, None}
use Rattle.std.specs.List.{filter_map, list_any, slice_get}
use Rattle.std.specs.Bool.{then_some}
use Rattle.std.proofs.lemmas.Bool.{false≢true}
use Rattle.protocol_model.specs.Payload.{Message}
use Rattle.protocol_model.specs.Search.{is_among, greatest_of}
use Rattle.protocol_model.specs.declared.Cause.TheVariants.{BadAck}
use Rattle.connection_model.specs.Feed.{End, Past, Took, Sent, Entry, Delivered, Item, has_ended, tick_count}
use Rattle.connection_model.specs.Fates.{moved_of, moved_by, high_of, last_sent, sent_in, named_by, number_above, entries_of, entries_in, unresolved_count}
use Rattle.connection_model.specs.Bunches.{carrier_of, carrier_in, is_carried_as, made_count, made_on, after_making}
use Rattle.connection_model.specs.Verdict.{with_told, with_handed, ack_cause}
use Rattle.connection_model.specs.Pack.{after_sending}
use Rattle.connection_laws.specs.Run.{Move, Ticks, Makes, Defers, Sends, Takes, Hears, Hands, Ends, after_move, May, IsRun, MaySendAll}
use Rattle.connection_laws.specs.Fates.{MovesSent, CarriesMade, FatesFit}
use Rattle.connection_laws.proofs.Searches.{among_append, greatest_below, greatest_grows, newest_hit, newest_miss}
use Rattle.connection_laws.proofs.Moves.{made_ignored, told_ignored, handed_ignored, handed_ignored_all}
use Rattle.connection_laws.proofs.Counts.{made_count_grows, last_sent_sent}
use Rattle.connection_laws.proofs.Deeds.{always}
use Rattle.connection_laws.proofs.Arrivals.{moved_made, named_within, carried_waits, carrier_made, carrier_told, moved_grows}

-- ---- what stays

-- making a message sends nothing
pub last_sent_made : (past : Past) (ch : ℕ) (m : Message) → last_sent (after_making past ch m) ≡ last_sent past
last_sent_made past ch m = ap greatest_of (made_ignored sent_in (λ c n m i. refl) past ch m)

-- hearing an entry sends nothing
pub last_sent_told : (entry : Entry) (past : Past) → last_sent (with_told entry past) ≡ last_sent past
last_sent_told entry past = ap greatest_of (told_ignored sent_in (λ n e es ds. refl) entry past)

-- handing a payload on sends nothing
pub last_sent_handed : (d : Delivered) (past : Past) → last_sent (with_handed d past) ≡ last_sent past
last_sent_handed d past = ap greatest_of (handed_ignored sent_in (λ n es d ds. refl) d past)

-- handing a payload on moves no number
pub moved_handed : (d : Delivered) (past : Past) → moved_of (with_handed d past) ≡ moved_of past
moved_handed d past = ap moved_by (handed_ignored_all entries_in (λ n es d ds. refl) d past)

-- hearing an entry makes nothing
pub made_count_told : (entry : Entry) (past : Past) (ch : ℕ) → made_count (with_told entry past) ch ≡ made_count past ch
made_count_told entry past ch = ap greatest_of (told_ignored (made_on ch) (λ n e es ds. refl) entry past)

-- handing a payload on makes nothing
pub made_count_handed : (d : Delivered) (past : Past) (ch : ℕ) → made_count (with_handed d past) ch ≡ made_count past ch
made_count_handed d past ch = ap greatest_of (handed_ignored (made_on ch) (λ n es d ds. refl) d past)

-- handing a payload on carries no bunch
pub carrier_handed : (d : Delivered) (past : Past) (ch n : ℕ) → carrier_of (with_handed d past) ch n ≡ carrier_of past ch n
carrier_handed d past ch n = ap (λ (ks : List ℕ). slice_get ks 0) (handed_ignored (carrier_in ch n) (λ n es d ds. refl) d past)

-- ---- what moved was sent

-- what moved was sent, where the same moved and no less was sent
moves_like : (past later : Past) → moved_of later ≡ moved_of past → last_sent past ≤ last_sent later → MovesSent past → MovesSent later
moves_like past later e le h n q =
    let b : (1 ≤ n) × (n ≤ last_sent past) = h n (ap (is_among n) (sym e) ∙ q) in
    (b.0, omega (arith, b.1))

-- an entry that is heard moves what was sent
moves_told : (entry : Entry) (past : Past) → ack_cause past entry ≡ None → MovesSent past → MovesSent (with_told entry past)
moves_told entry (Took k es ds ∷ past) may h n e =
    let before : List ℕ = moved_by (es ++ entries_of past) in
    elim (among_append (filter_map (number_above (greatest_of before)) (named_by entry (greatest_of before))) before n e) [
      | inl q ↦ (let b : (greatest_of before < n) × (n ≤ last_sent past) =
          named_within (greatest_of before) (last_sent past) (named_by entry (greatest_of before)) (λ a. BadAck a (last_sent past)) may n q in
          (omega (arith, b.0), b.1))
      | inr q ↦ h n q
    ]
moves_told entry past may h n e = h n e

-- what moved was sent
pub moves_sent : (end : End) (past : Past) → IsRun end past → MovesSent past
moves_sent end past run = always end MovesSent (λ n h. absurd (false≢true h)) step past run
  where
    step : (past : Past) (move : Move) → IsRun end past → has_ended past ≡ false → May end past move → MovesSent past → MovesSent (after_move past move)
    step past (Ticks sight) run alive may h = h
    step past (Makes ch m) run alive may h =
        moves_like past (after_making past ch m) (moved_made past ch m) (omega (arith, last_sent_made past ch m)) h
    step past (Defers m) run alive may h = h
    step past (Sends items) run alive may h =
        moves_like past (after_sending past items) refl (omega (arith, last_sent_sent past items)) h
    step past (Takes n) run alive may h = h
    step past (Hears entry) run alive may h = moves_told entry past may h
    step past (Hands d) run alive may h =
        moves_like past (with_handed d past) (moved_handed d past) (omega (arith, last_sent_handed d past)) h
    step past (Ends ending) run alive may h = h

-- the greatest number that moved was sent
pub high_sent : (past : Past) → MovesSent past → high_of past ≤ last_sent past
high_sent past h = greatest_below (moved_of past) (last_sent past) (λ n e. (h n e).1)

-- the greatest moved number only grows
pub high_told : (entry : Entry) (past : Past) → high_of past ≤ high_of (with_told entry past)
high_told entry past = greatest_grows (moved_of past) (moved_of (with_told entry past)) (moved_grows entry past)

-- ---- few are open

-- few packets are open
abbrev IsFew : Past → Type 0
IsFew past = unresolved_count past ≤ 4096

-- few stay open where none is sent
few_like : (past later : Past) → last_sent later ≡ last_sent past → high_of past ≤ high_of later → IsFew past → IsFew later
few_like past later s le h = omega arith

-- in a run at most 4,096 packets are open
pub few_open : (end : End) (past : Past) → IsRun end past → IsFew past
few_open end past run = always end IsFew (omega arith) step past run
  where
    step : (past : Past) (move : Move) → IsRun end past → has_ended past ≡ false → May end past move → IsFew past → IsFew (after_move past move)
    step past (Ticks sight) run alive may h = h
    step past (Makes ch m) run alive may h =
        few_like past (after_making past ch m) (last_sent_made past ch m) (omega (arith, ap greatest_of (moved_made past ch m))) h
    step past (Defers m) run alive may h = h
    step past (Sends items) run alive may h = omega (arith, may.unresolved, last_sent_sent past items)
    step past (Takes n) run alive may h = h
    step past (Hears entry) run alive may h = few_like past (with_told entry past) (last_sent_told entry past) (high_told entry past) h
    step past (Hands d) run alive may h =
        few_like past (with_handed d past) (last_sent_handed d past) (omega (arith, ap greatest_of (moved_handed d past))) h
    step past (Ends ending) run alive may h = h

-- ---- what was carried was made

-- what was carried was made, where the same was carried and no less made
carries_like : (past later : Past) → ((ch n : ℕ) → carrier_of later ch n ≡ carrier_of past ch n) → ((ch : ℕ) → made_count past ch ≤ made_count later ch)
    → last_sent past ≤ last_sent later → CarriesMade past → CarriesMade later
carries_like past later c m s h ch n k e =
    let b : (1 ≤ n) × (n ≤ made_count past ch) × (1 ≤ k) × (k ≤ last_sent past) = h ch n k (sym (c ch n) ∙ e) in
    (b.0, omega (arith, b.1, m ch), b.2, omega (arith, b.3))

-- a packet that is sent carries what was made
carries_sent : (end : End) (past : Past) (items : List Item) → MaySendAll end past items → CarriesMade past → CarriesMade (after_sending past items)
carries_sent end past items may h ch n k e = by (list_any (is_carried_as ch n) items) refl
  where
    by : (b : Bool) → list_any (is_carried_as ch n) items ≡ b → (1 ≤ n) × (n ≤ made_count past ch) × (1 ≤ k) × (k ≤ last_sent (after_sending past items))
    by true q =
        let w = carried_waits end past items ch n may.each q in
        let same : Some k ≡ Some (last_sent past + 1) =
        sym e ∙ newest_hit (carrier_in ch n) (Sent (last_sent past + 1) (tick_count past) items) past (last_sent past + 1) (ap (λ t. then_some t (last_sent past + 1)) q) in
        let is : k ≡ last_sent past + 1 = cc in
        (w.1.low, w.1.high, omega (arith, is), omega (arith, is, last_sent_sent past items))
    by false q =
        let b : (1 ≤ n) × (n ≤ made_count past ch) × (1 ≤ k) × (k ≤ last_sent past) =
        h ch n k (sym (newest_miss (carrier_in ch n) (Sent (last_sent past + 1) (tick_count past) items) past (ap (λ t. then_some t (last_sent past + 1)) q)) ∙ e) in
        (b.0, b.1, b.2, omega (arith, b.3, last_sent_sent past items))

-- what was carried was made, and its carrier was sent
pub carries_made : (end : End) (past : Past) → IsRun end past → CarriesMade past
carries_made end past run = always end CarriesMade (λ ch n k e. absurd (none_some k e)) step past run
  where
    none_some : (k : ℕ) → (let o : Option ℕ = None in o) ≡ Some k → ⊥
    none_some k e = cc

    step : (past : Past) (move : Move) → IsRun end past → has_ended past ≡ false → May end past move → CarriesMade past → CarriesMade (after_move past move)
    step past (Ticks sight) run alive may h = h
    step past (Makes c m) run alive may h =
        carries_like past (after_making past c m) (carrier_made past c m) (λ ch. made_count_grows past ch c m) (omega (arith, last_sent_made past c m)) h
    step past (Defers m) run alive may h = h
    step past (Sends items) run alive may h = carries_sent end past items may h
    step past (Takes n) run alive may h = h
    step past (Hears entry) run alive may h =
        carries_like past (with_told entry past) (carrier_told entry past) (λ ch. omega (arith, made_count_told entry past ch)) (omega (arith, last_sent_told entry past)) h
    step past (Hands d) run alive may h =
        carries_like past (with_handed d past) (carrier_handed d past) (λ ch. omega (arith, made_count_handed d past ch)) (omega (arith, last_sent_handed d past)) h
    step past (Ends ending) run alive may h = h

-- ---- all

-- what an end knows of its packets lies within what it sent
pub fates_fit : (end : End) (past : Past) → IsRun end past → FatesFit past
fates_fit end past run =
    record {
      moved = moves_sent end past run;
      high = high_sent past (moves_sent end past run);
      unresolved = few_open end past run;
      carried = carries_made end past run;
    }

-- The state of an actor's channel by the span of its index, where its last open or close is the last message there.
use Rattle.std.proofs.Common.{◌≡◌, inl, inr, ℕ, zero, suc, ◌+◌, ◌-◌, ◌<◌, ◌≤◌, Bool, true, false, cond, not, ◌==◌, ◌&&◌, refl, sym, ap, ◌∙◌, arith, Option, Some, None}
use Rattle.std.proofs.lemmas.Bool.{cases_Bool, false≢true, cases_eq, cases_lt, and_parts, and_from, not-false, eqb-true, eq-eqb}
use Rattle.protocol_model.specs.Payload.{Message, Opens, Closes, Updates, Calls, Gone, parts_of}
use Rattle.connection_model.specs.Feed.{Past}
use Rattle.connection_model.specs.Bunches.{made_count, has_arrived, have_arrived, least_unarrived, span, is_opening, is_closing, is_sleeping}
use Rattle.connection_model.specs.State.{ActorState, Opening, Opened, Mark, last_mark, closed_as, state_after, state_at, state_of, holds_index, index_at, index_of}
use Rattle.connection_laws.proofs.Searches.{least_low, least_below, least_end}
use Rattle.connection_laws.proofs.ActorMarks.{Grows}
use Rattle.sender_laws.specs.States.{is_pending, IsLast}

-- ---- all up to the last

-- a row and the one behind it
pub have_split : (past : Past) (ch from x y : ℕ)
    → have_arrived past ch from (x + y) ≡ (have_arrived past ch from x && have_arrived past ch (from + x) y)
have_split past ch from zero y =
    (let e : 0 + y ≡ y = omega arith in let f : from + 0 ≡ from = omega arith in rw (e, f) refl)
have_split past ch from (suc x) y =
    let e : suc x + y ≡ suc (x + y) = omega arith in
    let f : from + suc x ≡ (from + 1) + x = omega arith in
    rw (e, f) (
    ap (λ (b : Bool). has_arrived past ch from && b) (have_split past ch (from + 1) x y)
    ∙ sym (and_assoc (has_arrived past ch from) (have_arrived past ch (from + 1) x) (have_arrived past ch ((from + 1) + x) y))
    )
  where
    and_assoc : (a b c : Bool) → ((a && b) && c) ≡ (a && (b && c))
    and_assoc true b c = refl
    and_assoc false b c = refl

-- a row has arrived where each of it has
pub have_each : (past : Past) (ch from count : ℕ)
    → ((i : ℕ) → from ≤ i → i < from + count → has_arrived past ch i ≡ true) → have_arrived past ch from count ≡ true
have_each past ch from zero h = refl
have_each past ch from (suc count) h =
    and_from (has_arrived past ch from) (have_arrived past ch (from + 1) count) (h from (omega arith) (omega arith))
    (have_each past ch (from + 1) count (λ i lo hi. h i (omega arith) (omega arith)))

-- and each of it has where the row has
pub each_has : (past : Past) (ch from count : ℕ) → have_arrived past ch from count ≡ true → (i : ℕ) → from ≤ i
    → i < from + count → has_arrived past ch i ≡ true
each_has past ch from zero h i lo hi = absurd (omega arith)
each_has past ch from (suc count) h i lo hi =
    let b = and_parts (has_arrived past ch from) (have_arrived past ch (from + 1) count) h in
    elim (cases_eq from i) [
      | inl e ↦ ap (has_arrived past ch) (sym e) ∙ b.0
      | inr e ↦ each_has past ch (from + 1) count b.1 i (omega arith) (omega arith)
    ]

-- a span is 0 exactly where all has arrived
pub clear_is : (past : Past) (ch : ℕ) → have_arrived past ch 1 (made_count past ch) ≡ (span past ch == 0)
clear_is past ch = elim (cases_Bool (have_arrived past ch 1 (made_count past ch))) [
  | inl e ↦ e ∙ sym (eq-eqb (span past ch) 0 (none e))
  | inr e ↦ elim (cases_Bool (span past ch == 0)) [
    | inl s ↦ absurd (false≢true (sym e ∙ all (eqb-true (span past ch) 0 s)))
    | inr s ↦ e ∙ sym s
  ]
]
  where
    none : have_arrived past ch 1 (made_count past ch) ≡ true → span past ch ≡ 0
    none e = elim (least_end (λ n. not (has_arrived past ch n)) (made_count past ch) 1) [
      | inr q ↦ omega (arith, q)
      | inl q ↦ elim (cases_lt (least_unarrived past ch) (made_count past ch + 1)) [
        | inr over ↦ omega arith
        | inl below ↦ absurd
            (false≢true (ap not (sym (each_has past ch 1 (made_count past ch) e (least_unarrived past ch)
            (least_low (λ n. not (has_arrived past ch n)) (made_count past ch) 1) (omega arith))) ∙ q))
      ]
    ]

    all : span past ch ≡ 0 → have_arrived past ch 1 (made_count past ch) ≡ true
    all s =
        have_each past ch 1 (made_count past ch)
        (λ i lo hi. not-false (has_arrived past ch i) (least_below (λ n. not (has_arrived past ch n)) (made_count past ch) 1 i lo (omega arith)))

-- ---- the state by the span

-- an open whose parts have arrived where the span is 0
open_state : (past : Past) (mark : Mark) (m : Message) (parts : ℕ) → is_opening m ≡ true
    → have_arrived past mark.channel mark.number (parts_of mark.message) ≡ (span past mark.channel == 0)
    → state_after past mark m ≡ cond (span past mark.channel == 0) Opened Opening
open_state past mark (Opens exports a class values) parts o h = ap (λ (b : Bool). cond b Opened Opening) h
open_state past mark (Closes a sleeps) parts o h = absurd (false≢true o)
open_state past mark (Updates a class values) parts o h = absurd (false≢true o)
open_state past mark (Calls a n call args) parts o h = absurd (false≢true o)
open_state past mark (Gone a) parts o h = absurd (false≢true o)

-- an open that is last on its index, with all before it arrived
pub open_by_span : (past : Past) (a : ℕ) (mark : Mark) → last_mark past a ≡ Some mark → is_opening mark.message ≡ true
    → IsLast past mark → 1 ≤ mark.number
    → have_arrived past mark.channel 1 (mark.number - 1) ≡ true
    → state_of past a ≡ cond (span past mark.channel == 0) Opened Opening
open_by_span past a mark is opens last some below =
    ap (state_at past) is
    ∙ open_state past mark mark.message 0 opens (sym (
    sym (clear_is past mark.channel)
    ∙ ap (have_arrived past mark.channel 1) count
    ∙ have_split past mark.channel 1 (mark.number - 1) (parts_of mark.message)
    ∙ ap (λ (b : Bool). b && have_arrived past mark.channel (1 + (mark.number - 1)) (parts_of mark.message)) below
    ∙ ap (λ (n : ℕ). have_arrived past mark.channel n (parts_of mark.message)) first
    ))
  where
    count : made_count past mark.channel ≡ (mark.number - 1) + parts_of mark.message
    count = omega (arith, last, some)

    first : 1 + (mark.number - 1) ≡ mark.number
    first = omega (arith, some)

-- a close that has arrived with all before it where the span is 0
close_state : (past : Past) (mark : Mark) (m : Message) → is_closing m ≡ true
    → have_arrived past mark.channel 1 mark.number ≡ (span past mark.channel == 0)
    → state_after past mark m ≡ closed_as (span past mark.channel == 0) (is_sleeping m)
close_state past mark (Closes a sleeps) c h = ap (λ (b : Bool). closed_as b sleeps) h
close_state past mark (Opens exports a class values) c h = absurd (false≢true c)
close_state past mark (Updates a class values) c h = absurd (false≢true c)
close_state past mark (Calls a n call args) c h = absurd (false≢true c)
close_state past mark (Gone a) c h = absurd (false≢true c)

close_parts : (m : Message) → is_closing m ≡ true → parts_of m ≡ 1
close_parts (Closes a sleeps) c = refl
close_parts (Opens exports a class values) c = absurd (false≢true c)
close_parts (Updates a class values) c = absurd (false≢true c)
close_parts (Calls a n call args) c = absurd (false≢true c)
close_parts (Gone a) c = absurd (false≢true c)

-- a close that is last on its index
pub close_by_span : (past : Past) (a : ℕ) (mark : Mark) → last_mark past a ≡ Some mark → is_closing mark.message ≡ true
    → IsLast past mark
    → state_of past a ≡ closed_as (span past mark.channel == 0) (is_sleeping mark.message)
close_by_span past a mark is closes last =
    ap (state_at past) is
    ∙ close_state past mark mark.message closes
    (ap (have_arrived past mark.channel 1) count ∙ clear_is past mark.channel)
  where
    count : mark.number ≡ made_count past mark.channel
    count = omega (arith, last, close_parts mark.message closes)

-- ---- states that stay

-- a row that had arrived has arrived
pub have_stays : (past later : Past) → Grows past later → (ch from count : ℕ) → have_arrived past ch from count ≡ true
    → have_arrived later ch from count ≡ true
have_stays past later h ch from count e =
    have_each later ch from count (λ i lo hi. h ch i (each_has past ch from count e i lo hi))

open_stays : (b c : Bool) → (b ≡ true → c ≡ true) → is_pending (cond b Opened Opening) ≡ false
    → cond c Opened Opening ≡ cond b Opened Opening
open_stays true c h e = ap (λ (x : Bool). cond x Opened Opening) (h refl)
open_stays false c h e = absurd (false≢true (sym e))

close_stays : (b c sleeps : Bool) → (b ≡ true → c ≡ true) → is_pending (closed_as b sleeps) ≡ false
    → closed_as c sleeps ≡ closed_as b sleeps
close_stays true c sleeps h e = ap (λ (x : Bool). closed_as x sleeps) (h refl)
close_stays false c sleeps h e = absurd (false≢true (sym e))

after_stays : (past later : Past) → Grows past later → (mark : Mark) (m : Message)
    → is_pending (state_after past mark m) ≡ false → state_after later mark m ≡ state_after past mark m
after_stays past later h mark (Opens exports a class values) e =
    open_stays (have_arrived past mark.channel mark.number (parts_of mark.message))
    (have_arrived later mark.channel mark.number (parts_of mark.message))
    (have_stays past later h mark.channel mark.number (parts_of mark.message)) e
after_stays past later h mark (Closes a sleeps) e =
    close_stays (have_arrived past mark.channel 1 mark.number) (have_arrived later mark.channel 1 mark.number) sleeps
    (have_stays past later h mark.channel 1 mark.number) e
after_stays past later h mark (Gone a) e = refl
after_stays past later h mark (Updates a class values) e = refl
after_stays past later h mark (Calls a n call args) e = refl

-- what isn't pending stays where the mark stays
pub state_stays : (past later : Past) (a : ℕ) → Grows past later → last_mark later a ≡ last_mark past a
    → is_pending (state_of past a) ≡ false → state_of later a ≡ state_of past a
state_stays past later a h same e = ap (state_at later) same ∙ by (last_mark past a) e
  where
    by : (o : Option Mark) → is_pending (state_at past o) ≡ false → state_at later o ≡ state_at past o
    by None q = refl
    by (Some mark) q = after_stays past later h mark mark.message q

-- where mark and state stay, so does the index
pub index_by : (past later : Past) (a : ℕ) → last_mark later a ≡ last_mark past a → state_of later a ≡ state_of past a
    → index_of later a ≡ index_of past a
index_by past later a same s =
    ap (λ (x : ActorState). index_at (holds_index x) (last_mark later a)) s
    ∙ ap (index_at (holds_index (state_of past a))) same

-- What a call leaves: no channel opens, and calls that wait are short.
use Rattle.std.proofs.Common.{◌≡◌, ℕ, ◌+◌, ◌≤◌, ◌<◌, List, [], ◌∷◌, ◌++◌, length, reverse, Bool, true, false, cond, ◌&&◌, ◌==◌, Option, Some, None, refl, sym, ap, ◌∙◌, subst, arith, inl, inr}
use Rattle.std.specs.Bool.{then_some}
use Rattle.std.specs.List.{filter_map, cons_option, AllByRecursion}
use Rattle.std.specs.Prelude.{slice_get}
use Rattle.std.proofs.lemmas.Bool.{cond_both, cases_Bool, leb-false}
use Rattle.std.proofs.lemmas.Option.{none-some}
use Rattle.std.proofs.lemmas.List.{length-append, reverse-append}
use Rattle.protocol_model.specs.Limits.{part_bits, waiting_limit}
use Rattle.protocol_model.specs.Side.{AtServer}
use Rattle.protocol_model.specs.Value.{Call, Arg}
use Rattle.protocol_model.specs.Payload.{Message, Calls, message_bits}
use Rattle.protocol_model.specs.declared.CallAnswer.{CallAnswer}
use Rattle.protocol_model.specs.declared.CallAnswer.TheVariants.{Queued, Dead, NotOpen, NotOwner, WindowFull}
use Rattle.connection_model.specs.Feed.{Past, Made, Waits, has_ended, deeds_since_tick}
use Rattle.connection_model.specs.Bunches.{made_count, after_making}
use Rattle.connection_model.specs.State.{state_of, index_of, last_mark, mark_in, is_closed, is_opened}
use Rattle.connection_model.specs.CallAnswers.{answer_for, after_call, after_answer, call_channel, call_of, is_not_owner, is_full, queued_for, waiting_of, waits_in}
use Rattle.connection_laws.proofs.Arrivals.{arrival_made, arrival_same}
use Rattle.connection_laws.proofs.Moves.{making_keeps}
use Rattle.sender_laws.proofs.Arriving.{state_stays}
use Rattle.driver_laws.specs.Feeds.{AreShort, IsShort, StayClosed}
use Rattle.driver_laws.proofs.Leaving.{none_pends}

-- what a call leaves
pub record Leaves (past later : Past) : Type 0 where
  pub closed : StayClosed past later
  pub short : AreShort past → AreShort later

same : (past : Past) → Leaves past past
same past = record { closed = λ a e. e; short = λ h. h }

-- the same calls wait
short_like : (past later : Past) → waiting_of later ≡ waiting_of past → AreShort past → AreShort later
short_like past later e h = record {
  few = subst (λ (ms : List Message). length ms ≤ waiting_limit) (sym e) h.few;
  short = subst (AllByRecursion (λ (m : Message). length (message_bits m) ≤ part_bits)) (sym e) h.short;
}

made : (past : Past) (ch a n : ℕ) (call : Call) (args : List Arg)
    → Leaves past (after_making past ch (Calls a n call args))
made past ch a n call args = record {
  closed = λ b e. ap is_closed (state_stays past later b (λ c k q. arrival_made past ch m c k ∙ q) (mark b)
      (none_pends (state_of past b) e)) ∙ e;
  short = short_like past later waits;
}
  where
    m : Message
    m = Calls a n call args

    later : Past
    later = after_making past ch m

    misses : (b n i : ℕ) (before : Past) → last_mark (Made ch n m i ∷ before) b ≡ last_mark before b
    misses b k i before = ap (λ (t : Bool). slice_get (cons_option (then_some t
        (record { channel = ch; number = k; message = m })) (filter_map (mark_in b) before)) 0)
        (never (a == b) (i == 0))
      where
        never : (x y : Bool) → (x && false && y) ≡ false
        never true y = refl
        never false y = refl

    mark : (b : ℕ) → last_mark later b ≡ last_mark past b
    mark b = making_keeps (λ i before. last_mark before b ≡ last_mark past b) past ch m refl
        (λ i before lt q. misses b (made_count past ch + 1 + i) i before ∙ q)

    waits : waiting_of later ≡ waiting_of past
    waits = ap reverse (making_keeps
        (λ i before. filter_map waits_in (deeds_since_tick before) ≡ filter_map waits_in (deeds_since_tick past))
        past ch m refl (λ i before lt q. q))

all_append : {A : Type 0} (P : A → Type 0) (xs ys : List A) → AllByRecursion P xs → AllByRecursion P ys
    → AllByRecursion P (xs ++ ys)
all_append P [] ys h k = k
all_append P (x ∷ xs) ys h k = (h.0, all_append P xs ys h.1 k)

waits : (past : Past) (m : Message) → length (waiting_of past) < waiting_limit → length (message_bits m) ≤ part_bits
    → Leaves past (Waits m ∷ past)
waits past m few short = record {
  closed = λ a e. ap is_closed (state_stays past (Waits m ∷ past) a
      (λ c k q. arrival_same past (Waits m ∷ past) c k refl refl ∙ q) refl (none_pends (state_of past a) e)) ∙ e;
  short = λ h. record {
    few = (let n = length-append (waiting_of past) (m ∷ []) in
        subst (λ (ms : List Message). length ms ≤ waiting_limit) (sym one_more) (omega (arith, n, few)));
    short = subst (AllByRecursion (λ (m : Message). length (message_bits m) ≤ part_bits)) (sym one_more)
        (all_append (λ (m : Message). length (message_bits m) ≤ part_bits) (waiting_of past) (m ∷ []) h.short
        (short, tt));
  };
}
  where
    one_more : waiting_of (Waits m ∷ past) ≡ waiting_of past ++ m ∷ []
    one_more = reverse-append (m ∷ []) (filter_map waits_in (deeds_since_tick past))

-- ---- the call

abbrev left : Past → (a n : ℕ) → List Arg → Option ℕ → Option Call → CallAnswer → Past
left past a n args o c Queued = queued_for past a n args o c
left past a n args o c Dead = past
left past a n args o c NotOpen = past
left past a n args o c NotOwner = past
left past a n args o c WindowFull = past

left_is : (past : Past) (a n : ℕ) (args : List Arg) (answer : CallAnswer)
    → after_answer AtServer past a n args answer
    ≡ left past a n args (call_channel AtServer past a) (call_of AtServer past a n args) answer
left_is past a n args Queued = refl
left_is past a n args Dead = refl
left_is past a n args NotOpen = refl
left_is past a n args NotOwner = refl
left_is past a n args WindowFull = refl

queued : (past : Past) (a n ch : ℕ) (args : List Arg) (call : Call) (reliable : Bool)
    → (reliable ≡ false → length (message_bits (Calls a n call args)) ≤ part_bits)
    → is_full past ch reliable (Calls a n call args) ≡ false
    → Leaves past (cond reliable (after_making past ch (Calls a n call args)) (Waits (Calls a n call args) ∷ past))
queued past a n ch args call true short e = made past ch a n call args
queued past a n ch args call false short e =
    waits past (Calls a n call args) (leb-false waiting_limit (length (waiting_of past)) e) (short refl)

answered : (past : Past) (a n : ℕ) (args : List Arg) (o : Option ℕ) (c : Option Call)
    → ((ch : ℕ) → o ≡ Some ch → (call : Call) → c ≡ Some call → call.reliable ≡ false
    → length (message_bits (Calls a n call args)) ≤ part_bits)
    → Leaves past (left past a n args o c (answer_for AtServer past a n args o c))
answered past a n args None c short = same past
answered past a n args (Some ch) None short = same past
answered past a n args (Some ch) (Some call) short =
    let full : Bool = is_full past ch call.reliable (Calls a n call args) in
    cond_both (is_not_owner AtServer past a call) NotOwner (cond full WindowFull Queued)
    (λ answer. Leaves past (left past a n args (Some ch) (Some call) answer)) (λ e. same past)
    (λ e. cond_both full WindowFull Queued
    (λ answer. Leaves past (left past a n args (Some ch) (Some call) answer)) (λ e. same past)
    (λ e. queued past a n ch args call call.reliable (short ch refl call refl) e))

-- a call goes where its actor is opened
on_channel : (past : Past) (a ch : ℕ) → call_channel AtServer past a ≡ Some ch → is_opened (state_of past a) ≡ true
on_channel past a ch e = by (is_opened (state_of past a)) refl e
  where
    by : (b : Bool) → is_opened (state_of past a) ≡ b → cond b (index_of past a) None ≡ Some ch
        → is_opened (state_of past a) ≡ true
    by true q e = q
    by false q e = absurd (none-some ch e)

pub call_leaves : (past : Past) (a n : ℕ) (args : List Arg) → IsShort past a n args
    → Leaves past (after_call AtServer past a n args)
call_leaves past a n args short = elim (cases_Bool (has_ended past)) [
  | inl e ↦ rw e (same past)
  | inr e ↦ rw e (subst (Leaves past)
      (sym (left_is past a n args
      (answer_for AtServer past a n args (call_channel AtServer past a) (call_of AtServer past a n args))))
      (answered past a n args (call_channel AtServer past a) (call_of AtServer past a n args)
      (λ ch q. short (on_channel past a ch q))))
]

-- What a sender doesn't see: what was heard, handed on or waits, and calls that were made.
use Rattle.std.proofs.Common.{◌≡◌, ◌≢◌, ◌≤◌, inl, inr, ℕ, ◌+◌, ◌<◌, List, [], Bool, true, false, cond, ◌==◌, ◌&&◌, ◌||◌, Option, Some, is_some, length, refl, sym, ap, ◌∙◌, subst, arith}
use Rattle.std.specs.List.{list_any}
use Rattle.std.proofs.lemmas.Bool.{cases_eq}
use Rattle.protocol_model.specs.Value.{Call, Arg, Class}
use Rattle.protocol_model.specs.Payload.{Message, Calls, parts_of}
use Rattle.protocol_model.specs.Search.{greatest_of}
use Rattle.connection_model.specs.Feed.{Past}
use Rattle.connection_model.specs.Bunches.{after_making, have_arrived, made_count}
use Rattle.connection_model.specs.State.{state_of, index_of, last_mark}
use Rattle.connection_model.specs.Exports.{made_known}
use Rattle.shadow_changes.specs.Samples.{Samples, samples_of}
use Rattle.connection_laws.proofs.ActorMarks.{index_same, mark_made, same_grows}
use Rattle.connection_laws.proofs.Moves.{making_keeps}
use Rattle.sender_laws.specs.Acts.{IsAlike}
use Rattle.sender_laws.specs.States.{is_pending}
use Rattle.sender_laws.proofs.Views.{class_alike, ticks_alike, arrivals_alike, count_alike, mark_alike}
use Rattle.sender_laws.proofs.Makes.{arrivals_under, opened_under, count_elsewhere, count_under, moved_under, ticks_under}
use Rattle.sender_records.specs.Handles.{handle_in}
use Rattle.sender_records.proofs.Frames.{actor_alike, actor_made}
use Rattle.sender_steps.specs.Sender.{Sender, record_at}
use Rattle.sender_steps.specs.Stands.{Keeps}
use Rattle.sender_steps.proofs.KnownMade.{known_next, known_sent, makes_done}

pub alike_keeps : (s : Sender) (past later : Past) (samples : Samples) → IsAlike past later → Keeps s past samples
    → Keeps s later samples
alike_keeps s past later samples h k = record {
  each = λ a. actor_alike past later (samples_of samples a) a (record_at s a) h (k.each a);
  under_way = λ a n o lt. k.under_way a n o (subst (λ (m : ℕ). m <
      (handle_in (record_at s a).handles.handles n).packet) (ap greatest_of h.moved) lt);
  pending = k.pending;
  live = k.live;
  opened = λ a e. ap (λ (o : Option Class). is_some o) (class_alike past later h.done a) ∙ k.opened a e;
  ascends = k.ascends;
  low = λ a ch e. k.low a ch (sym (index_same past later (arrivals_alike past later h) a
      (mark_alike past later h.done a)) ∙ e);
  below = λ ch le. count_alike past later h.done ch ∙ k.below ch le;
  opens = λ i o at. record {
    made = omega (arith, (k.opens i o at).made, count_alike past later h.done o.channel);
    places = (k.opens i o at).places;
  };
  known = known_sent past later s.known s.opens (makes_done past later h.done)
      (same_grows past later (arrivals_alike past later h)) k.known;
  ticks = k.ticks ∙ sym (ap length (ticks_alike past later h.done));
  kept = k.kept;
}

-- ---- calls

unknown : (x y : Bool) → (x && false && y) ≡ false
unknown true y = refl
unknown false y = refl

no_segment : (whole past : Past) (ch actor number : ℕ) (call : Call) (args : List Arg) (g : ℕ)
    → list_any (made_known whole g) (after_making past ch (Calls actor number call args)) ≡ list_any
    (made_known whole g) past
no_segment whole past ch actor number call args g =
    making_keeps (λ i before. list_any (made_known whole g) before ≡ list_any (made_known whole g) past) past ch
    (Calls actor number call args) refl
    (λ i before lt e.
    ap (λ (b : Bool). b || list_any (made_known whole g) before)
    (unknown (i == 0) (have_arrived whole ch (made_count past ch + 1 + i) (parts_of (Calls actor number call args))))
    ∙ e)

no_mark : (x : Bool) → (x && false) ≡ false
no_mark true = refl
no_mark false = refl

-- each index stays
pub call_index : (past : Past) (ch actor number : ℕ) (call : Call) (args : List Arg) (a : ℕ)
    → index_of (after_making past ch (Calls actor number call args)) a ≡ index_of past a
call_index past ch actor number call args a =
    let m : Message = Calls actor number call args in
    index_same past (after_making past ch m) (arrivals_under [] past ch m) a
    (mark_made past ch m a
    ∙ ap (λ (b : Bool). cond b (Some (record { channel = ch; number = made_count past ch + 1; message = m }))
    (last_mark past a)) (no_mark (actor == a)))

pub call_keeps : (s : Sender) (past : Past) (samples : Samples) (ch actor number : ℕ) (call : Call) (args : List Arg)
    → index_of past actor ≡ Some ch
    → ((a : ℕ) → is_pending (state_of past a) ≡ true → index_of past a ≢ Some ch)
    → Keeps s past samples → Keeps s (after_making past ch (Calls actor number call args)) samples
call_keeps s past samples ch actor number call args held apart k =
    let m : Message = Calls actor number call args in
    record {
      each = λ a. actor_made [] past ch m (samples_of samples a) a (record_at s a) refl (no_mark (actor == a))
          (apart a) (k.each a);
      under_way = λ a n o lt. k.under_way a n o (subst (λ (m : ℕ). m <
          (handle_in (record_at s a).handles.handles n).packet) (ap greatest_of (moved_under [] past ch m)) lt);
      pending = k.pending;
      live = k.live;
      opened = λ a e. opened_under [] past refl ch m a ∙ k.opened a e;
      ascends = k.ascends;
      low = λ a i e. k.low a i (sym (call_index past ch actor number call args a) ∙ e);
      below = λ c le. count_elsewhere [] past refl ch m c (λ q. absurd (omega (arith, q, le, (k.low actor ch held).1)))
          ∙ k.below c le;
      opens = λ i o at. record {
        made = omega (arith, (k.opens i o at).made, more o.channel);
        places =
            (k.opens i o at).places;
      };
      known = known_next past (after_making past ch m) s.known s.opens
          (λ whole g. no_segment whole past ch actor number call args g)
          (same_grows past (after_making past ch m) (arrivals_under [] past ch m)) k.known;
      ticks = k.ticks ∙ sym (ap length (ticks_under [] past ch m));
      kept = k.kept;
    }
  where
    more : (c : ℕ) → made_count past c ≤ made_count (after_making past ch (Calls actor number call args)) c
    more c = elim (cases_eq ch c) [
      | inl e ↦ subst (λ (x : ℕ). made_count past x ≤ made_count
          (after_making past ch (Calls actor number call args)) x) e
          (omega (arith, count_under [] past refl ch (Calls actor number call args)))
      | inr ne ↦ omega (arith, count_elsewhere [] past refl ch (Calls actor number call args) c ne)
    ]

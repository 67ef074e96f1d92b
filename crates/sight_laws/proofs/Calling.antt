-- Calls are answered the same, and leave the pasts the same but for their sights.
use Rattle.std.proofs.Common.{◌≡◌, ℕ, List, ◌∷◌, Bool, true, false, not, cond, ◌&&◌, nat_lt, nat_le, refl, sym, ap, ◌∙◌, subst, length, Option, Some, None}
use Rattle.std.specs.Prelude.{option_and_then}
use Rattle.std.proofs.lemmas.Bool.{false≢true}
use Rattle.protocol_model.specs.Value.{Call, Arg}
use Rattle.protocol_model.specs.Side.{Side, AtServer, AtClient}
use Rattle.protocol_model.specs.Payload.{Message, Calls, parts_of}
use Rattle.protocol_model.specs.Limits.{waiting_limit}
use Rattle.protocol_model.specs.declared.CallAnswer.{CallAnswer}
use Rattle.protocol_model.specs.declared.CallAnswer.TheVariants.{Queued, Dead, NotOpen, NotOwner, WindowFull}
use Rattle.connection_model.specs.Feed.{Past, Waits, has_ended}
use Rattle.connection_model.specs.Bunches.{after_making}
use Rattle.connection_model.specs.CallAnswers.{call_channel, call_class, fitting_call, call_of, is_to_owner, is_not_owner, is_full, answer_for, answer_of, queued_for, after_answer, after_call}
use Rattle.channel_laws.proofs.Alike.{same_room}
use Rattle.sight_laws.specs.Differing.{SameButSights}
use Rattle.sight_laws.proofs.Unsighted.{ended_same, delivered_same, class_same, waiting_same, alike}
use Rattle.sight_laws.proofs.Closing.{making_same}
use Rattle.sight_laws.proofs.Sending.{channel_same}

-- a call waits in both
waits_same : (past other : Past) (m : Message) → SameButSights past other
    → SameButSights (Waits m ∷ past) (Waits m ∷ other)
waits_same past other m h = record {
  done = ap (λ (p : Past). Waits m ∷ p) h.done;
  relevance = h.relevance;
  flush = h.flush;
  owned = h.owned;
}

module _ (side : Side) (past other : Past) (h : SameButSights past other) where
  call_class_same : (a : ℕ) → call_class side other a ≡ call_class side past a
  call_class_same a = by side
    where
      by : (s : Side) → call_class s other a ≡ call_class s past a
      by AtServer = class_same past other h.done a
      by AtClient = rw (delivered_same past other h.done) refl

  call_same : (a n : ℕ) (args : List Arg) → call_of side other a n args ≡ call_of side past a n args
  call_same a n args = ap (option_and_then (fitting_call side n args)) (call_class_same a)

  owner_same : (a : ℕ) (call : Call) → is_not_owner side other a call ≡ is_not_owner side past a call
  owner_same a call = by side
    where
      by : (s : Side) → is_not_owner s other a call ≡ is_not_owner s past a call
      by AtServer = ap (λ (b : Bool). is_to_owner call.way && not b) (h.owned a)
      by AtClient = rw (delivered_same past other h.done) refl

  full_same : (ch : ℕ) (reliable : Bool) (m : Message) → is_full other ch reliable m ≡ is_full past ch reliable m
  full_same ch true m = ap (λ (k : ℕ). nat_lt k (parts_of m)) (same_room past other (alike past other h.done) ch)
  full_same ch false m = ap (λ (ms : List Message). nat_le waiting_limit (length ms)) (waiting_same past other h.done)

  for_same : (a n : ℕ) (args : List Arg) (o : Option ℕ) (call : Option Call)
      → answer_for side other a n args o call ≡ answer_for side past a n args o call
  for_same a n args None call = refl
  for_same a n args (Some ch) None = refl
  for_same a n args (Some ch) (Some call) =
      ap (λ (b : Bool). cond b NotOwner
      (cond (is_full other ch call.reliable (Calls a n call args)) WindowFull Queued)) (owner_same a call)
      ∙ ap (λ (b : Bool). cond (is_not_owner side past a call) NotOwner (cond b WindowFull Queued))
      (full_same ch call.reliable (Calls a n call args))

  -- the answer
  pub answer_same : (a n : ℕ) (args : List Arg) → answer_of side other a n args ≡ answer_of side past a n args
  answer_same a n args =
      ap (λ (b : Bool). cond b Dead (answer_for side other a n args (call_channel side other a)
      (call_of side other a n args))) (ended_same past other h.done)
      ∙ ap (λ (o : Option ℕ). cond (has_ended past) Dead
      (answer_for side other a n args o (call_of side other a n args))) (channel_same side past other h.done a)
      ∙ ap (λ (o : Option Call). cond (has_ended past) Dead
      (answer_for side other a n args (call_channel side past a) o)) (call_same a n args)
      ∙ ap (λ (r : CallAnswer). cond (has_ended past) Dead r)
      (for_same a n args (call_channel side past a) (call_of side past a n args))

  queued_same : (a n : ℕ) (args : List Arg) (o : Option ℕ) (call : Option Call)
      → SameButSights (queued_for past a n args o call) (queued_for other a n args o call)
  queued_same a n args None call = h
  queued_same a n args (Some ch) None = h
  queued_same a n args (Some ch) (Some call) = by call.reliable
    where
      by : (b : Bool) → SameButSights
          (cond b (after_making past ch (Calls a n call args)) (Waits (Calls a n call args) ∷ past))
          (cond b (after_making other ch (Calls a n call args)) (Waits (Calls a n call args) ∷ other))
      by true = making_same past other ch (Calls a n call args) (λ b e. absurd (false≢true e)) h
      by false = waits_same past other (Calls a n call args) h

  after_answer_same : (a n : ℕ) (args : List Arg) (answer : CallAnswer)
      → SameButSights (after_answer side past a n args answer) (after_answer side other a n args answer)
  after_answer_same a n args Queued =
      subst (λ (o : Option ℕ). SameButSights (after_answer side past a n args Queued)
      (queued_for other a n args o (call_of side other a n args)))
      (sym (channel_same side past other h.done a))
      (subst (λ (o : Option Call). SameButSights (after_answer side past a n args Queued)
      (queued_for other a n args (call_channel side past a) o))
      (sym (call_same a n args)) (queued_same a n args (call_channel side past a) (call_of side past a n args)))
  after_answer_same a n args Dead = h
  after_answer_same a n args NotOpen = h
  after_answer_same a n args NotOwner = h
  after_answer_same a n args WindowFull = h

  -- the past after it
  pub call_keeps : (a n : ℕ) (args : List Arg)
      → SameButSights (after_call side past a n args) (after_call side other a n args)
  call_keeps a n args =
      subst (λ (r : CallAnswer). SameButSights (after_call side past a n args) (after_answer side other a n args r))
      (sym (answer_same a n args)) (after_answer_same a n args (answer_of side past a n args))

-- A call goes on with a run.
use Rattle.std.proofs.Common.{◌≡◌, inl, inr, ℕ, List, ◌∷◌, Bool, true, false, cond, refl, sym, subst, Option, Some, None}
use Rattle.std.proofs.lemmas.Bool.{cases_Bool, cond_both, ltb-false}
use Rattle.protocol_model.specs.Value.{Arg, Call}
use Rattle.protocol_model.specs.Payload.{Calls, parts_of}
use Rattle.protocol_model.specs.declared.CallAnswer.{CallAnswer}
use Rattle.protocol_model.specs.declared.CallAnswer.TheVariants.{Queued, Dead, NotOpen, NotOwner, WindowFull}
use Rattle.connection_model.specs.Feed.{End, Past, Waits, has_ended}
use Rattle.connection_model.specs.Bunches.{room, after_making}
use Rattle.connection_model.specs.CallAnswers.{call_channel, call_of, is_not_owner, is_full, answer_for, queued_for, after_answer, after_call}
use Rattle.connection_laws.specs.Run.{Defers}
use Rattle.connection_laws.proofs.LiveRuns.{Goes, IsLiveRun, IsDone, live_done, done_live, live_made}

module _ (end : End) (R : Past → Type 0) (g : Goes end R) (past : Past) (live : IsLiveRun R past) (a n : ℕ) (args : List Arg) where
  -- the past after an answer, by the channel and the call that are meant
  abbrev answered : Option ℕ → Option Call → CallAnswer → Past
  answered o c Queued = queued_for past a n args o c
  answered o c Dead = past
  answered o c NotOpen = past
  answered o c NotOwner = past
  answered o c WindowFull = past

  answered_is : (answer : CallAnswer) → after_answer end.side past a n args answer ≡ answered (call_channel end.side past a) (call_of end.side past a n args) answer
  answered_is Queued = refl
  answered_is Dead = refl
  answered_is NotOpen = refl
  answered_is NotOwner = refl
  answered_is WindowFull = refl

  queued_runs : (ch : ℕ) (call : Call) → call_channel end.side past a ≡ Some ch → call_of end.side past a n args ≡ Some call → (b : Bool) → call.reliable ≡ b → is_full past ch b (Calls a n call args) ≡ false
      → IsDone R (cond b (after_making past ch (Calls a n call args)) (Waits (Calls a n call args) ∷ past))
  queued_runs ch call at meant true r e = live_done R (after_making past ch (Calls a n call args)) (live_made end R g past ch (Calls a n call args) live
      (record { fits = ltb-false (room past ch) (parts_of (Calls a n call args)) e; place = (at, meant, r) }))
  queued_runs ch call at meant false r e = record { run = g.goes past (Defers (Calls a n call args)) tt live.run live.alive (r, meant); few = λ q. live.few }

  answer_runs : (o : Option ℕ) (c : Option Call) → call_channel end.side past a ≡ o → call_of end.side past a n args ≡ c → IsDone R (answered o c (answer_for end.side past a n args o c))
  answer_runs None c at meant = live_done R past live
  answer_runs (Some ch) None at meant = live_done R past live
  answer_runs (Some ch) (Some call) at meant =
      cond_both (is_not_owner end.side past a call) NotOwner (cond (is_full past ch call.reliable (Calls a n call args)) WindowFull Queued)
      (λ answer. IsDone R (answered (Some ch) (Some call) answer)) (λ e. live_done R past live)
      (λ e. cond_both (is_full past ch call.reliable (Calls a n call args)) WindowFull Queued
      (λ answer. IsDone R (answered (Some ch) (Some call) answer)) (λ e. live_done R past live) (λ e. queued_runs ch call at meant call.reliable refl e))

  answers_run : IsDone R (after_answer end.side past a n args (answer_for end.side past a n args (call_channel end.side past a) (call_of end.side past a n args)))
  answers_run =
      subst (IsDone R) (sym (answered_is (answer_for end.side past a n args (call_channel end.side past a) (call_of end.side past a n args))))
      (answer_runs (call_channel end.side past a) (call_of end.side past a n args) refl refl)

-- a call goes on with a run
pub call_runs : (end : End) (R : Past → Type 0) → Goes end R → (past : Past) → IsDone R past → (a n : ℕ) (args : List Arg) → IsDone R (after_call end.side past a n args)
call_runs end R g past h a n args = elim (cases_Bool (has_ended past)) [
  | inl e ↦ rw e h
  | inr e ↦ rw e (answers_run end R g past (done_live R past h e) a n args)
]

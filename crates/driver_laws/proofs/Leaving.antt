-- What a datagram leaves: nothing is made, what has arrived has, and the same calls wait.
use Rattle.std.proofs.Common.{◌≡◌, ℕ, List, [], ◌∷◌, true, false, refl, ap, ◌∙◌, Option, Some, None, Result, Ok, Err, inl, inr}
use Rattle.std.specs.Prelude.{unsigned_abs}
use Rattle.std.proofs.lemmas.Bool.{cases_Bool, false≢true}
use Rattle.protocol_model.specs.Packet.{Packet}
use Rattle.protocol_model.specs.PacketReading.{packet_of}
use Rattle.protocol_model.specs.declared.Cause.{Cause}
use Rattle.protocol_model.specs.declared.Why.{Why}
use Rattle.connection_model.specs.Feed.{End, Past, Took, Ended, ByCause, Entry, Delivered, has_ended}
use Rattle.connection_model.specs.CallAnswers.{waiting_of}
use Rattle.connection_model.specs.Fates.{number_near, is_new}
use Rattle.connection_model.specs.State.{ActorState, Closed, Opening, Opened, Closing, Asleep, state_of, is_closed}
use Rattle.connection_model.specs.Verdict.{with_told, with_handed, entry_result, after_entries, entries_in, after_reading, after_got}
use Rattle.connection_laws.proofs.ActorMarks.{Grows}
use Rattle.connection_laws.proofs.Arrivals.{arrival_told, arrival_handed}
use Rattle.connection_laws.proofs.Hearing.{entry_runs}
use Rattle.connection_laws.proofs.Moves.{told_keeps, handed_keeps}
use Rattle.sender_laws.specs.Acts.{acts}
use Rattle.sender_laws.specs.States.{is_pending}
use Rattle.sender_laws.proofs.Arriving.{state_stays}
use Rattle.sender_laws.proofs.Views.{mark_alike}
use Rattle.driver_laws.specs.Feeds.{StayClosed}

-- nothing was made or sent, what had arrived has, and the same calls wait
pub record GoesOn (past later : Past) : Type 0 where
  pub done : acts later ≡ acts past
  pub grows : Grows past later
  pub waits : waiting_of later ≡ waiting_of past

pub same : (past : Past) → GoesOn past past
same past = record { done = refl; grows = λ ch n e. e; waits = refl }

told : (past : Past) (entry : Entry) (now : Past) → GoesOn past now → GoesOn past (with_told entry now)
told past entry now h = record {
  done = told_keeps (λ later. acts later ≡ acts past) entry now h.done (λ n es ds before e. e);
  grows = λ ch n e. arrival_told entry now ch n (h.grows ch n e);
  waits = told_keeps (λ later. waiting_of later ≡ waiting_of past) entry now h.waits (λ n es ds before e. e);
}

handed : (past : Past) (d : Delivered) (now : Past) → GoesOn past now → GoesOn past (with_handed d now)
handed past d now h = record {
  done = handed_keeps (λ later. acts later ≡ acts past) d now h.done (λ n es ds before e. e);
  grows = λ ch n e. arrival_handed d now ch n ∙ h.grows ch n e;
  waits = handed_keeps (λ later. waiting_of later ≡ waiting_of past) d now h.waits (λ n es ds before e. e);
}

entries_go : (end : End) (past now : Past) (entries : List Entry) → GoesOn past now
    → GoesOn past (after_entries end now entries)
entries_go end past now [] h = h
entries_go end past now (entry ∷ more) h =
    by (entry_result end now entry).cause
    (entry_runs end (GoesOn past) (λ d later g. handed past d later g) now entry h)
    (λ g. entries_go end past (with_told entry (entry_result end now entry).past) more g)
  where
    by : (c : Option Cause) → GoesOn past (entry_result end now entry).past
        → (GoesOn past (with_told entry (entry_result end now entry).past)
        → GoesOn past (after_entries end (with_told entry (entry_result end now entry).past) more))
        → GoesOn past (let later : Past = elim c [
          | None ↦ after_entries end
              (with_told entry (entry_result end now entry).past) more
          | Some cause ↦
              Ended (ByCause cause) ∷ (entry_result end now entry).past
        ] in later)
    by None g next = next (told past entry (entry_result end now entry).past g)
    by (Some cause) g next = record { done = g.done; grows = g.grows; waits = g.waits }

reading_goes : (end : End) (past : Past) (r : Result Packet (ℕ × Why)) → GoesOn past (after_reading end past r)
reading_goes end past (Err bad) = same past
reading_goes end past (Ok p) = elim (cases_Bool (is_new past p.number)) [
  | inl e ↦ rw e (entries_go end past (Took (unsigned_abs (number_near past p.number)) [] [] ∷ past)
      (entries_in end.version p) (record { done = refl; grows = λ ch n e. e; waits = refl }))
  | inr e ↦ rw e (same past)
]

pub got_goes : (end : End) (past : Past) (bytes : List ℕ) → GoesOn past (after_got end past bytes)
got_goes end past bytes = elim (cases_Bool (has_ended past)) [
  | inl e ↦ rw e (same past)
  | inr e ↦ rw e (reading_goes end past (packet_of end.version bytes))
]

-- ---- channels that were closed are closed

pub none_pends : (state : ActorState) → is_closed state ≡ true → is_pending state ≡ false
none_pends Closed e = refl
none_pends Opening e = absurd (false≢true e)
none_pends Opened e = absurd (false≢true e)
none_pends Closing e = absurd (false≢true e)
none_pends Asleep e = absurd (false≢true e)

pub goes_closed : (past later : Past) → GoesOn past later → StayClosed past later
goes_closed past later h a e =
    ap is_closed (state_stays past later a h.grows (mark_alike past later h.done a) (none_pends (state_of past a) e))
    ∙ e

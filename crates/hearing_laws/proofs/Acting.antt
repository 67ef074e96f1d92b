-- A datagram adds no act: nothing is made and nothing is sent by what is taken.
use Rattle.std.proofs.Common.{◌≡◌, ℕ, List, [], ◌∷◌, refl, ◌∙◌, Option, Some, None, Result, Ok, Err, inl, inr}
use Rattle.std.specs.Prelude.{unsigned_abs}
use Rattle.std.proofs.lemmas.Bool.{cases_Bool}
use Rattle.protocol_model.specs.Packet.{Packet}
use Rattle.protocol_model.specs.PacketReading.{packet_of}
use Rattle.protocol_model.specs.declared.Cause.{Cause}
use Rattle.protocol_model.specs.declared.Why.{Why}
use Rattle.connection_model.specs.Feed.{End, Past, Took, Ended, ByCause, Entry, Delivered, has_ended}
use Rattle.connection_model.specs.Fates.{number_near, is_new}
use Rattle.connection_model.specs.Verdict.{with_told, with_handed, entry_result, after_entries, entries_in, after_reading, after_got}
use Rattle.connection_laws.proofs.Moves.{told_keeps, handed_keeps}
use Rattle.connection_laws.proofs.Hearing.{entry_runs}
use Rattle.sender_laws.specs.Acts.{acts}

told_acts : (entry : Entry) (past : Past) → acts (with_told entry past) ≡ acts past
told_acts entry past = told_keeps (λ later. acts later ≡ acts past) entry past refl (λ n es ds before e. e)

handed_acts : (d : Delivered) (past : Past) → acts (with_handed d past) ≡ acts past
handed_acts d past = handed_keeps (λ later. acts later ≡ acts past) d past refl (λ n es ds before e. e)

entries_acts : (end : End) (past : Past) (entries : List Entry) → acts (after_entries end past entries) ≡ acts past
entries_acts end past [] = refl
entries_acts end past (entry ∷ more) =
    by (entry_result end past entry).cause
    (entry_runs end (λ later. acts later ≡ acts past) (λ d later e. handed_acts d later ∙ e) past entry refl)
    (entries_acts end (with_told entry (entry_result end past entry).past) more)
  where
    by : (c : Option Cause) → acts (entry_result end past entry).past ≡ acts past
        → acts (after_entries end (with_told entry (entry_result end past entry).past) more) ≡ acts
        (with_told entry (entry_result end past entry).past)
        → acts (let later : Past = elim c [
          | None ↦ after_entries end
              (with_told entry (entry_result end past entry).past) more
          | Some cause ↦
              Ended (ByCause cause) ∷ (entry_result end past entry).past
        ] in later) ≡ acts past
    by None e next = next ∙ told_acts entry (entry_result end past entry).past ∙ e
    by (Some cause) e next = e

reading_acts : (end : End) (past : Past) (r : Result Packet (ℕ × Why)) → acts (after_reading end past r) ≡ acts past
reading_acts end past (Err bad) = refl
reading_acts end past (Ok p) = elim (cases_Bool (is_new past p.number)) [
  | inl e ↦ rw e (entries_acts end (Took (unsigned_abs (number_near past p.number)) [] [] ∷ past)
      (entries_in end.version p))
  | inr e ↦ rw e refl
]

pub got_acts : (end : End) (past : Past) (bytes : List ℕ) → acts (after_got end past bytes) ≡ acts past
got_acts end past bytes = elim (cases_Bool (has_ended past)) [
  | inl e ↦ rw e refl
  | inr e ↦ rw e (reading_acts end past (packet_of end.version bytes))
]

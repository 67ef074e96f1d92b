-- A datagram goes on with a run, in each of its steps.
use Rattle.std.proofs.Common.{◌≡◌, inl, inr, ℕ, ◌<◌, List, [], ◌∷◌, true, refl, Option, Some, None, Result, Ok, Err, ℤ, pos, negsuc}
use Rattle.std.specs.Prelude.{int_lt, unsigned_abs}
use Rattle.std.proofs.lemmas.Bool.{cases_Bool, cond_both, false≢true, ltb-true}
use Rattle.protocol_model.specs.Packet.{Bunch, Packet}
use Rattle.protocol_model.specs.PacketReading.{packet_of}
use Rattle.protocol_model.specs.declared.Cause.{Cause}
use Rattle.protocol_model.specs.declared.Why.{Why}
use Rattle.connection_model.specs.Feed.{End, Past, Took, Ended, ByCause, Entry, Told, Acked, Heard, Delivered, has_ended}
use Rattle.connection_model.specs.Fates.{top_of, number_near, is_new}
use Rattle.connection_model.specs.Windows.{Received, received_on, offer_of, number_as, Offer, Repeat, Ready, Held, ready_bunches, applied_of, kept_of}
use Rattle.connection_model.specs.Verdict.{is_misplaced, bunch_result, with_told, with_handed, Progress, bunches_result, reliable_result, bunch_heard, ack_cause, entry_result, after_entries, entries_in, after_packet, after_reading, after_got}
use Rattle.connection_laws.specs.Run.{Takes, IsRun}
use Rattle.connection_laws.specs.Run.IsRun.{does}
use Rattle.connection_laws.proofs.LiveRuns.{IsLiveRun, IsDone, live_done, done_live, ended_done, runs_go, live_told, live_handed}

-- ---- one bunch

-- what stays when a payload is handed on stays when a bunch is heard
module _ (end : End) (Q : Past → Type 0) (hands : (d : Delivered) (past : Past) → Q past → Q (with_handed d past)) where
  pub bunches_run : (past : Past) (kept bunches : List Bunch) → Q past → Q (bunches_result end past kept bunches).past
  bunches_run past kept [] h = h
  bunches_run past kept (b ∷ bunches) h = by (bunch_result end past kept b) (λ k. bunches_run past k bunches h)
      (λ d. bunches_run (with_handed d past) [] bunches (hands d past h))
    where
      by : (r : Result (Option Delivered) Cause) → ((k : List Bunch) → Q (bunches_result end past k bunches).past)
          → ((d : Delivered) → Q (bunches_result end (with_handed d past) [] bunches).past)
          → Q (let p : Progress = elim r [
            | Err cause ↦ record { past = past; cause = Some cause }
            | Ok None ↦ bunches_result end past (b ∷ kept) bunches
            | Ok (Some d) ↦ bunches_result end (with_handed d past) [] bunches
          ] in p).past
      by (Err cause) f g = h
      by (Ok None) f g = f (b ∷ kept)
      by (Ok (Some d)) f g = g d

  reliable_runs : (past : Past) (b : Bunch) (got : List Received) (offer : Offer) → Q past → Q (reliable_result end past b got offer).past
  reliable_runs past b got Repeat h = h
  reliable_runs past b got (Held n) h = h
  reliable_runs past b got Ready h = bunches_run past (kept_of (applied_of got)) (ready_bunches got b) h

  pub heard_runs : (past : Past) (b : Bunch) → Q past → Q (bunch_heard end past b).past
  heard_runs past b h = elim (cases_Bool (is_misplaced end.side b)) [
    | inl e ↦ rw e h
    | inr e ↦ rw e (cond_both b.reliable
        (reliable_result end past b (received_on past b.channel) (offer_of (received_on past b.channel) (number_as (received_on past b.channel) b)))
        (bunches_result end past (kept_of (applied_of (received_on past b.channel))) (b ∷ [])) (λ (p : Progress). Q p.past)
        (λ r. reliable_runs past b (received_on past b.channel) (offer_of (received_on past b.channel) (number_as (received_on past b.channel) b)) h)
        (λ r. bunches_run past (kept_of (applied_of (received_on past b.channel))) (b ∷ []) h))
  ]

  -- ---- entries

  pub entry_runs : (past : Past) (entry : Entry) → Q past → Q (entry_result end past entry).past
  entry_runs past (Told head) h = h
  entry_runs past (Acked n) h = h
  entry_runs past (Heard b) h = heard_runs past b h

-- an entry that breaks no rule names no number above the last sent
pub entry_names : (end : End) (past : Past) (entry : Entry) → (entry_result end past entry).cause ≡ None → ack_cause (entry_result end past entry).past entry ≡ None
entry_names end past (Told head) e = e
entry_names end past (Acked n) e = e
entry_names end past (Heard b) e = refl

-- hearing entries goes on with a run
pub entries_run : (end : End) (past : Past) (entries : List Entry) → IsLiveRun (IsRun end) past → IsDone (IsRun end) (after_entries end past entries)
entries_run end past [] h = live_done (IsRun end) past h
entries_run end past (entry ∷ more) h =
    by (entry_result end past entry).cause refl (entry_runs end (IsLiveRun (IsRun end)) (λ d later q. live_handed end later d q) past entry h)
    (λ told. entries_run end (with_told entry (entry_result end past entry).past) more told)
  where
    by : (c : Option Cause) → (entry_result end past entry).cause ≡ c → IsLiveRun (IsRun end) (entry_result end past entry).past
        → (IsLiveRun (IsRun end) (with_told entry (entry_result end past entry).past) → IsDone (IsRun end) (after_entries end (with_told entry (entry_result end past entry).past) more))
        → IsDone (IsRun end) (let later : Past = elim c [ None ↦ after_entries end (with_told entry (entry_result end past entry).past) more | Some cause ↦ Ended (ByCause cause) ∷ (entry_result end past entry).past ] in later)
    by None e p next = next (live_told end (entry_result end past entry).past entry p (entry_names end past entry e))
    by (Some cause) e p next = ended_done end (IsRun end) (runs_go end) (entry_result end past entry).past (ByCause cause) p.run p.alive

-- ---- a packet

-- a number above the greatest one is new
pub new_number : (top : ℕ) (z : ℤ) → int_lt (pos top) z ≡ true → top < unsigned_abs z
new_number top (pos n) e = ltb-true top n e
new_number top (negsuc n) e = absurd (false≢true e)

-- the packet is begun
pub begun_runs : (end : End) (past : Past) (p : Packet) → IsLiveRun (IsRun end) past → is_new past p.number ≡ true → IsLiveRun (IsRun end) (Took (unsigned_abs (number_near past p.number)) [] [] ∷ past)
begun_runs end past p h e = record {
  run = does (Takes (unsigned_abs (number_near past p.number))) h.run h.alive (new_number (top_of past) (number_near past p.number) e);
  alive = h.alive;
  few = h.few;
}

-- hearing a packet goes on with a run
pub packet_runs : (end : End) (past : Past) (p : Packet) → IsLiveRun (IsRun end) past → is_new past p.number ≡ true → IsDone (IsRun end) (after_packet end past p)
packet_runs end past p h e =
    entries_run end (Took (unsigned_abs (number_near past p.number)) [] [] ∷ past) (entries_in end.version p) (begun_runs end past p h e)

-- reading a datagram goes on with a run
reading_runs : (end : End) (past : Past) (r : Result Packet (ℕ × Why)) → IsLiveRun (IsRun end) past → IsDone (IsRun end) (after_reading end past r)
reading_runs end past (Err bad) h = live_done (IsRun end) past h
reading_runs end past (Ok p) h = cond_both (is_new past p.number) (after_packet end past p) past (IsDone (IsRun end)) (λ e. packet_runs end past p h e) (λ e. live_done (IsRun end) past h)

-- a datagram goes on with a run
pub datagram_runs : (end : End) (past : Past) (bytes : List ℕ) → IsDone (IsRun end) past → IsDone (IsRun end) (after_got end past bytes)
datagram_runs end past bytes h = elim (cases_Bool (has_ended past)) [
  | inl e ↦ rw e h
  | inr e ↦ rw e (reading_runs end past (packet_of end.version bytes) (done_live (IsRun end) past h e))
]

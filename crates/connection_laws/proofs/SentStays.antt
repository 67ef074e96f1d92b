-- What was sent stays, and an event adds to it alone.
use Rattle.std.proofs.Common.{◌≡◌, ℕ, ◌+◌, List, [], ◌∷◌, ◌++◌, false, refl, sym, ap, ◌∙◌, Option, Some, None, Result, Ok, Err, append_assoc, append-nil}
use Rattle.std.specs.Prelude.{unsigned_abs}
use Rattle.std.proofs.lemmas.Bool.{cond_both}
use Rattle.protocol_model.specs.Packet.{Packet, spelling_of}
use Rattle.protocol_model.specs.PacketReading as Reading
use Rattle.protocol_model.specs.declared.Cause.{Cause}
use Rattle.protocol_model.specs.declared.Why.{Why}
use Rattle.protocol_model.specs.Payload.{Message, Calls}
use Rattle.protocol_model.specs.Value.{Arg}
use Rattle.protocol_model.specs.Value as Data
use Rattle.protocol_model.specs.declared.CallAnswer.{CallAnswer}
use Rattle.protocol_model.specs.declared.CallAnswer.TheVariants.{Queued, Dead, NotOpen, NotOwner, WindowFull}
use Rattle.connection_model.specs.Feed.{End, Past, Event, Tick, Got, Call, Waits, Took, Ended, ByCause, Entry, Delivered, has_ended}
use Rattle.connection_model.specs.Past.{past_of, sent_bytes, after_event}
use Rattle.connection_model.specs.Fates.{last_sent, is_new, number_near}
use Rattle.connection_model.specs.Bunches.{after_making}
use Rattle.connection_model.specs.CallAnswers.{call_channel, call_of, answer_of, queued_for, after_answer}
use Rattle.connection_model.specs.Pack.{packet_carrying}
use Rattle.connection_model.specs.Verdict.{with_told, with_handed, entry_result, after_entries, entries_in, after_packet, after_reading}
use Rattle.connection_laws.specs.Run.{Move, Ticks, Makes, Defers, Sends, Takes, Hears, Hands, Ends, after_move, May, IsRun}
use Rattle.connection_laws.specs.Run.IsRun.{does}
use Rattle.connection_laws.specs.SentStays.{SendsMore}
use Rattle.connection_laws.proofs.Moves.{making_keeps}
use Rattle.connection_laws.proofs.LiveRuns.{IsQuiet, Goes, IsDone}
use Rattle.connection_laws.proofs.Calling.{call_runs}
use Rattle.connection_laws.proofs.Hearing.{entry_runs}
use Rattle.connection_laws.proofs.Ticking.{tick_runs}
use Rattle.connection_laws.proofs.Feeds.{feed_done}

-- ---- what neither makes nor sends

-- making a message sends nothing
bytes_made : (end : End) (past : Past) (ch : ℕ) (m : Message) → sent_bytes end (after_making past ch m) ≡ sent_bytes end past
bytes_made end past ch m = making_keeps (λ i before. sent_bytes end before ≡ sent_bytes end past) past ch m refl (λ i before lt e. e)

-- hearing an entry sends nothing
bytes_told : (end : End) (entry : Entry) (past : Past) → sent_bytes end (with_told entry past) ≡ sent_bytes end past
bytes_told end entry (Took n es ds ∷ past) = refl
bytes_told end entry past = refl

-- handing a payload on sends nothing
bytes_handed : (end : End) (d : Delivered) (past : Past) → sent_bytes end (with_handed d past) ≡ sent_bytes end past
bytes_handed end d (Took n es ds ∷ past) = refl
bytes_handed end d past = refl

-- ---- a tick and a call

-- each move adds to what was sent
more_step : (end : End) (before past : Past) (move : Move) → IsQuiet move → IsRun end past × SendsMore end before past → has_ended past ≡ false → May end past move → IsRun end (after_move past move) × SendsMore end before (after_move past move)
more_step end before past (Ticks sight) quiet h alive may = (does (Ticks sight) h.0 alive may, (h.1.0, h.1.1))
more_step end before past (Makes ch m) quiet h alive may = (does (Makes ch m) h.0 alive may, (h.1.0, bytes_made end past ch m ∙ h.1.1))
more_step end before past (Defers m) quiet h alive may = (does (Defers m) h.0 alive may, (h.1.0, h.1.1))
more_step end before past (Sends items) quiet h alive may = (
  does (Sends items) h.0 alive may,
  (
    h.1.0 ++ spelling_of end.version (packet_carrying end past (last_sent past + 1) items) ∷ [],
    ap (λ (l : List (List ℕ)). l ++ spelling_of end.version (packet_carrying end past (last_sent past + 1) items) ∷ []) h.1.1
        ∙ append_assoc (sent_bytes end before) h.1.0 (spelling_of end.version (packet_carrying end past (last_sent past + 1) items) ∷ []),
  ),
)
more_step end before past (Takes n) quiet h alive may = absurd quiet
more_step end before past (Hears entry) quiet h alive may = absurd quiet
more_step end before past (Hands d) quiet h alive may = absurd quiet
more_step end before past (Ends g) quiet h alive may = (does (Ends g) h.0 alive may, (h.1.0, h.1.1))

-- so do moves in a row
more_goes : (end : End) (before : Past) → Goes end (λ (past : Past). IsRun end past × SendsMore end before past)
more_goes end before = record { is_run = λ past h. h.0; goes = more_step end before }

-- ---- a datagram

-- hearing entries sends nothing
entries_send : (end : End) (bytes : List (List ℕ)) (entries : List Entry) (now : Past) → sent_bytes end now ≡ bytes → sent_bytes end (after_entries end now entries) ≡ bytes
entries_send end bytes [] now e = e
entries_send end bytes (entry ∷ more) now e =
    by (entry_result end now entry).cause (entry_runs end (λ (p : Past). sent_bytes end p ≡ bytes) (λ d p q. bytes_handed end d p ∙ q) now entry e)
    (λ q. entries_send end bytes more (with_told entry (entry_result end now entry).past) q)
  where
    by : (c : Option Cause) → sent_bytes end (entry_result end now entry).past ≡ bytes
        → (sent_bytes end (with_told entry (entry_result end now entry).past) ≡ bytes → sent_bytes end (after_entries end (with_told entry (entry_result end now entry).past) more) ≡ bytes)
        → sent_bytes end (let later : Past = elim c [ None ↦ after_entries end (with_told entry (entry_result end now entry).past) more | Some cause ↦ Ended (ByCause cause) ∷ (entry_result end now entry).past ] in later) ≡ bytes
    by None q next = next (bytes_told end entry (entry_result end now entry).past ∙ q)
    by (Some cause) q next = q

-- reading a datagram sends nothing
reading_sends : (end : End) (past : Past) (r : Result Packet (ℕ × Why)) → sent_bytes end (after_reading end past r) ≡ sent_bytes end past
reading_sends end past (Err bad) = refl
reading_sends end past (Ok p) =
    cond_both (is_new past p.number) (after_packet end past p) past (λ (later : Past). sent_bytes end later ≡ sent_bytes end past)
    (λ e. entries_send end (sent_bytes end past) (entries_in end.version p) (Took (unsigned_abs (number_near past p.number)) [] [] ∷ past) refl) (λ e. refl)

-- ---- events

-- nothing more is no less
nothing_more : (end : End) (past : Past) → SendsMore end past past
nothing_more end past = ([], sym (append-nil (sent_bytes end past)))

-- each event adds to what was sent
event_sends : (end : End) (past : Past) (event : Event) → IsDone (IsRun end) past → SendsMore end past (after_event end past event)
event_sends end past (Tick sight) h =
    (tick_runs end (λ (p : Past). IsRun end p × SendsMore end past p) (more_goes end past) past sight
    (λ q alive. (does (Ticks sight) q.0 alive tt, (q.1.0, q.1.1))) (record { run = (h.run, nothing_more end past); few = h.few })).run.1
event_sends end past (Call a n args) h =
    (call_runs end (λ (p : Past). IsRun end p × SendsMore end past p) (more_goes end past) past (record { run = (h.run, nothing_more end past); few = h.few }) a n args).run.1
event_sends end past (Got bytes) h =
    cond_both (has_ended past) past (after_reading end past (Reading.packet_of end.version bytes)) (SendsMore end past) (λ e. nothing_more end past)
    (λ e. ([], reading_sends end past (Reading.packet_of end.version bytes) ∙ sym (append-nil (sent_bytes end past))))

-- a datagram sends nothing
pub got_sends : (end : End) (past : Past) (bytes : List ℕ) → sent_bytes end (after_event end past (Got bytes)) ≡ sent_bytes end past
got_sends end past bytes =
    cond_both (has_ended past) past (after_reading end past (Reading.packet_of end.version bytes)) (λ (later : Past). sent_bytes end later ≡ sent_bytes end past) (λ e. refl)
    (λ e. reading_sends end past (Reading.packet_of end.version bytes))

-- queueing a call sends nothing
queued_sends : (end : End) (past : Past) (a n : ℕ) (args : List Arg) (o : Option ℕ) (c : Option Data.Call) → sent_bytes end (queued_for past a n args o c) ≡ sent_bytes end past
queued_sends end past a n args None c = refl
queued_sends end past a n args (Some ch) None = refl
queued_sends end past a n args (Some ch) (Some call) =
    cond_both call.reliable (after_making past ch (Calls a n call args)) (Waits (Calls a n call args) ∷ past) (λ (later : Past). sent_bytes end later ≡ sent_bytes end past)
    (λ e. bytes_made end past ch (Calls a n call args)) (λ e. refl)

-- answering a call sends nothing
answered_sends : (end : End) (past : Past) (a n : ℕ) (args : List Arg) (answer : CallAnswer) → sent_bytes end (after_answer end.side past a n args answer) ≡ sent_bytes end past
answered_sends end past a n args Queued = queued_sends end past a n args (call_channel end.side past a) (call_of end.side past a n args)
answered_sends end past a n args Dead = refl
answered_sends end past a n args NotOpen = refl
answered_sends end past a n args NotOwner = refl
answered_sends end past a n args WindowFull = refl

-- nor does a call
pub call_sends : (end : End) (past : Past) (a n : ℕ) (args : List Arg) → sent_bytes end (after_event end past (Call a n args)) ≡ sent_bytes end past
call_sends end past a n args = answered_sends end past a n args (answer_of end.side past a n args)

-- an event adds to what was sent, and changes none of it
pub sends_more : (end : End) (feed : List Event) (event : Event) → SendsMore end (past_of end feed) (past_of end (event ∷ feed))
sends_more end feed event = event_sends end (past_of end feed) event (feed_done end feed)

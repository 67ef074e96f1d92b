-- Only a tick sends: what an end hears, and the calls made to it, add no packet.
use Rattle.std.proofs.Common.{◌≡◌, ℕ, ◌+◌, List, [], ◌∷◌, Bool, true, false, Option, Some, None, Result, Ok, Err, refl, ◌∙◌, if◌then◌else◌}
use Rattle.std.specs.List.{fold, range_with_len}
use Rattle.protocol_model.specs.Side.{Side}
use Rattle.protocol_model.specs.Value.{Arg, Call}
use Rattle.protocol_model.specs.Packet.{Bunch, Packet}
use Rattle.protocol_model.specs.PacketReading.{packet_of}
use Rattle.protocol_model.specs.Payload.{Message, Calls, parts_of}
use Rattle.protocol_model.specs.declared.Cause.{Cause}
use Rattle.protocol_model.specs.declared.Why.{Why}
use Rattle.protocol_model.specs.declared.CallAnswer.{CallAnswer}
use Rattle.protocol_model.specs.declared.CallAnswer.TheVariants as answer
use Rattle.connection_model.specs.Feed.{End, Past, Ticked, Made, Waits, Sent, Took, Ended, ByCause, Entry, Told, Acked, Heard, Delivered, has_ended}
use Rattle.connection_model.specs.Fates.{is_new}
use Rattle.connection_model.specs.Bunches.{made_count, after_making}
use Rattle.connection_model.specs.Windows.{Received, received_on, Offer, Repeat, Ready, Held, offer_of, number_as, ready_bunches, applied_of, kept_of}
use Rattle.connection_model.specs.CallAnswers.{after_call, after_answer, queued_for, answer_of, call_channel, call_of}
use Rattle.connection_model.specs.Past.{sent_bytes}
use Rattle.connection_model.specs.Verdict.{Progress, bunch_result, bunches_result, reliable_result, bunch_heard, is_misplaced, entry_result, after_entries, after_packet, after_reading, after_got, with_told, with_handed, entries_in}

told_sends : (end : End) (entry : Entry) (past : Past) → sent_bytes end (with_told entry past) ≡ sent_bytes end past
told_sends end entry [] = refl
told_sends end entry (Took number entries handed ∷ past) = refl
told_sends end entry (Ticked t sight ∷ past) = refl
told_sends end entry (Made channel number message i ∷ past) = refl
told_sends end entry (Waits message ∷ past) = refl
told_sends end entry (Sent number t items ∷ past) = refl
told_sends end entry (Ended ending ∷ past) = refl

handed_sends : (end : End) (d : Delivered) (past : Past) → sent_bytes end (with_handed d past) ≡ sent_bytes end past
handed_sends end d [] = refl
handed_sends end d (Took number entries handed ∷ past) = refl
handed_sends end d (Ticked t sight ∷ past) = refl
handed_sends end d (Made channel number message i ∷ past) = refl
handed_sends end d (Waits message ∷ past) = refl
handed_sends end d (Sent number t items ∷ past) = refl
handed_sends end d (Ended ending ∷ past) = refl

bunch_sends : (end : End) (past : Past) (kept : List Bunch) (b : Bunch) (more : List Bunch)
    (r : Result (Option Delivered) Cause)
    → bunch_result end past kept b ≡ r
    → ((after : Past) (kept : List Bunch)
    → sent_bytes end (bunches_result end after kept more).past ≡ sent_bytes end after)
    → sent_bytes end (bunches_result end past kept (b ∷ more)).past ≡ sent_bytes end past
bunch_sends end past kept b more (Err cause) e later = rw (e, bunches_result) refl
bunch_sends end past kept b more (Ok None) e later = rw (e, bunches_result) (later past (b ∷ kept))
bunch_sends end past kept b more (Ok (Some d)) e later =
    rw (e, bunches_result) (later (with_handed d past) [] ∙ handed_sends end d past)

bunches_send : (end : End) (past : Past) (kept bunches : List Bunch)
    → sent_bytes end (bunches_result end past kept bunches).past ≡ sent_bytes end past
bunches_send end past kept [] = refl
bunches_send end past kept (b ∷ more) =
    bunch_sends end past kept b more (bunch_result end past kept b) refl
    (λ after kept. bunches_send end after kept more)

by_case : (f : Progress → List (List ℕ)) (m r : Bool) (x a b : Progress) (y : List (List ℕ)) → f x ≡ y → f a ≡ y
    → f b ≡ y
    → f (if m then x else if r then a else b) ≡ y
by_case f true r x a b y hx ha hb = hx
by_case f false true x a b y hx ha hb = ha
by_case f false false x a b y hx ha hb = hb

offer_sends : (end : End) (past : Past) (b : Bunch) (got : List Received) (o : Offer)
    → sent_bytes end (reliable_result end past b got o).past ≡ sent_bytes end past
offer_sends end past b got Repeat = refl
offer_sends end past b got (Held n) = refl
offer_sends end past b got Ready = bunches_send end past (kept_of (applied_of got)) (ready_bunches got b)

heard_sends : (end : End) (past : Past) (b : Bunch)
    → sent_bytes end (bunch_heard end past b).past ≡ sent_bytes end past
heard_sends end past b =
    by_case (λ (p : Progress). sent_bytes end p.past) (is_misplaced end.side b) b.reliable _ _ _ _ refl
    (offer_sends end past b (received_on past b.channel)
    (offer_of (received_on past b.channel) (number_as (received_on past b.channel) b)))
    (bunches_send end past (kept_of (applied_of (received_on past b.channel))) (b ∷ []))

entry_sends : (end : End) (past : Past) (entry : Entry)
    → sent_bytes end (entry_result end past entry).past ≡ sent_bytes end past
entry_sends end past (Heard b) = heard_sends end past b
entry_sends end past (Acked number) = refl
entry_sends end past (Told head) = refl

goes_on : (end : End) (past : Past) (entry : Entry) (more : List Entry) (p : Progress) (cause : Option Cause)
    → ((after : Past) → sent_bytes end (after_entries end after more) ≡ sent_bytes end after)
    → sent_bytes end p.past ≡ sent_bytes end past
    → sent_bytes end (elim cause
    [ None ↦ after_entries end (with_told entry p.past) more | Some bad ↦ Ended (ByCause bad) ∷ p.past ])
    ≡ sent_bytes end past
goes_on end past entry more p None later e = later (with_told entry p.past) ∙ told_sends end entry p.past ∙ e
goes_on end past entry more p (Some bad) later e = e

entries_send : (end : End) (past : Past) (entries : List Entry)
    → sent_bytes end (after_entries end past entries) ≡ sent_bytes end past
entries_send end past [] = refl
entries_send end past (entry ∷ more) =
    goes_on end past entry more (entry_result end past entry) (entry_result end past entry).cause
    (λ after. entries_send end after more) (entry_sends end past entry)

if_sends : (end : End) (b : Bool) (x y past : Past) → sent_bytes end x ≡ sent_bytes end past
    → sent_bytes end y ≡ sent_bytes end past
    → sent_bytes end (if b then x else y) ≡ sent_bytes end past
if_sends end true x y past hx hy = hx
if_sends end false x y past hx hy = hy

reading_sends : (end : End) (past : Past) (r : Result Packet (ℕ × Why))
    → sent_bytes end (after_reading end past r) ≡ sent_bytes end past
reading_sends end past (Err bad) = refl
reading_sends end past (Ok p) =
    if_sends end (is_new past p.number) (after_packet end past p) past past
    (entries_send end _ (entries_in end.version p)) refl

-- a datagram adds no packet
pub got_sends : (end : End) (past : Past) (bytes : List ℕ)
    → sent_bytes end (after_got end past bytes) ≡ sent_bytes end past
got_sends end past bytes =
    if_sends end (has_ended past) past (after_reading end past (packet_of end.version bytes)) past refl
    (reading_sends end past (packet_of end.version bytes))

making_sends : (end : End) (past before : Past) (ch : ℕ) (message : Message) (is : List ℕ)
    → sent_bytes end (fold (λ (before : Past) (i : ℕ). Made ch (made_count past ch + 1 + i) message i ∷ before) before
    is) ≡ sent_bytes end before
making_sends end past before ch message [] = refl
making_sends end past before ch message (i ∷ is) =
    making_sends end past (Made ch (made_count past ch + 1 + i) message i ∷ before) ch message is

queued_sends : (end : End) (past : Past) (a n : ℕ) (args : List Arg) (ch : Option ℕ) (call : Option Call)
    → sent_bytes end (queued_for past a n args ch call) ≡ sent_bytes end past
queued_sends end past a n args None None = refl
queued_sends end past a n args None (Some call) = refl
queued_sends end past a n args (Some ch) None = refl
queued_sends end past a n args (Some ch) (Some call) =
    if_sends end call.reliable (after_making past ch (Calls a n call args)) (Waits (Calls a n call args) ∷ past) past
    (making_sends end past past ch (Calls a n call args) (range_with_len 0 (parts_of (Calls a n call args)))) refl

answer_sends : (end : End) (side : Side) (past : Past) (a n : ℕ) (args : List Arg) (said : CallAnswer)
    → sent_bytes end (after_answer side past a n args said) ≡ sent_bytes end past
answer_sends end side past a n args answer.Queued =
    queued_sends end past a n args (call_channel side past a) (call_of side past a n args)
answer_sends end side past a n args answer.Dead = refl
answer_sends end side past a n args answer.NotOpen = refl
answer_sends end side past a n args answer.NotOwner = refl
answer_sends end side past a n args answer.WindowFull = refl

-- a call adds no packet
pub call_sends : (end : End) (side : Side) (past : Past) (a n : ℕ) (args : List Arg)
    → sent_bytes end (after_call side past a n args) ≡ sent_bytes end past
call_sends end side past a n args = answer_sends end side past a n args (answer_of side past a n args)

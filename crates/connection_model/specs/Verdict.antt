-- What an end makes of a datagram: Taken, Old, Malformed, Closed with its cause, or Dead.
-- Entries are applied from left to right up to the first that breaks a rule, which closes the end; what was done by
-- then stays. The order of the rules is part of the format.
use Rattle.std.specs.Prelude.{ℕ, ◌-◌, ◌==◌, List, [], ◌∷◌, map, length, Bool, true, false, not, ◌&&◌, ◌||◌, nat_lt, nat_le, Option, Some, None, is_some, is_none, Result, Ok, Err, if◌then◌else◌, pos, int_lt, unsigned_abs}
use Rattle.protocol_model.specs.Reading.{Fault, Broken}
use Rattle.protocol_model.specs.declared.Version.{Version}
use Rattle.protocol_model.specs.declared.Version.TheVariants.{One, Two}
use Rattle.protocol_model.specs.Packet.{Bunch, Rec, Ack, Sends, Packet}
use Rattle.protocol_model.specs.declared.Why.{Why}
use Rattle.protocol_model.specs.PacketReading.{packet_of}
use Rattle.protocol_model.specs.Payload.{Message, actor_of}
use Rattle.protocol_model.specs.declared.Cause.{Cause}
use Rattle.protocol_model.specs.declared.Cause.TheVariants.{BadAck, BadChannel, BadPart, BadPayload, Overrun}
use Rattle.connection_model.specs.Feed.{End, Past, Took, Ended, ByCause, Entry, Told, Acked, Heard, Delivered, has_ended}
use Rattle.protocol_model.specs.Side.{Side, AtServer, AtClient}
use Rattle.connection_model.specs.Fates.{top_of, number_near, is_new, named_by, high_of, last_sent}
use Rattle.connection_model.specs.Windows.{Received, received_on, offer_of, number_as, Offer, Repeat, Ready, Held, ready_bunches, applied_of, kept_of, held_count, part_fault, joined_bits, first_of, ends_payload}
use Rattle.connection_model.specs.State.{holds}
use Rattle.connection_model.specs.Copies.{copy_on, copy_channel, is_on}
use Rattle.connection_model.specs.PayloadReading.{payload_at}
use Rattle.std.specs.Bool.{then_some}
use Rattle.protocol_model.specs.Limits.{held_limit}
use Rattle.protocol_model.specs.Search.{newest_of}
use Rattle.protocol_model.specs.declared.Verdict.{Verdict}
use Rattle.protocol_model.specs.declared.Verdict.TheVariants.{Taken, Malformed, Old, Closed, Dead}

-- ---- one bunch

-- the kind fits the channel; channel 0 has plain reliable bunches alone; nothing opens or closes at the server
abbrev pub is_misplaced : Side → Bunch → Bool
is_misplaced side b =
    (b.reliable && not (b.kind == (if b.channel == 0 then 1 else 2)))
    || (b.channel == 0 && (not b.reliable || b.opens || b.closes))
    || (is_server side && (b.opens || b.closes))
  where
    is_server : Side → Bool
    is_server AtServer = true
    is_server AtClient = false

-- at the client an open needs a channel without a copy, and any other bunch one with a copy, or with a first
-- part that is kept
abbrev pub lacks_copy : Side → Past → (kept : List Bunch) → Bunch → Bool
lacks_copy AtServer past kept b = false
lacks_copy AtClient past kept b =
    not (b.channel == 0)
    && (if b.opens then is_some (copy_on past b.channel)
    else is_none (copy_on past b.channel) && not (b.reliable && nat_lt 0 (length kept)))

-- the actor of a payload holds the channel now
abbrev pub holds_now : Side → Past → (actor channel : ℕ) → Bool
holds_now AtServer past a ch = holds past a ch
holds_now AtClient past a ch = is_on ch (copy_channel past a)

-- a payload as it is handed on
abbrev pub delivery_of : End → Past → Bunch → Message → Delivered
delivery_of end past first message =
    record {
      channel = first.channel;
      reliable = first.reliable;
      held = holds_now end.side past (actor_of message) first.channel;
      message = message;
    }

-- the cause that a fault of the payload gives
abbrev pub payload_cause : (channel total : ℕ) → Fault (Option Cause) → Cause
payload_cause ch total (Broken left (Some cause)) = cause
payload_cause ch total (Broken left None) = BadPayload ch (total - left)
payload_cause ch total Fault.Short = BadPayload ch total

-- a whole payload is handed on, or it closes the end
abbrev pub payload_result : End → Past → Bunch → List Bool → Result (Option Delivered) Cause
payload_result end past first bits = elim (payload_at end past first bits) [
  | Ok got ↦ Ok (Some (delivery_of end past first got.0))
  | Err fault ↦ Err (payload_cause first.channel (length bits) fault)
]

-- a bunch whose turn it is: it joins the parts kept, and may end a payload
abbrev pub bunch_result : End → Past → (kept : List Bunch) → Bunch → Result (Option Delivered) Cause
bunch_result end past kept b =
    if lacks_copy end.side past kept b then Err (BadChannel b.channel)
    else elim (part_fault kept b b.part) [
      | Some why ↦ Err (BadPart b.channel why)
      | None ↦ if ends_payload b then payload_result end past (first_of kept_before b) (joined_bits kept_before b)
          else Ok None
    ]
  where
    kept_before : List Bunch
    kept_before = if b.reliable then kept else []

-- ---- one entry

-- the packet under way handed on one more payload
abbrev pub with_handed : Delivered → Past → Past
with_handed d (Took number entries handed ∷ past) = Took number entries (d ∷ handed) ∷ past
with_handed d past = past

-- the packet under way told one more entry
abbrev pub with_told : Entry → Past → Past
with_told entry (Took number entries handed ∷ past) = Took number (entry ∷ entries) handed ∷ past
with_told entry past = past

-- what came of an entry, or of a part of it: the past by then, and the rule that it broke
pub record Progress : Type 0 where
  pub past : Past
  pub cause : Option Cause

-- bunches one after another, up to the first that breaks a rule
abbrev pub bunches_result : End → Past → (kept : List Bunch) → List Bunch → Progress
bunches_result end past kept [] = record { past = past; cause = None }
bunches_result end past kept (b ∷ bunches) = elim (bunch_result end past kept b) [
  | Err cause ↦ record { past = past; cause = Some cause }
  | Ok None ↦ bunches_result end past (b ∷ kept) bunches
  | Ok (Some d) ↦ bunches_result end (with_handed d past) [] bunches
]

-- the connection holds as many bunches past gaps as it may already
abbrev pub overrun_cause : Past → (channel : ℕ) → Option Cause
overrun_cause past ch = then_some (nat_le held_limit (held_count past)) (Overrun ch)

-- a reliable bunch with the next number goes with the held ones that follow it
abbrev pub reliable_result : End → Past → Bunch → List Received → Offer → Progress
reliable_result end past b got Repeat = record { past = past; cause = None }
reliable_result end past b got (Held n) = record { past = past; cause = overrun_cause past b.channel }
reliable_result end past b got Ready = bunches_result end past (kept_of (applied_of got)) (ready_bunches got b)

-- what comes of a bunch
abbrev pub bunch_heard : End → Past → Bunch → Progress
bunch_heard end past b =
    let got = received_on past b.channel in
    if is_misplaced end.side b then record { past = past; cause = Some (BadChannel b.channel) }
    else if b.reliable then reliable_result end past b got (offer_of got (number_as got b))
    else bunches_result end past (kept_of (applied_of got)) (b ∷ [])

-- the greatest number that the entry names, if it is above the last sent
abbrev pub ack_cause : Past → Entry → Option Cause
ack_cause past entry =
    newest_of (λ a. then_some (int_lt (pos (last_sent past)) a) (BadAck a (last_sent past)))
    (named_by entry (high_of past))

-- what comes of an entry
abbrev pub entry_result : End → Past → Entry → Progress
entry_result end past (Heard b) = bunch_heard end past b
entry_result end past entry = record { past = past; cause = ack_cause past entry }

-- ---- one packet

-- entries one after another, up to the first bad one; what was done by then stays
abbrev pub after_entries : End → Past → List Entry → Past
after_entries end past [] = past
after_entries end past (entry ∷ more) =
    after (entry_result end past entry) (λ later. after_entries end (with_told entry later) more)
  where
    after : Progress → (Past → Past) → Past
    after progress next = elim progress.cause
        [ None ↦ next progress.past | Some cause ↦ Ended (ByCause cause) ∷ progress.past ]

-- what an entry of a packet tells
abbrev pub entry_of : Rec → Entry
entry_of (Ack number) = Acked number
entry_of (Sends bunch) = Heard bunch

-- in version Two the head counts as the first entry
abbrev pub entries_in : Version → Packet → List Entry
entries_in One p = map entry_of p.recs
entries_in Two p = Told p.head ∷ map entry_of p.recs

-- the past after a packet that is taken
abbrev pub after_packet : End → Past → Packet → Past
after_packet end past p =
    after_entries end (Took (unsigned_abs (number_near past p.number)) [] [] ∷ past) (entries_in end.version p)

-- Closed where the packet ended the end, else Taken
abbrev pub verdict_after : Past → (number : ℕ) → Verdict
verdict_after (Ended (ByCause cause) ∷ past) number = Closed cause
verdict_after past number = Taken number

-- the verdict on what was read, at an end that is alive
abbrev pub verdict_on : End → Past → Result Packet (ℕ × Why) → Verdict
verdict_on end past (Err bad) = Malformed bad.0 bad.1
verdict_on end past (Ok p) =
    if is_new past p.number then verdict_after (after_packet end past p)
    (unsigned_abs (number_near past p.number))
    else Old (number_near past p.number) (top_of past)

-- what the end says of a datagram
abbrev pub verdict_of : End → Past → List ℕ → Verdict
verdict_of end past bytes = if has_ended past then Dead else verdict_on end past (packet_of end.version bytes)

-- the past after what was read, at an end that is alive
abbrev pub after_reading : End → Past → Result Packet (ℕ × Why) → Past
after_reading end past (Err bad) = past
after_reading end past (Ok p) = if is_new past p.number then after_packet end past p else past

-- what a datagram adds to the past; nothing where it is malformed or old, or the end is dead
abbrev pub after_got : End → Past → List ℕ → Past
after_got end past bytes = if has_ended past then past else after_reading end past (packet_of end.version bytes)

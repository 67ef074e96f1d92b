-- What comes of payloads, bunches and packets that a client hears.
use Rattle.std.specs.Prelude.{◌≡◌, ℕ, List, [], ◌∷◌, reverse, Bool, false, Option, Some, None, Result, Ok, Err, ⊤}
use Rattle.std.specs.List.{fold, AllByRecursion}
use Rattle.protocol_model.specs.Value.{Segment}
use Rattle.protocol_model.specs.Packet.{Bunch, Packet}
use Rattle.protocol_model.specs.Payload.{Message as MessageSpec}
use Rattle.protocol_model.specs.Reading.{Fault, Broken}
use Rattle.protocol_model.specs.declared.Cause.{Cause}
use Rattle.protocol_model.specs.declared.Verdict.{Verdict}
use Rattle.protocol_model.specs.declared.Verdict.TheVariants.{Taken, Closed}
use Rattle.protocol_model.specs.declared.Version.{Version}
use Rattle.connection_model.specs.Feed.{End, Past, Took, Entry, Told, Acked, Heard, Delivered, Ended, ByCause, has_ended}
use Rattle.connection_model.specs.Handed.{handed_by, client_verdict}
use Rattle.connection_model.specs.Names.{names_of, names_with}
use Rattle.connection_model.specs.Verdict.{payload_result, payload_cause, delivery_of, entries_in, after_packet}
use Rattle.class_layout.specs.Tables.{Layout}
use Rattle.value_codec.specs.declared.handed.Handed.{Handed}
use Rattle.receiving_laws.specs.Receiving.{Raw, read_from}
use Rattle.receiving_laws.specs.Readings.{AreRead}
use Rattle.client_laws.specs.Holding.{AllCame}
use Rattle.handovers.specs.Handovers.{Handover, handovers}
use Rattle.hearing_laws.specs.Courses.{Taking, during, heard_then, Leads, handed_since}
use Rattle.link_end.specs.Link.{Link}
use Rattle.link_end.specs.Rests.{Rests}
use Rattle.link_end.specs.News.{News, Moves, Hears as HearsBunch}
use Rattle.link_end.specs.Answers.{IsArrival}
use Rattle.link_end.specs.declared.arrival.Arrival.{Arrival}
use Rattle.payload_reading.specs.declared.stop.Stop.{Stop}
use Rattle.netguid_map.specs.declared.names.Learnt.{Learnt}
use Rattle.netguid_map.specs.Names.{Stands as StandNames}
use Rattle.actor_copies.specs.declared.copy.ActorCopy.{ActorCopy}
use Rattle.actor_copies.specs.declared.copy.ReadOpen.{ReadOpen}
use Rattle.actor_copies.specs.Applied.{open_message}
use Rattle.actor_copies.specs.Stands.{Stands as StandCopies}
use Rattle.client_payloads.specs.declared.payloads.Payload.{Payload}
use Rattle.client_payloads.specs.Messages.{unopened_payload}
use Rattle.channel_table.specs.Channels.{Channels}
use Rattle.channel_table.specs.Holders.{Bound}
use Rattle.client_hearing.specs.declared.halt.Halt.{Halt}
use Rattle.client_hearing.specs.Keeping.{Keeps, end_as}
use Rattle.client_hearing.specs.Moments.{Moment, past_at, handing, AreHanded, Reads, Hears, IsFit}

-- why no more is heard once the reading of a payload of so many bits stopped
abbrev pub halt_of : (channel total : ℕ) → Stop → Halt
halt_of ch total Stop.Short = Halt.Broken (payload_cause ch total Fault.Short)
halt_of ch total (Stop.Broken left cause) = Halt.Broken (payload_cause ch total (Broken left cause))
halt_of ch total Stop.Memory = Halt.Memory

-- ---- one payload

-- what a client makes of a whole payload
abbrev pub result_of : Layout → Version → Past → Raw → Result (Option Delivered) Cause
result_of layout version past raw = payload_result (end_as layout version) past raw.0 raw.1

-- the payload as it is handed on, which was read as this message
abbrev pub delivery : Layout → Version → Past → Raw → MessageSpec → Delivered
delivery layout version past raw message =
    delivery_of (end_as layout version) past raw.0 message

-- an open is read, and its exports are learnt
abbrev pub IsOpenHeard : Layout → Version → Past → Raw → (after : List (ℕ × Learnt))
    → Result ReadOpen Halt → Type 0
IsOpenHeard layout version past raw after (Ok o) =
    (exports : List Segment)
    × (result_of layout version past raw
    ≡ Ok (Some (delivery layout version past raw (open_message layout exports o))))
    × StandNames after (fold names_with (names_of past) exports)
IsOpenHeard layout version past raw after (Err (Halt.Broken cause)) =
    result_of layout version past raw ≡ Err cause
IsOpenHeard layout version past raw after (Err Halt.Memory) = ⊤

-- a payload that doesn't open is read
abbrev pub IsUnopenedHeard : Layout → Version → List ActorCopy → Past → Raw → (channel : ℕ)
    → (sleeps : Bool) → Result Payload Halt → Type 0
IsUnopenedHeard layout version copies past raw ch sleeps (Ok p) =
    result_of layout version past raw
    ≡ Ok (Some (delivery layout version past raw (unopened_payload layout copies ch sleeps p)))
IsUnopenedHeard layout version copies past raw ch sleeps (Err (Halt.Broken cause)) =
    result_of layout version past raw ≡ Err cause
IsUnopenedHeard layout version copies past raw ch sleeps (Err Halt.Memory) = ⊤

-- a payload is handed on and applied, or it breaks a rule
abbrev pub IsHeard : Layout → Version → (bound : Bound) → (names : List (ℕ × Learnt))
    → List ActorCopy → (calls : List Handed) → Moment → Raw → Result Unit Halt → Type 0
IsHeard layout version bound names copies calls w raw (Ok done) =
    (d : Delivered) × (result_of layout version (past_at w) raw ≡ Ok (Some d))
    × Reads layout version bound names copies calls (handing d w)
IsHeard layout version bound names copies calls w raw (Err (Halt.Broken cause)) =
    (result_of layout version (past_at w) raw ≡ Err cause)
    × StandCopies layout copies (past_at w) × AreHanded layout calls w.handed
IsHeard layout version bound names copies calls w raw (Err Halt.Memory) = ⊤

-- ---- the payloads of a bunch

-- with these payloads handed on in all
abbrev pub with_payloads : List Delivered → Moment → Moment
with_payloads payloads w = record w { handed = payloads }

-- payloads are handed on one after another, whatever comes after them, or up to one that breaks a
-- rule
abbrev pub AreHeard : Layout → Version → (bound : Bound) → (names : List (ℕ × Learnt))
    → List ActorCopy → (calls : List Handed) → Moment → (channel : ℕ) → List Raw
    → Result Unit Halt → Type 0
AreHeard layout version bound names copies calls w ch raws (Ok done) =
    (payloads : List Delivered)
    × ((cause : Option Cause) → read_from (end_as layout version) (past_at w) raws cause
    ≡ record { past = past_at (with_payloads payloads w); cause = cause })
    × Reads layout version bound names copies calls (with_payloads payloads w)
    × AreRead raws w.handed payloads
    × AllCame (past_at w) (past_at (with_payloads payloads w)) ch raws
AreHeard layout version bound names copies calls w ch raws (Err (Halt.Broken cause)) =
    (payloads : List Delivered)
    × ((last : Option Cause) → read_from (end_as layout version) (past_at w) raws last
    ≡ record { past = past_at (with_payloads payloads w); cause = Some cause })
    × StandCopies layout copies (past_at (with_payloads payloads w))
    × AreHanded layout calls payloads
AreHeard layout version bound names copies calls w ch raws (Err Halt.Memory) = ⊤

-- ---- entries

-- a bunch is heard, or breaks a rule
abbrev pub IsBunchHeard : Layout → Version → Channels → (names : List (ℕ × Learnt))
    → List ActorCopy → (calls : List Handed) → Moment → Bunch → Result Unit Halt → Type 0
IsBunchHeard layout version table names copies calls w b (Ok done) =
    (payloads : List Delivered)
    × (heard_then w.taking w.entries w.handed b
    ≡ record { past = past_at (with_payloads payloads w); cause = None })
    × Hears layout version table names copies calls w.taking payloads
    (during w.taking (Heard b ∷ w.entries) payloads)
IsBunchHeard layout version table names copies calls w b (Err (Halt.Broken cause)) =
    (payloads : List Delivered)
    × (heard_then w.taking w.entries w.handed b
    ≡ record { past = past_at (with_payloads payloads w); cause = Some cause })
    × StandCopies layout copies (past_at (with_payloads payloads w))
    × AreHanded layout calls payloads
IsBunchHeard layout version table names copies calls w b (Err Halt.Memory) = ⊤

-- the bunch of a news, if it has one, is fit
abbrev pub IsFitNews : Version → News → Type 0
IsFitNews version (HearsBunch b) = IsFit version b
IsFitNews version (Moves from to) = ⊤

-- the bunch of an entry, if it has one, is fit
abbrev pub IsFitEntry : Version → Entry → Type 0
IsFitEntry version (Heard b) = IsFit version b
IsFitEntry version (Told head) = ⊤
IsFitEntry version (Acked number) = ⊤

-- entries are heard, and this news is to come, or one breaks a rule
abbrev pub AreEntriesHeard : Layout → Version → Channels → (names : List (ℕ × Learnt))
    → List ActorCopy → (calls : List Handed) → Taking → (news : List News) → (bad : Option Cause)
    → (final : Past) → Result Unit Halt → Type 0
AreEntriesHeard layout version table names copies calls k news bad final (Ok done) =
    (past : Past) × (payloads : List Delivered)
    × Hears layout version table names copies calls k payloads past × Leads k news bad past final
AreEntriesHeard layout version table names copies calls k news bad final
    (Err (Halt.Broken cause)) =
    (entries : List Entry) × (payloads : List Delivered)
    × (final ≡ Ended (ByCause cause) ∷ during k entries payloads)
    × StandCopies layout copies (during k entries payloads) × AreHanded layout calls payloads
AreEntriesHeard layout version table names copies calls k news bad final (Err Halt.Memory) = ⊤

-- ---- datagrams

-- an end is alive, and its packets and all that it keeps stand for the past
pub record Lives (layout : Layout) (version : Version) (link : Link) (table : Channels)
    (names : List (ℕ × Learnt)) (copies : List ActorCopy) (past : Past) : Type 0 where
  pub rests : Rests link (end_as layout version) past
  pub keeps : Keeps layout version table names copies past
  pub alive : has_ended past ≡ false

-- a packet arrived at an end whose parts stand for the past
pub record Arrives (layout : Layout) (version : Version) (table : Channels)
    (names : List (ℕ × Learnt)) (copies : List ActorCopy) (past : Past) (p : Packet)
    (arrival : Arrival) : Type 0 where
  pub keeps : Keeps layout version table names copies past
  pub arrives : IsArrival past (end_as layout version) p arrival
  pub fits : AllByRecursion (IsFitEntry version) (entries_in version p)

-- the past after the packet
abbrev pub after_arrival : Layout → Version → Past → Packet → Past
after_arrival layout version past p = after_packet (end_as layout version) past p

-- the packet was taken, and broke no rule: what an end keeps stands for the past with it
pub record IsTakenIn (layout : Layout) (version : Version) (table : Channels)
    (names : List (ℕ × Learnt)) (copies : List ActorCopy) (past : Past) (p : Packet)
    (arrival : Arrival) : Type 0 where
  pub none : arrival.bad ≡ None
  pub payloads : List Delivered
  pub is : after_arrival layout version past p
      ≡ Took arrival.number (reverse (entries_in version p)) payloads ∷ past
  pub keeps : Keeps layout version table names copies (after_arrival layout version past p)

-- the calls that a datagram hands over, with what is to be done with each
abbrev pub handovers_in : End → Past → List ℕ → List Handover
handovers_in end past bytes =
    handovers (λ actor held. client_verdict held) (handed_by end past bytes)

-- those that a packet hands over
abbrev pub handovers_of : Layout → Version → Past → Packet → List Handover
handovers_of layout version past p =
    handovers (λ actor held. client_verdict held)
    (handed_since past (after_arrival layout version past p))

-- the verdict on a packet with this number, which ended the end by a cause or didn't end it
abbrev pub verdict_from : Option Cause → (number : ℕ) → Verdict
verdict_from None number = Taken number
verdict_from (Some cause) number = Closed cause

-- a packet ended the end by this cause, or didn't end it, by what came of its entries and by its bad
-- acknowledgement
abbrev pub EndsBy : Result Unit Halt → (bad ended : Option Cause) → Type 0
EndsBy (Ok done) bad ended = ended ≡ bad
EndsBy (Err (Halt.Broken cause)) bad ended = ended ≡ Some cause
EndsBy (Err Halt.Memory) bad ended = ⊥

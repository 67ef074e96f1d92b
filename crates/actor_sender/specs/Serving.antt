-- A tick as it goes on: its closes, what is packed before the first turn, and the turns.
use Rattle.std.specs.Prelude.{◌≡◌, ◌≢◌, ◌<◌, ◌≤◌, ℕ, List, Bool, true, false, Some, map, slice_get, slice_index_or}
use Rattle.protocol_model.specs.Limits.{unresolved_limit}
use Rattle.protocol_model.specs.Side.{AtServer}
use Rattle.protocol_model.specs.Sight.{Seen}
use Rattle.connection_model.specs.CallAnswers.{waiting_of}
use Rattle.connection_model.specs.Exports.{is_known}
use Rattle.connection_model.specs.Fates.{unresolved_count}
use Rattle.connection_model.specs.Feed.{End, Past, tick_count}
use Rattle.connection_model.specs.Items.{wants_open}
use Rattle.connection_model.specs.Pack.{Packing}
use Rattle.connection_model.specs.State.{state_of, is_open, is_opened, index_of}
use Rattle.connection_laws.specs.Run.{IsRun}
use Rattle.packing_laws.specs.Beginning.{begun}
use Rattle.class_layout.specs.Tables.{Layout}
use Rattle.link_end.specs.Link.{Link}
use Rattle.channel_table.specs.Channels.{Channels}
use Rattle.channel_table.specs.Stands.{waiting_call}
use Rattle.shadow_changes.specs.Samples.{Shadows, Samples, Keeps as KeepsSamples, samples_of}
use Rattle.sight_laws.specs.Sights.{IsSight}
use Rattle.turn_laws.specs.Turns.{closed_up, has_turn, after_turns, before_turns, turns_of}
use Rattle.sender_steps.specs.declared.sight.Seen.{Seen as SeenValue}
use Rattle.sender_steps.specs.Sender.{Sender, record_at, state_kept}
use Rattle.sender_steps.specs.Sights.{seen_value, sight_value}
use Rattle.sender_steps.specs.Stands.{KeepsBoth, Stands}
use Rattle.sender_turns.specs.declared.turns.Turn.{Turn}
use Rattle.sender_turns.specs.Calling.{MayWait}
use Rattle.sender_turns.specs.Ticking.{InTick, IsUnserved, CanOpen}
use Rattle.sender_turns.specs.Turning.{IsCompared}
use Rattle.actor_sender.specs.Given.{IsEntryGiven}

-- what stays as it is through a tick
pub record IsFed (layout : Layout) (changes : Shadows) (sight : List SeenValue) (end : End)
    (past : Past) (samples : Samples) : Type 0 where
  pub side : end.side ≡ AtServer
  pub budget : 1 ≤ end.budget
  pub run : IsRun end past
  pub few : unresolved_count past < unresolved_limit
  pub noted : KeepsSamples changes samples
  pub is_sight : IsSight (sight_value layout sight)
  pub entries : (i : ℕ) (s : SeenValue) → slice_get sight i ≡ Some s
      → IsEntryGiven layout past samples s

-- before a tick
pub record MayBegin (s : Sender) (l : Link) (t : Channels) (layout : Layout) (changes : Shadows)
    (sight : List SeenValue) (end : End) (past : Past) (samples : Samples) : Type 0 where
  pub fed : IsFed layout changes sight end past samples
  pub stands : Stands s l t end past samples
  pub may : MayWait t.waiting

-- ---- closes

-- the handles of an actor that is open were compared last in a tick of this past
abbrev pub AreEarlier : Sender → Past → Type 0
AreEarlier s past =
    (a : ℕ) → is_open (state_kept s a) ≡ true → (record_at s a).handles.last ≤ tick_count past

-- the places tell which segments are known
abbrev pub TellsKnown : Sender → Past → Type 0
TellsKnown s past = (g : ℕ) → is_known past g ≡ slice_index_or s.known g false

-- in a tick that began after `before`, sender and channels stand for what was done by now, the
-- calls wait that waited before it, and no handle was compared in it
pub record IsCounted (s : Sender) (t : Channels) (before now : Past) (samples : Samples)
    : Type 0 where
  pub both : KeepsBoth s t now samples
  pub known : TellsKnown s now
  pub waiting : t.waiting ≡ map waiting_call (waiting_of before)
  pub earlier : AreEarlier s before

-- ---- before the first turn

-- the closes are made, and the first packet holds the acknowledgements owed
abbrev pub first_packing : End → Past → List Seen → Packing
first_packing end past sight = record (begun end past sight) { past = closed_up past sight }

-- before anything else is packed
pub record CanSend (s : Sender) (l : Link) (t : Channels) (layout : Layout) (changes : Shadows)
    (sight : List SeenValue) (end : End) (past : Past) (samples : Samples) : Type 0 where
  pub fed : IsFed layout changes sight end past samples
  pub stands : InTick s l t end past (first_packing end past (sight_value layout sight)) samples
  pub earlier : AreEarlier s past
  pub may : MayWait t.waiting

-- all turns of the tick that gets this sight, one after the other
abbrev pub after_serving : End → Past → List Seen → Packing
after_serving end past sight =
    let now = closed_up past sight in
    after_turns end now (before_turns end past sight) (turns_of now)

-- ---- turns

-- an actor that had something to send after the deeds `now`, an open or else an update, is to be
-- served now: no turn since has changed what it wants, nor its index, and none of its updates is
-- packed; it was compared where it was opened, and its entry can be sent
pub record IsServable (layout : Layout) (now : Past) (p : Packing) (samples : Samples) (s : Sender)
    (opens : Bool) (e : SeenValue) : Type 0 where
  pub has : has_turn now (seen_value layout e) ≡ true
  pub opens_is : opens ≡ wants_open now (seen_value layout e)
  pub wants : wants_open p.past (seen_value layout e) ≡ wants_open now (seen_value layout e)
  pub index : index_of p.past e.actor ≡ index_of now e.actor
  pub unserved : IsUnserved e.actor p.packets
  pub shown : 1 ≤ (record_at s e.actor).service.relevant_at
  pub compared : is_opened (state_of now e.actor) ≡ true
      → IsCompared layout now (samples_of samples e.actor) e (record_at s e.actor).handles
  pub entry : CanOpen layout samples e

-- it is its turn, and each item found room so far
pub record IsServed (layout : Layout) (changes : Shadows) (e : SeenValue) (opens : Bool)
    (s : Sender) (l : Link) (t : Channels) (end : End) (before now : Past) (p : Packing)
    (samples : Samples) : Type 0 where
  pub stands : InTick s l t end before p samples
  pub is_ready : p.full ≡ false
  pub noted : KeepsSamples changes samples
  pub turn : IsServable layout now p samples s opens e

-- a turn is that of an entry to be served
pub record IsNext (layout : Layout) (sight : List SeenValue) (now : Past) (p : Packing)
    (samples : Samples) (s : Sender) (t : Turn) : Type 0 where
  pub entry : SeenValue
  pub place : slice_get sight t.place ≡ Some entry
  pub actor : t.actor ≡ entry.actor
  pub may : IsServable layout now p samples s t.opens entry

-- so are all of these turns, each of another actor
pub record AreNext (layout : Layout) (sight : List SeenValue) (now : Past) (p : Packing)
    (samples : Samples) (s : Sender) (turns : List Turn) : Type 0 where
  pub each : (i : ℕ) (t : Turn) → slice_get turns i ≡ Some t
      → IsNext layout sight now p samples s t
  pub apart : (i j : ℕ) (t u : Turn) → i < j → slice_get turns i ≡ Some t
      → slice_get turns j ≡ Some u → t.actor ≢ u.actor

-- before turns that are left
pub record InTurns (layout : Layout) (changes : Shadows) (sight : List SeenValue) (s : Sender)
    (l : Link) (t : Channels) (end : End) (before now : Past) (p : Packing) (samples : Samples)
    (turns : List Turn) : Type 0 where
  pub stands : InTick s l t end before p samples
  pub is_ready : p.full ≡ false
  pub noted : KeepsSamples changes samples
  pub next : AreNext layout sight now p samples s turns

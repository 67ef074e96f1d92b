-- How what a sender keeps follows from what the end did and from the samples of its last tick.
use Rattle.std.specs.List.{list_any}
use Rattle.std.specs.Prelude.{◌≡◌, ◌≢◌, ◌<◌, ◌≤◌, ◌==◌, ◌&&◌, ◌||◌, ℕ, List, ◌∷◌, ◌++◌, length, Bool, true, false, not, Some, is_some, filter, slice_get, slice_index_or}
use Rattle.protocol_model.specs.Limits.{channels_one}
use Rattle.protocol_model.specs.Side.{AtServer}
use Rattle.protocol_model.specs.Search.{newest_of, is_among}
use Rattle.protocol_model.specs.Sight.{Seen}
use Rattle.protocol_model.specs.Value.{Pair}
use Rattle.change_model.specs.Changes.{Sample}
use Rattle.connection_model.specs.Feed.{End, Past, Deed, Made, tick_count}
use Rattle.connection_model.specs.Fates.{high_of}
use Rattle.connection_model.specs.Bunches.{has_arrived, have_arrived, made_count}
use Rattle.connection_model.specs.State.{is_open, is_closed, was_opened, index_of}
use Rattle.connection_model.specs.Exports.{is_known}
use Rattle.connection_laws.specs.Run.{Ascends}
use Rattle.link_end.specs.Link.{Link}
use Rattle.link_end.specs.Rests.{Rests}
use Rattle.outgoing_channels.specs.Keeps.{kept_bunch}
use Rattle.channel_table.specs.Channels.{Channels}
use Rattle.channel_table.specs.Holders.{channel_bound, IsPaired}
use Rattle.channel_table.specs.Keeps.{Keeps as KeepsTable}
use Rattle.channel_table.specs.Stands.{Stands as StandsTable}
use Rattle.shadow_changes.specs.Samples.{Samples, samples_of}
use Rattle.sender_laws.specs.Values.{place_of, AreAbove, tick_now}
use Rattle.sender_laws.specs.States.{is_pending}
use Rattle.sender_records.specs.Service.{KeepsService}
use Rattle.sender_records.specs.declared.actor.ActorRecord.{ActorRecord}
use Rattle.sender_records.specs.Actors.{KeepsActor}
use Rattle.sender_steps.specs.declared.sent.UpdateSent.{UpdateSent}
use Rattle.sender_steps.specs.declared.sent.OpenSent.{OpenSent}
use Rattle.sender_steps.specs.Sender.{Sender, record_in, state_kept, packet_in}

-- the open has the segment, and all up to its last part has arrived on its channel
abbrev pub makes_known : Past → (guid : ℕ) → OpenSent → Bool
makes_known past g o = is_among g o.guids && have_arrived past o.channel 1 o.last

-- the segment was taken for known, or one of these opens makes it known
abbrev pub is_known_by : Past → List Bool → List OpenSent → (guid : ℕ) → Bool
is_known_by past known opens g = slice_index_or known g false || list_any (makes_known past g) opens

-- the deed made a bunch
abbrev pub is_made : Deed → Bool
is_made (Made channel number message i) = true
is_made deed = false

-- the bunches that were made
abbrev pub makes : Past → Past
makes past = filter is_made past

-- what is known of every later past with the same bunches made, whatever was sent, is told by the
-- places and the opens
abbrev pub KnowsMade : Past → List Bool → List OpenSent → Type 0
KnowsMade past known opens = (later : Past) → makes later ≡ makes past
    → ((ch n : ℕ) → has_arrived past ch n ≡ true → has_arrived later ch n ≡ true)
    → (g : ℕ) → is_known later g ≡ is_known_by later known opens g

-- the open was made, and each of its segments has a place among those that are known or not
pub record IsOpenMade (past : Past) (known : List Bool) (o : OpenSent) : Type 0 where
  pub made : o.last ≤ made_count past o.channel
  pub places : (g : ℕ) → is_among g o.guids ≡ true → g < length known

-- the update of the actor went in that packet
abbrev pub is_update_sent : (packet actor : ℕ) → UpdateSent → Bool
is_update_sent n a u = u.packet == n && u.actor == a

-- the last part of the open is kept no more by the channels: it and all before it have arrived
abbrev pub is_open_gone : Past → OpenSent → Bool
is_open_gone past o = not (is_some (kept_bunch past o.channel o.last))

-- such an open has the segment
abbrev pub has_known : Past → (guid : ℕ) → OpenSent → Bool
has_known past g o = is_open_gone past o && is_among g o.guids

-- each actor's record is right
abbrev pub AreKept : Past → Samples → List (ℕ × ActorRecord) → Type 0
AreKept past samples records =
    (a : ℕ) → KeepsActor past (samples_of samples a) a (record_in records a)

-- when each actor was shown and served is right
abbrev pub AreServed : Past → List (ℕ × ActorRecord) → Type 0
AreServed past records = (a : ℕ) → KeepsService past a (record_in records a).service

-- each of these opens was made
abbrev pub AreOpensMade : Past → List Bool → List OpenSent → Type 0
AreOpensMade past known opens =
    (i : ℕ) (o : OpenSent) → slice_get opens i ≡ Some o → IsOpenMade past known o

-- each index that an actor holds is above 0, on which Gones are made, and is one of version one
abbrev pub AreLow : Past → Type 0
AreLow past = (a ch : ℕ) → index_of past a ≡ Some ch → (1 ≤ ch) × (ch < channels_one)

-- a sender is right about the past, and about the samples of its last tick. What is known is looked
-- up at the next tick: as more arrives, it is what was taken for known and what these opens make so
pub record Keeps (s : Sender) (past : Past) (samples : Samples) : Type 0 where
  pub each : AreKept past samples s.records
  pub under_way : (a h : ℕ) → is_open (state_kept s a) ≡ true
      → high_of past < packet_in s.records a h
      → list_any (is_update_sent (packet_in s.records a h) a) s.updates ≡ true
  pub pending : (a : ℕ) → is_pending (state_kept s a) ≡ true → is_among a s.pending ≡ true
  pub live : (a : ℕ) → is_closed (state_kept s a) ≡ false → is_among a s.live ≡ true
  pub opened : (a : ℕ) → is_among a s.live ≡ true → was_opened past a ≡ true
  pub ascends : Ascends 0 s.live
  pub known : KnowsMade past s.known s.opens
  pub opens : AreOpensMade past s.known s.opens
  pub low : AreLow past
  pub below : (ch : ℕ) → channels_one ≤ ch → made_count past ch ≡ 0
  pub ticks : s.ticks ≡ tick_count past
  pub kept : s.spent ≡ false

-- want of memory ended the sender
abbrev pub IsSpent : Sender → Type 0
IsSpent s = s.spent ≡ true

-- sender and channels stand for one past in a tick, when calls wait that came before it
pub record KeepsBoth (s : Sender) (t : Channels) (past : Past) (samples : Samples) : Type 0 where
  pub sender : Keeps s past samples
  pub table : KeepsTable t AtServer past
  pub bound : (a : ℕ) → channel_bound t.bound a ≡ index_of past a
  pub paired : IsPaired t.bound

-- sender and channels stand for one past
pub record StandsBoth (s : Sender) (t : Channels) (past : Past) (samples : Samples) : Type 0 where
  pub sender : Keeps s past samples
  pub table : StandsTable t AtServer past

-- sender, link and channels stand for one past
pub record Stands (s : Sender) (l : Link) (t : Channels) (end : End) (past : Past)
    (samples : Samples) : Type 0 where
  pub sender : Keeps s past samples
  pub link : Rests l end past
  pub table : StandsTable t AtServer past

-- the samples with later ones behind them, each of a tick above those of its actor before
pub record Extends (before after : Samples) : Type 0 where
  pub later : Samples
  pub behind : after ≡ later ++ before
  pub newer : (a : ℕ) → AreAbove (tick_now (samples_of before a)) (samples_of later a)

-- the values that an actor is seen with are those of its newest sample; the role has none
abbrev pub Agrees : Samples → Seen → Type 0
Agrees samples seen = (pair : Pair) (before after : List Pair)
    → seen.values ≡ before ++ pair ∷ after → pair.handle ≢ 3
    → (s : Sample)
    × (newest_of (λ (s : Sample). Some s) (samples_of samples seen.actor) ≡ Some s)
    × (slice_get s.values (place_of pair.handle) ≡ Some pair.value)

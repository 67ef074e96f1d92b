-- Sender, link and channels in the middle of a tick, and the open of one actor in its turn.
use Rattle.std.specs.Prelude.{◌≡◌, ◌≢◌, ℕ, ◌+◌, ◌≤◌, ◌<◌, List, map, length, Bool, true, false, Option, Some, None, slice_index_or, IsTrue}
use Rattle.std.specs.List.{list_any}
use Rattle.protocol_model.specs.Limits.{channels_one, handle_limit}
use Rattle.protocol_model.specs.Payload.{Message, parts_of}
use Rattle.protocol_model.specs.Search.{is_among}
use Rattle.protocol_model.specs.Side.{AtServer}
use Rattle.protocol_model.specs.World.{class_at}
use Rattle.connection_model.specs.Bunches.{made_count, has_arrived, is_carried_as, span}
use Rattle.connection_model.specs.CallAnswers.{waiting_of}
use Rattle.connection_model.specs.Exports.{exports_segment, is_known}
use Rattle.connection_model.specs.Feed.{End, Past, Item, tick_count}
use Rattle.connection_model.specs.Items.{is_update_of, wants_open, open_message}
use Rattle.connection_model.specs.Pack.{Packing, after_open}
use Rattle.connection_model.specs.State.{free_index, index_of}
use Rattle.class_layout.specs.Tables.{Layout, table_in}
use Rattle.link_end.specs.Link.{Link}
use Rattle.link_end.specs.Packs.{sent_now}
use Rattle.channel_table.specs.Channels.{Channels}
use Rattle.channel_table.specs.Stands.{waiting_call}
use Rattle.bunch_packing.specs.Both.{PacksBoth}
use Rattle.bunch_packing.specs.Opens.{open_first}
use Rattle.payload_writing.specs.Values.{pairs_fit}
use Rattle.shadow_changes.specs.Samples.{Shadows, Samples, Keeps as KeepsChanges, samples_of}
use Rattle.sender_records.specs.declared.actor.ActorRecord.{ActorRecord}
use Rattle.sender_steps.specs.declared.sent.OpenSent.{OpenSent}
use Rattle.sender_steps.specs.declared.sight.Seen.{Seen as SeenValue}
use Rattle.sender_steps.specs.Sender.{Sender, record_in}
use Rattle.sender_steps.specs.Sights.{seen_value}
use Rattle.sender_steps.specs.Stands.{Keeps}
use Rattle.sender_turns.specs.Opening.{AreBound}
use Rattle.sender_turns.specs.Turning.{AreSampled}

-- in a tick that began after `before`, sender, link and channels are right about what was packed by
-- now, as if the tick were to end now: each actor is bound to the index that it holds, the places of
-- the sender tell which segments are known, and the calls wait that waited before the tick
pub record InTick (s : Sender) (l : Link) (t : Channels) (end : End) (before : Past) (p : Packing)
    (samples : Samples) : Type 0 where
  pub sender : Keeps s (sent_now p) samples
  pub both : PacksBoth l t end AtServer before p
  pub bound : AreBound t.bound (sent_now p)
  pub known : (g : ℕ) → is_known p.past g ≡ slice_index_or s.known g false
  pub waiting : t.waiting ≡ map waiting_call (waiting_of before)

-- the sender consists of these parts, of the updates under way, and of its count of ticks
pub record HasParts (s : Sender) (records : List (ℕ × ActorRecord)) (pending live : List ℕ)
    (known : List Bool) (opens : List OpenSent) : Type 0 where
  pub records_are : s.records ≡ records
  pub pending_are : s.pending ≡ pending
  pub live_are : s.live ≡ live
  pub known_are : s.known ≡ known
  pub opens_are : s.opens ≡ opens

-- none of the packets holds an update of the actor
abbrev pub IsUnserved : (actor : ℕ) → List (List Item) → Type 0
IsUnserved a packets = list_any (list_any (is_update_of a)) packets ≡ false

-- what is asked of an entry of a sight whose actor is to be opened: it has a guid, a class of the
-- table, and at most as many values as a class has handles, each handle once, which are those of
-- the actor's newest sample and can be written
pub record CanOpen (layout : Layout) (samples : Samples) (s : SeenValue) : Type 0 where
  pub actor : 1 ≤ s.actor
  pub class : s.class < length layout.classes
  pub few : length s.values ≤ handle_limit
  pub fit : IsTrue (pairs_fit (class_at (table_in layout) s.class) s.values)
  pub sampled : AreSampled (samples_of samples s.actor) s.values

-- the turn of an actor that wants an open, in the tick of that number, in which each item found room
-- so far and no update of the actor was packed: it was shown as relevant, and the changes noted are
-- those of the samples
pub record IsOpening (layout : Layout) (changes : Shadows) (seen : SeenValue) (s : Sender)
    (l : Link) (t : Channels) (end : End) (before : Past) (p : Packing) (samples : Samples)
    (tick : ℕ) : Type 0 where
  pub stands : InTick s l t end before p samples
  pub is_ready : p.full ≡ false
  pub ticks : tick ≡ tick_count p.past
  pub wants : wants_open p.past (seen_value layout seen) ≡ true
  pub unserved : IsUnserved seen.actor p.packets
  pub shown : 1 ≤ (record_in s.records seen.actor).service.relevant_at
  pub entry : CanOpen layout samples seen
  pub noted : KeepsChanges changes samples

-- the packing after the open of the actor that is seen so
abbrev pub after_opening : Layout → End → Packing → SeenValue → Packing
after_opening layout end p seen =
    after_open end p (free_index p.past) (open_message p.past (seen_value layout seen))

-- what is to be kept of the open that was made: its channel, the free index, which was clear and held
-- by none; the number of its last part; and the segments that it exports
pub record IsKept (end : End) (p : Packing) (message : Message) (o : OpenSent) : Type 0 where
  pub channel : o.channel ≡ free_index p.past
  pub some : 1 ≤ o.channel
  pub low : o.channel < channels_one
  pub clear : span (sent_now p) o.channel ≡ 0
  pub free : (a : ℕ) → index_of (sent_now p) a ≢ Some o.channel
  pub made : open_first end p (free_index p.past) message
      ≡ Some (made_count p.past (free_index p.past) + 1)
  pub last : o.last ≡ made_count p.past o.channel + parts_of message
  pub guids : (g : ℕ) → exports_segment g message ≡ is_among g o.guids

-- nothing is to be kept of one that wasn't made, of which there is no last part
abbrev pub IsToKeep : End → Packing → Message → (channel : ℕ) → (last : Option ℕ)
    → (guids : List ℕ) → Type 0
IsToKeep end p message ch None guids = open_first end p (free_index p.past) message ≡ None
IsToKeep end p message ch (Some last) guids =
    IsKept end p message (record { channel = ch; last = last; guids = guids })

-- the last of so many parts, from a number on, where there is one
abbrev pub IsLast : (first : Option ℕ) → (count : ℕ) → (last : Option ℕ) → Type 0
IsLast None count last = last ≡ None
IsLast (Some first) count None = ⊥
IsLast (Some first) count (Some last) = last + 1 ≡ first + count

-- an item that a sender doesn't see: it is no update, and carries no bunch that has arrived
pub record IsUnseen (past : Past) (item : Item) : Type 0 where
  pub other : (a : ℕ) → is_update_of a item ≡ false
  pub awaited : (ch n : ℕ) → is_carried_as ch n item ≡ true → has_arrived past ch n ≡ false

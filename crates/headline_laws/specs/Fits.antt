-- What each deed of an end keeps to, so that its packets can be spelled.
use Rattle.std.specs.Prelude.{◌≡◌, ℕ, ◌+◌, ◌*◌, ◌<◌, ◌≤◌, List, length, true}
use Rattle.std.specs.List.{flat_map, AllByRecursion}
use Rattle.protocol_model.specs.declared.Version.{Version}
use Rattle.protocol_model.specs.Limits.{packet_bytes, part_bits, payload_bits, part_limit, spawn_limit, depth_limit}
use Rattle.protocol_model.specs.Packet.{rec_bits, start_bits, is_rec, channel_limit}
use Rattle.protocol_model.specs.Payload.{Message, Opens, Closes, Updates, Calls, Gone, message_bits, parts_of}
use Rattle.protocol_model.specs.Sight.{Seen}
use Rattle.connection_model.specs.Feed.{End, Past, Deed, Ticked, Made, Waits, Sent, Took, Ended, Entry, Told, Acked, Heard, Delivered, Item, Event, Tick, Got, Call}
use Rattle.connection_model.specs.Fates.{head_of}
use Rattle.connection_model.specs.Pack.{rec_of}
use Rattle.connection_laws.specs.Deeds.{EachDeed}
use Rattle.connection_laws.specs.Delivered.{Numbered, messages_on}
use Rattle.payload_laws.specs.Limits.{HasLimits, AreSegments, AreValues}

-- the actor is one that a world may spawn: its guid is even
abbrev pub IsSpawned : ℕ → Type 0
IsSpawned actor = (number : ℕ) × (actor ≡ 2 * number) × (1 ≤ number) × (number ≤ spawn_limit)

-- a sight's entry is of such an actor, of a class with limits and a path that can be exported, and
-- its values are of their kinds
pub record SeenFits (seen : Seen) : Type 0 where
  pub spawned : IsSpawned seen.actor
  pub limits : HasLimits seen.class
  pub path : AreSegments seen.class.path
  pub short : length seen.class.path ≤ depth_limit
  pub all_fit : AreValues seen.class 0 seen.values

-- an open is of such an actor, and of a class with limits
abbrev pub OpenFits : Message → Type 0
OpenFits (Opens exports actor class values) = IsSpawned actor × HasLimits class
OpenFits (Closes actor sleeps) = Unit {0}
OpenFits (Updates actor class values) = Unit {0}
OpenFits (Calls actor number call args) = Unit {0}
OpenFits (Gone actor) = Unit {0}

-- an item takes at most this many bits, with which any start of a packet fits
abbrev pub item_bits : ℕ
item_bits = 7500

-- the item can be spelled, and fits an empty packet
abbrev pub ItemFits : Version → Item → Type 0
ItemFits v item = (is_rec v (rec_of item) ≡ true) × (length (rec_bits v (rec_of item)) ≤ item_bits)

-- how many bits the start of a packet takes, were one sent now
abbrev pub start_length : End → Past → ℕ
start_length end past = length (start_bits end.version 0 (head_of end.version past))

-- and how many these items take
abbrev pub items_length : Version → List Item → ℕ
items_length v items = length (flat_map (λ item. rec_bits v (rec_of item)) items)

-- the items fit a packet, and a last bit does, where its start takes so many bits
abbrev pub PacketFits : Version → (start : ℕ) → List Item → Type 0
PacketFits v start items = AllByRecursion (ItemFits v) items
    × (start + items_length v items + 1 ≤ 8 * packet_bytes)

-- the channel of a bunch that was heard can be spelled
abbrev pub EntryFits : Version → Entry → Type 0
EntryFits v (Told head) = Unit {0}
EntryFits v (Acked number) = Unit {0}
EntryFits v (Heard b) = b.channel < channel_limit v

-- and that of a payload that was handed on
abbrev pub PlaceFits : Version → Delivered → Type 0
PlaceFits v d = d.channel < channel_limit v

-- what a deed keeps to: sights as above; messages that are short, on channels that can be spelled;
-- calls left waiting of one part; packets that fit; what was heard on channels that can be spelled
abbrev pub DeedFits : End → Past → Deed → Type 0
DeedFits end past (Ticked t sight) = AllByRecursion SeenFits sight
DeedFits end past (Made ch n m i) = (ch < channel_limit end.version) × OpenFits m
    × (length (message_bits m) ≤ payload_bits)
DeedFits end past (Waits m) = length (message_bits m) ≤ part_bits
DeedFits end past (Sent number t items) = PacketFits end.version (start_length end past) items
DeedFits end past (Took n entries handed) = AllByRecursion (EntryFits end.version) entries
    × AllByRecursion (PlaceFits end.version) handed
DeedFits end past (Ended ending) = Unit {0}

-- each deed of the past keeps to it
abbrev pub PastFits : End → Past → Type 0
PastFits end past = EachDeed (DeedFits end) past

-- the event is no tick, or one with such a sight
abbrev pub EventFits : Event → Type 0
EventFits (Tick sight) = AllByRecursion SeenFits sight
EventFits (Got bytes) = Unit {0}
EventFits (Call actor number args) = Unit {0}

-- each message made has at most as many parts as a payload may have
abbrev pub MessagesShort : Past → Type 0
MessagesShort past =
    (ch : ℕ) → AllByRecursion (λ (made : Numbered). parts_of made.1 ≤ part_limit) (messages_on past ch)

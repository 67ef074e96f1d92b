-- Link and channels of one end, in the middle of a tick.
use Rattle.std.specs.Prelude.{◌≡◌, ℕ, ◌+◌, ◌≤◌, List, length, Bool, true, false, Option, Some, None, if◌then◌else◌}
use Rattle.std.specs.List.{list_any}
use Rattle.protocol_model.specs.declared.Version.{Version}
use Rattle.protocol_model.specs.declared.Part.TheVariants.{Whole}
use Rattle.protocol_model.specs.Packet.{Bunch, channel_limit}
use Rattle.protocol_model.specs.Side.{Side}
use Rattle.connection_model.specs.Feed.{End, Past, Item}
use Rattle.connection_model.specs.Fates.{last_sent}
use Rattle.connection_model.specs.Bunches.{made_count, is_due, is_carried_as}
use Rattle.connection_model.specs.Pack.{Packing, has_room, after_offer}
use Rattle.packing_laws.specs.Sendings.{CarryUnarrived}
use Rattle.link_end.specs.Link.{Link}
use Rattle.link_end.specs.Packs.{Packs, sent_now}
use Rattle.channel_table.specs.Channels.{Channels}
use Rattle.channel_table.specs.Keeps.{Keeps}

-- nothing was made on an index that has no spelling
abbrev pub IsLow : Version → Past → Type 0
IsLow version past = (ch : ℕ) → channel_limit version ≤ ch → made_count past ch ≡ 0

-- in a tick that began after `before`, link and channels are right about what was packed by now, as
-- if the tick were to end now; no bunch that is carried has arrived
pub record PacksBoth
    (l : Link) (t : Channels) (end : End) (side : Side) (before : Past) (p : Packing) : Type 0 where
  pub link : Packs l end before p
  pub table : Keeps t side (sent_now p)
  pub unarrived : CarryUnarrived p.past p.packets
  pub low : IsLow end.version p.past

-- one of the packets begun carries the bunch
abbrev pub is_packed : List (List Item) → (channel number : ℕ) → Bool
is_packed packets ch n = list_any (list_any (is_carried_as ch n)) packets

-- no bunch that was made is packed yet
abbrev pub NonePacked : Packing → Type 0
NonePacked p = (ch n : ℕ) → is_packed p.packets ch n ≡ false

-- the bunch was made, and is due still
abbrev pub IsOwing : Packing → (channel number : ℕ) → Type 0
IsOwing p ch n = (is_due (sent_now p) ch n ≡ true) × (1 ≤ n) × (n ≤ made_count p.past ch)

-- the packet into which an item goes that is offered, if there is room
abbrev pub packet_for : End → Packing → Item → Option ℕ
packet_for end p item =
    if has_room end p item then Some (last_sent p.past + length (after_offer end p item).packets)
    else None

-- an unreliable bunch with this payload
abbrev pub bare_bunch : (channel : ℕ) → (payload : List Bool) → Bunch
bare_bunch ch payload = record {
  opens = false;
  closes = false;
  sleeps = false;
  reliable = false;
  channel = ch;
  exports = false;
  part = Whole;
  seq = 0;
  kind = 0;
  payload = payload;
}

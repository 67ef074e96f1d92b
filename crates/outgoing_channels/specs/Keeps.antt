-- How what the outgoing channels keep follows from the bunches that the end made.
use Rattle.std.specs.Prelude.{◌≡◌, ℕ, ◌+◌, ◌≤◌, length, nat_lt, Option, Some, None, slice_get, if◌then◌else◌}
use Rattle.protocol_model.specs.Limits.{span_sum_limit}
use Rattle.protocol_model.specs.Packet.{Bunch}
use Rattle.protocol_model.specs.Search.{newest_of}
use Rattle.connection_model.specs.Feed.{Past}
use Rattle.connection_model.specs.Fates.{high_of}
use Rattle.connection_model.specs.Bunches.{made_count, least_unarrived, carrier_of, span, span_sum}
use Rattle.connection_model.specs.Items.{made_as}
use Rattle.connection_laws.specs.Fates.{CarriesMade}
use Rattle.channel_laws.specs.Known.{known}
use Rattle.reliable_window.specs.declared.slot.Slot.{Slot}
use Rattle.outgoing_channels.specs.Made.{Made, Outgoing, out_at, bunch_made}
use Rattle.outgoing_channels.specs.declared.made_bunch.MadeBunch.{MadeBunch}

-- the bunch is kept until it and all before it have arrived
abbrev pub kept_bunch : Past → (channel number : ℕ) → Option Bunch
kept_bunch past ch n = if nat_lt n (least_unarrived past ch) then None else newest_of (made_as ch n) past

-- the kept bunch is right about its last carrier
pub record KeepsBunch (past : Past) (channel number : ℕ) (k : Slot MadeBunch) : Type 0 where
  pub bunch : newest_of (made_as channel number) past ≡ Some (bunch_made k.item)
  pub carrier : k.carrier ≡ carrier_of past channel number
  pub fate : (packet : ℕ) → k.carrier ≡ Some packet → k.fate ≡ known past packet

-- each bunch from the least that hasn't arrived to the last
pub record KeepsOut (past : Past) (channel : ℕ) (o : Outgoing) : Type 0 where
  pub next : o.next ≡ made_count past channel + 1
  pub count : length o.kept ≡ span past channel
  pub each : (i : ℕ) (k : Slot MadeBunch) → slice_get o.kept i ≡ Some k
      → KeepsBunch past channel (least_unarrived past channel + i) k

-- the channels are right about the bunches made
pub record KeepsMade (m : Made) (past : Past) : Type 0 where
  pub out : (channel : ℕ) → KeepsOut past channel (out_at m.out channel)
  pub span_sum : m.span_sum ≡ span_sum past
  pub few : m.span_sum ≤ span_sum_limit
  pub high : m.high ≡ high_of past
  pub carried : CarriesMade past

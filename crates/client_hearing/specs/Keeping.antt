-- What a client keeps of what it heard, besides its packets.
use Rattle.std.specs.Prelude.{◌≡◌, ℕ, ◌<◌, List, length, Some}
use Rattle.protocol_model.specs.Limits.{budget_limit}
use Rattle.protocol_model.specs.Packet.{channel_limit}
use Rattle.protocol_model.specs.Side.{AtClient}
use Rattle.protocol_model.specs.declared.Version.{Version}
use Rattle.connection_model.specs.Feed.{End, Past}
use Rattle.connection_model.specs.Copies.{copy_channel}
use Rattle.connection_model.specs.Names.{names_of}
use Rattle.class_layout.specs.Tables.{Layout, table_in}
use Rattle.client_laws.specs.Holding.{Holds}
use Rattle.netguid_map.specs.declared.names.Learnt.{Learnt}
use Rattle.netguid_map.specs.Names.{Stands as StandNames}
use Rattle.actor_copies.specs.declared.copy.ActorCopy.{ActorCopy}
use Rattle.actor_copies.specs.Kept.{ArePlaced}
use Rattle.actor_copies.specs.Stands.{Stands as StandCopies}
use Rattle.channel_table.specs.Channels.{Channels}
use Rattle.channel_table.specs.Stands.{Stands as StandsTable}

-- a client's end, which may send as much a tick as any
abbrev pub end_as : Layout → Version → End
end_as layout version = record {
  side = AtClient;
  version = version;
  budget = budget_limit;
  table = table_in layout;
}

-- each copy's channel has a spelling
abbrev pub AreLow : Version → Past → Type 0
AreLow version past = (a ch : ℕ) → copy_channel past a ≡ Some ch → ch < channel_limit version

-- the channels, the names learnt by their guids and the copies stand for the past
pub record Keeps (layout : Layout) (version : Version) (table : Channels) (names : List (ℕ × Learnt))
    (copies : List ActorCopy) (past : Past) : Type 0 where
  pub channels : StandsTable table AtClient past
  pub learnt : StandNames names (names_of past)
  pub copied : StandCopies layout copies past
  pub placed : ArePlaced (length layout.classes) copies
  pub holds : Holds past
  pub low : AreLow version past

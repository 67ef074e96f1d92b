-- What a client sends from, and how it follows from what the client did.
use Rattle.std.specs.Prelude.{◌≡◌, ◌<◌, ◌≤◌, ℕ, [], length, false, Some, filter_map, slice_get}
use Rattle.protocol_model.specs.Limits.{part_bits, unresolved_limit, waiting_limit}
use Rattle.protocol_model.specs.Packet.{channel_limit}
use Rattle.protocol_model.specs.Payload.{Message, message_bits}
use Rattle.protocol_model.specs.Side.{AtClient}
use Rattle.protocol_model.specs.declared.Version.{Version}
use Rattle.connection_model.specs.CallAnswers.{waiting_of}
use Rattle.connection_model.specs.Copies.{copy_channel}
use Rattle.connection_model.specs.Fates.{unresolved_count}
use Rattle.connection_model.specs.Feed.{End, Past, has_ended}
use Rattle.connection_model.specs.State.{opened_in}
use Rattle.link_end.specs.Link.{Link}
use Rattle.link_end.specs.Rests.{Rests}
use Rattle.channel_table.specs.Channels.{Channels}
use Rattle.channel_table.specs.Stands.{Stands as StandsTable}
use Rattle.bunch_packing.specs.Both.{IsLow}

-- no open was made, as no client makes one
abbrev pub OpensNone : Past → Type 0
OpensNone past = filter_map opened_in past ≡ []

-- no more calls wait than may, each of which has room in one bunch
pub record WaitShort (past : Past) : Type 0 where
  pub few : length (waiting_of past) ≤ waiting_limit
  pub short : (i : ℕ) (call : Message) → slice_get (waiting_of past) i ≡ Some call
      → length (message_bits call) ≤ part_bits

-- what a client that is alive may rest on when it sends: there is a fate for one more packet, its
-- channels have spellings, it opened nothing, and its calls that wait are short
pub record MaySend (version : Version) (past : Past) : Type 0 where
  pub few : unresolved_count past < unresolved_limit
  pub low : IsLow version past
  pub opens : OpensNone past
  pub waits : WaitShort past

-- the channel of each copy has a spelling
abbrev pub AreSpelled : Version → Past → Type 0
AreSpelled version past = (a ch : ℕ) → copy_channel past a ≡ Some ch → ch < channel_limit version

-- between two calls from above: link and channels of a client that is alive stand for what it did
pub record Stands (l : Link) (t : Channels) (end : End) (past : Past) : Type 0 where
  pub side : end.side ≡ AtClient
  pub budget : 1 ≤ end.budget
  pub alive : has_ended past ≡ false
  pub link : Rests l end past
  pub table : StandsTable t AtClient past
  pub held : AreSpelled end.version past
  pub may : MaySend end.version past

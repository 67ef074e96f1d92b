-- How what the channels keep follows from the bunches that the end made and received.
use Rattle.std.specs.Prelude.{◌≡◌}
use Rattle.protocol_model.specs.Side.{Side}
use Rattle.connection_model.specs.Feed.{Past}
use Rattle.connection_model.specs.Fates.{high_of}
use Rattle.outgoing_channels.specs.Keeps.{KeepsMade}
use Rattle.incoming_channels.specs.Keeps.{KeepsGot, IsSpent as IsGotSpent}
use Rattle.channel_table.specs.Channels.{Channels}

-- the channels are right about the bunches made and received
pub record Keeps (t : Channels) (side : Side) (past : Past) : Type 0 where
  pub made : KeepsMade t.made past
  pub got : KeepsGot t.got side past
  pub high : t.high ≡ high_of past

-- want of memory ended the table
abbrev pub IsSpent : Channels → Type 0
IsSpent t = IsGotSpent t.got

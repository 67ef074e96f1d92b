-- What the channels of one end keep.
use Rattle.std.specs.Prelude.{ℕ, List}
use Rattle.outgoing_channels.specs.Made.{Made}
use Rattle.incoming_channels.specs.Channels.{Got}
use Rattle.channel_table.specs.Holders.{Bound}
use Rattle.channel_table.specs.declared.calls.WaitingCall.{WaitingCall as WaitingCallValue}

-- an unreliable call that waits
abbrev pub WaitingCall : Type 0
WaitingCall = WaitingCallValue

-- what was made and what was received, who holds which channel, the calls that wait, and the greatest packet that
-- moved
pub record Channels : Type 0 where
  pub made : Made
  pub got : Got
  pub bound : Bound
  pub waiting : List WaitingCall
  pub high : ℕ

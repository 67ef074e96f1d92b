-- How all that the channels keep follows from what the end did, between two calls from above.
use Rattle.std.specs.Prelude.{◌≡◌, ℕ, map, Option}
use Rattle.protocol_model.specs.Side.{Side, AtServer, AtClient}
use Rattle.protocol_model.specs.Payload.{Message, Calls, actor_of, message_bits}
use Rattle.connection_model.specs.Feed.{Past}
use Rattle.connection_model.specs.State.{index_of}
use Rattle.connection_model.specs.Copies.{copy_channel}
use Rattle.connection_model.specs.CallAnswers.{waiting_of}
use Rattle.channel_table.specs.Channels.{Channels, WaitingCall}
use Rattle.channel_table.specs.Keeps.{Keeps}
pub use Rattle.channel_table.specs.Holders.{channel_bound, actor_bound, IsPaired}

-- the channel that the actor holds: by its state at the server, by its copy at the client
abbrev pub held_channel : Side → Past → (actor : ℕ) → Option ℕ
held_channel AtServer past a = index_of past a
held_channel AtClient past a = copy_channel past a

-- a call's number
abbrev pub call_number : Message → ℕ
call_number (Calls actor number call args) = number
call_number message = 0

-- a call as it waits
abbrev pub waiting_call : Message → WaitingCall
waiting_call message = record { actor = actor_of message; call = call_number message; bits = message_bits message }

-- the channels stand for the past
pub record Stands (t : Channels) (side : Side) (past : Past) : Type 0 where
  pub bunches : Keeps t side past
  pub bound : (a : ℕ) → channel_bound t.bound a ≡ held_channel side past a
  pub paired : IsPaired t.bound
  pub waiting : t.waiting ≡ map waiting_call (waiting_of past)

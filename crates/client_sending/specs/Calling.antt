-- A call that a client makes.
use Rattle.std.specs.Prelude.{◌≡◌, ◌≤◌, ℕ, List, map, length, false, Some, IsTrue}
use Rattle.protocol_model.specs.Limits.{argument_limit, part_bits, payload_bits}
use Rattle.protocol_model.specs.Payload.{Calls, message_bits}
use Rattle.protocol_model.specs.Side.{AtClient}
use Rattle.protocol_model.specs.Value.{args_fit}
use Rattle.connection_model.specs.CallAnswers as answers
use Rattle.connection_model.specs.Copies.{copy_channel}
use Rattle.connection_model.specs.Feed.{Past}
use Rattle.class_members.specs.Members.{call_of}
use Rattle.class_members.specs.declared.members.Call.{Call}
use Rattle.value_codec.specs.Values.{arg_of}
use Rattle.value_codec.specs.declared.args.Arg.{Arg}

-- how many bits the call has
abbrev pub call_size : (actor number : ℕ) → Call → List Arg → ℕ
call_size a n called args = length (message_bits (Calls a n (call_of called) (map arg_of args)))

-- this call is meant, its actor's copy is on the channel, and the player owns the actor
pub record IsMeant (past : Past) (actor number channel : ℕ) (called : Call) (args : List Arg)
    : Type 0 where
  pub held : copy_channel past actor ≡ Some channel
  pub meant : answers.call_of AtClient past actor number (map arg_of args) ≡ Some (call_of called)
  pub owned : answers.is_not_owner AtClient past actor (call_of called) ≡ false

-- the numbers of its arguments fit its kinds, and it is short enough for its channel
pub record IsShort (actor number : ℕ) (called : Call) (args : List Arg) : Type 0 where
  pub few : length called.args ≤ argument_limit
  pub fit : IsTrue (args_fit called.args (map arg_of args))
  pub size : call_size actor number called args ≤ payload_bits
  pub loose : called.reliable ≡ false → call_size actor number called args ≤ part_bits

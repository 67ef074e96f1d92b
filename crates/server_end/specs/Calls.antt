-- Calls that are made to a player.
use Rattle.std.specs.Prelude.{◌≡◌, ℕ, ◌<◌, ◌≤◌, ◌^◌, List, map, length, true, false, Some, IsTrue}
use Rattle.protocol_model.specs.Limits.{argument_limit, part_bits, payload_bits}
use Rattle.protocol_model.specs.Side.{AtServer}
use Rattle.protocol_model.specs.Payload.{Calls, message_bits}
use Rattle.connection_model.specs.Feed.{End, Past, has_ended}
use Rattle.connection_model.specs.State.{state_of, is_opened}
use Rattle.connection_model.specs.CallAnswers as answers
use Rattle.class_members.specs.Members.{call_of}
use Rattle.class_members.specs.declared.members.Call.{Call}
use Rattle.value_codec.specs.Values.{arg_of, arguments_fit}
use Rattle.value_codec.specs.declared.args.Arg.{Arg}
use Rattle.shadow_changes.specs.Samples.{Samples}
use Rattle.server_end.specs.declared.server_end.ServerEnd.{ServerEnd}
use Rattle.server_end.specs.Stands.{StandsEnd}

-- how many bits the call has
abbrev pub call_size : (actor number : ℕ) → Call → List Arg → ℕ
call_size a n called args = length (message_bits (Calls a n (call_of called) (map arg_of args)))

-- this call is asked of a living end, where the actor is opened: its arguments fit, and it is short
-- enough for its channel
pub record IsCalled (e : ServerEnd) (end : End) (past : Past) (samples : Samples)
    (actor number : ℕ) (called : Call) (args : List Arg) : Type 0 where
  pub stands : StandsEnd e end past samples
  pub alive : has_ended past ≡ false
  pub meant : is_opened (state_of past actor) ≡ true
      → answers.call_of AtServer past actor number (map arg_of args) ≡ Some (call_of called)
  pub few : length called.args ≤ argument_limit
  pub fit : IsTrue (arguments_fit called.args args)
  pub size : call_size actor number called args ≤ payload_bits
  pub loose : called.reliable ≡ false → call_size actor number called args ≤ part_bits
  pub count : e.table.made.count < 2 ^ 60

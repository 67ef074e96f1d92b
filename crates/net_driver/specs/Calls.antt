-- Calls that a server makes to players.
use Rattle.std.specs.Prelude.{◌≡◌, ◌≢◌, ℕ, List, false, None, Some, IsTrue}
use Rattle.protocol_model.specs.Value.{Table, Call as CallSpec, call_at, goes_up}
use Rattle.protocol_model.specs.World.{Edits, spawn_of, class_of}
use Rattle.value_codec.specs.Values.{arguments_fit}
use Rattle.value_codec.specs.declared.args.Arg.{Arg}

-- the actor was spawned, and its class has such a call that goes to clients, with arguments that
-- fit
pub record IsMade (table : Table) (edits : Edits) (actor number : ℕ)
    (args : List Arg) : Type 0 where
  pub spawned : spawn_of edits actor ≢ None
  pub call : CallSpec
  pub there : call_at (class_of table edits actor) number ≡ Some call
  pub way : goes_up call.way ≡ false
  pub fit : IsTrue (arguments_fit call.args args)

-- The lines of a script that were read, by what they do.
use Rattle.std.specs.Prelude.{ℕ, List}
use Rattle.protocol_model.specs.declared.Version.{Version}
use Rattle.protocol_model.specs.Value.{Arg}
use Rattle.protocol_model.specs.World.{Edit}
use Rattle.protocol_model.specs.Side.{Side}

-- bytes of a text
abbrev pub Text : Type 0
Text = List ℕ

-- a line of a script that was read; a side is the one that hears, ticks or calls
pub data Line : Type 0 where
  Join : (player budget : ℕ) (version : Version) → Line
  ApplyEdit : (edit : Edit) → Line
  TickAll : Line
  TickClient : (player : ℕ) → Line
  Deliver : (to : Side) (player number : ℕ) → Line
  DeliverNew : (to : Side) (player every : ℕ) → Line
  CallTo : (from : Side) (player actor number : ℕ) (args : List Arg) → Line
  CallAll : (actor number : ℕ) (args : List Arg) → Line
  Dump : (player : ℕ) → Line
  AskSettled : (player actor : ℕ) → Line
  Forge : (to : Side) (player : ℕ) (bytes : List ℕ) → Line

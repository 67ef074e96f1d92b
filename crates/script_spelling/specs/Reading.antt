-- The line of a word, with numbers as far as they are told apart.
use Rattle.std.specs.Prelude.{[], List, true, false, Option, Some, option_map, unwrap_or, ℤ}
use Rattle.std.specs.Bool.{then_some}
use Rattle.protocol_model.specs.declared.Version.TheVariants.{One, Two}
use Rattle.protocol_model.specs.Side.{Side, AtServer, AtClient}
use Rattle.script_model.specs.Lines.{Text}
use Rattle.script_model.specs.Script.{Spelled, Join, Spawn, Destroy, Set, Own, View, Add, Dormant, Wake, Flush, Switch, Team, Give, Tick, ClientTick, Deliver, DeliverNew, CallTo, CallAll, Dump, AskSettled, Forge, on_of, octets_of, ◌>>=◌}
use Rattle.script_spelling.specs.Fields.{is_nil}
use Rattle.script_spelling.specs.Shapes.{one_in, two_in, three_in, place_in, text_in, named_in, called_in, datagram_in}
use Rattle.script_spelling.specs.declared.word.Word.{Word}
use Rattle.script_spelling.specs.declared.word.Word.TheVariants as word

-- a line of one number
abbrev pub one_as : (ℤ → Spelled) → List Text → Option Spelled
one_as make fields = option_map make (one_in fields)

-- a line of two numbers
abbrev pub two_as : (ℤ → ℤ → Spelled) → List Text → Option Spelled
two_as make fields = option_map (λ (ns : ℤ × ℤ). make ns.0 ns.1) (two_in fields)

-- a line of three numbers
abbrev pub three_as : (ℤ → ℤ → ℤ → Spelled) → List Text → Option Spelled
three_as make fields = option_map (λ (ns : ℤ × ℤ × ℤ). make ns.0 ns.1 ns.2) (three_in fields)

-- a class and where it is spawned
abbrev pub spawn_as : List Text → Option Spelled
spawn_as fields = option_map (λ (place : Text × ℤ × ℤ). Spawn place.0 place.1 place.2) (place_in fields)

-- an actor, a property and a value
abbrev pub set_as : List Text → Option Spelled
set_as fields = option_map (λ (named : ℤ × Text × Text). Set named.0 named.1 named.2) (text_in fields)

-- an actor, a property and 0 or 1
abbrev pub switch_as : List Text → Option Spelled
switch_as fields = do
  named ← text_in fields
  on ← on_of named.2
  Some (Switch named.0 named.1 on)

-- a player, an actor, a call and its arguments
abbrev pub call_as : Side → List Text → Option Spelled
call_as side fields =
    option_map (λ (called : ℤ × ℤ × Text × List Text). CallTo side called.0 called.1 called.2 called.3)
    (called_in fields)

-- an actor, a call and its arguments
abbrev pub multi_as : List Text → Option Spelled
multi_as fields =
    option_map (λ (named : ℤ × Text × List Text). CallAll named.0 named.1 named.2) (named_in fields)

-- a player and a datagram
abbrev pub forge_as : Side → List Text → Option Spelled
forge_as side fields =
    option_map (λ (d : ℤ × Text). Forge side d.0 (unwrap_or (octets_of d.1) [])) (datagram_in fields)

-- the line of the word with these fields
abbrev pub spelled_as : Word → List Text → Option Spelled
spelled_as word.Join fields = two_as (Join One) fields
spelled_as word.Join2 fields = two_as (Join Two) fields
spelled_as word.Spawn fields = spawn_as fields
spelled_as word.Destroy fields = one_as Destroy fields
spelled_as word.Set fields = set_as fields
spelled_as word.Own fields = two_as Own fields
spelled_as word.View fields = three_as View fields
spelled_as word.Add fields = two_as (Add true) fields
spelled_as word.Unadd fields = two_as (Add false) fields
spelled_as word.Dormant fields = one_as Dormant fields
spelled_as word.Wake fields = one_as Wake fields
spelled_as word.Flush fields = one_as Flush fields
spelled_as word.Switch fields = switch_as fields
spelled_as word.Team fields = two_as Team fields
spelled_as word.Give fields = two_as Give fields
spelled_as word.Tick fields = then_some (is_nil fields) Tick
spelled_as word.ClientTick fields = one_as ClientTick fields
spelled_as word.Down fields = two_as (Deliver AtClient) fields
spelled_as word.Up fields = two_as (Deliver AtServer) fields
spelled_as word.DownNew fields = two_as (DeliverNew AtClient) fields
spelled_as word.UpNew fields = two_as (DeliverNew AtServer) fields
spelled_as word.Call fields = call_as AtServer fields
spelled_as word.ClientCall fields = call_as AtClient fields
spelled_as word.Multi fields = multi_as fields
spelled_as word.Dump fields = one_as Dump fields
spelled_as word.Settled fields = two_as AskSettled fields
spelled_as word.Forge fields = forge_as AtServer fields
spelled_as word.ClientForge fields = forge_as AtClient fields

-- Which spelled line of the definitions a spelled line is.
use Rattle.std.specs.Prelude.{[], unwrap_or}
use Rattle.protocol_model.specs.Side.{AtServer, AtClient}
use Rattle.script_model.specs.Script as script
use Rattle.script_model.specs.Script.{octets_of}
use Rattle.script_spelling.specs.Capped.{capped}
use Rattle.script_spelling.specs.Fields.{pieces_after}
use Rattle.script_spelling.specs.declared.spelled.Spelled.{Spelled}
use Rattle.script_spelling.specs.declared.spelled.Spelled.TheVariants as spelled

-- the line; its numbers are those that are told apart
abbrev pub spelled_by : Spelled → script.Spelled
spelled_by (spelled.Join version player budget) = script.Join version player budget
spelled_by (spelled.Spawn class x y) = script.Spawn class.now x y
spelled_by (spelled.Destroy actor) = script.Destroy actor
spelled_by (spelled.Set actor name value) = script.Set actor name.now value.now
spelled_by (spelled.Own actor player) = script.Own actor player
spelled_by (spelled.View player x y) = script.View player x y
spelled_by (spelled.Add on actor player) = script.Add on actor player
spelled_by (spelled.Dormant actor) = script.Dormant actor
spelled_by (spelled.Wake actor) = script.Wake actor
spelled_by (spelled.Flush actor) = script.Flush actor
spelled_by (spelled.Switch actor name on) = script.Switch actor name.now on
spelled_by (spelled.Team player team) = script.Team player team
spelled_by (spelled.Give actor team) = script.Give actor team
spelled_by spelled.Tick = script.Tick
spelled_by (spelled.ClientTick player) = script.ClientTick player
spelled_by (spelled.Down player packet) = script.Deliver AtClient player packet
spelled_by (spelled.Up player packet) = script.Deliver AtServer player packet
spelled_by (spelled.DownNew player every) = script.DeliverNew AtClient player every
spelled_by (spelled.UpNew player every) = script.DeliverNew AtServer player every
spelled_by (spelled.Call player actor name args) = script.CallTo AtServer player actor name.now (pieces_after 32 args)
spelled_by (spelled.ClientCall player actor name args) =
    script.CallTo AtClient player actor name.now (pieces_after 32 args)
spelled_by (spelled.Multi actor name args) = script.CallAll actor name.now (pieces_after 32 args)
spelled_by (spelled.Dump player) = script.Dump player
spelled_by (spelled.Settled player actor) = script.AskSettled player actor
spelled_by (spelled.Forge player hex) = script.Forge AtServer player (unwrap_or (octets_of hex.now) [])
spelled_by (spelled.ClientForge player hex) = script.Forge AtClient player (unwrap_or (octets_of hex.now) [])

-- the line with its numbers as far as they are told apart
abbrev pub capped_line : script.Spelled → script.Spelled
capped_line (script.Join version player budget) = script.Join version (capped player) (capped budget)
capped_line (script.Spawn class x y) = script.Spawn class (capped x) (capped y)
capped_line (script.Destroy actor) = script.Destroy (capped actor)
capped_line (script.Set actor name value) = script.Set (capped actor) name value
capped_line (script.Own actor player) = script.Own (capped actor) (capped player)
capped_line (script.View player x y) = script.View (capped player) (capped x) (capped y)
capped_line (script.Add on actor player) = script.Add on (capped actor) (capped player)
capped_line (script.Dormant actor) = script.Dormant (capped actor)
capped_line (script.Wake actor) = script.Wake (capped actor)
capped_line (script.Flush actor) = script.Flush (capped actor)
capped_line (script.Switch actor name on) = script.Switch (capped actor) name on
capped_line (script.Team player team) = script.Team (capped player) (capped team)
capped_line (script.Give actor team) = script.Give (capped actor) (capped team)
capped_line script.Tick = script.Tick
capped_line (script.ClientTick player) = script.ClientTick (capped player)
capped_line (script.Deliver to player number) = script.Deliver to (capped player) (capped number)
capped_line (script.DeliverNew to player every) = script.DeliverNew to (capped player) (capped every)
capped_line (script.CallTo from player actor name args) = script.CallTo from (capped player) (capped actor) name args
capped_line (script.CallAll actor name args) = script.CallAll (capped actor) name args
capped_line (script.Dump player) = script.Dump (capped player)
capped_line (script.AskSettled player actor) = script.AskSettled (capped player) (capped actor)
capped_line (script.Forge to player bytes) = script.Forge to (capped player) bytes

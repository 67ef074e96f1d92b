-- Which line of the definitions a line is.
use Rattle.std.specs.Prelude.{map}
use Rattle.protocol_model.specs.Side.{AtServer, AtClient}
use Rattle.script_model.specs.Lines as story
use Rattle.value_codec.specs.Values.{arg_of}
use Rattle.world_table.specs.Answers.{edit_of}
use Rattle.script_lines.specs.declared.line.Line.{Line}
use Rattle.script_lines.specs.declared.line.Line.TheVariants.{Join, Tick, ClientTick, Down, Up, DownNew, UpNew, Call, Multi, ClientCall, Dump, Settled, Forge, ClientForge}
use Rattle.script_lines.specs.declared.line.Line.TheVariants as line

-- the line
abbrev pub line_of : Line → story.Line
line_of (Join player budget version) = story.Join player budget version
line_of (line.Edit edit) = story.ApplyEdit (edit_of edit)
line_of Tick = story.TickAll
line_of (ClientTick player) = story.TickClient player
line_of (Down player packet) = story.Deliver AtClient player packet
line_of (Up player packet) = story.Deliver AtServer player packet
line_of (DownNew player every) = story.DeliverNew AtClient player every
line_of (UpNew player every) = story.DeliverNew AtServer player every
line_of (Call player actor call args) = story.CallTo AtServer player actor call (map arg_of args)
line_of (Multi actor call args) = story.CallAll actor call (map arg_of args)
line_of (ClientCall player actor call args) = story.CallTo AtClient player actor call (map arg_of args)
line_of (Dump player) = story.Dump player
line_of (Settled player actor) = story.AskSettled player actor
line_of (Forge player bytes) = story.Forge AtServer player bytes
line_of (ClientForge player bytes) = story.Forge AtClient player bytes

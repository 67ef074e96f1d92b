-- Which lines a replay may be given.
use Rattle.std.specs.Prelude.{◌≡◌, ◌≤◌, ◌<◌, ◌^◌, List, [], ◌∷◌, length, None, ⊤}
use Rattle.protocol_model.specs.World.{Edits}
use Rattle.replication_model.specs.Story.{Story, after_line}
use Rattle.following_laws.specs.Following.{MayJoin}
use Rattle.class_layout.specs.Tables.{Layout, table_in}
use Rattle.world_table.specs.Answers.{refusal_in}
use Rattle.net_driver.specs.Calls.{IsMade}
use Rattle.script_lines.specs.declared.line.Line.{Line}
use Rattle.script_lines.specs.declared.line.Line.TheVariants as line
use Rattle.script_lines.specs.LineOf.{line_of}
use Rattle.replay_core.specs.Stands.{IsThere}

-- a line of a player who is there may be done: packets count from 1, and a call that the server makes
-- is one of the actor's class, with arguments that fit
abbrev pub MayDo : Layout → Edits → Line → Type 0
MayDo layout edits (line.Down player packet) = 1 ≤ packet
MayDo layout edits (line.Up player packet) = 1 ≤ packet
MayDo layout edits (line.Call player actor call args) = IsMade (table_in layout) edits actor call args
MayDo layout edits line = ⊤

-- the line may follow those of the story
abbrev pub May : Layout → Story → Line → Type 0
May layout story (line.Join player budget version) = MayJoin story.players player budget
May layout story (line.Edit edit) =
    (refusal_in (table_in layout) story.edits edit ≡ None) × (length story.edits < 2 ^ 61)
May layout story line.Tick = ⊤
May layout story (line.Multi actor call args) = IsMade (table_in layout) story.edits actor call args
May layout story (line.ClientTick player) = IsThere story.players player
May layout story (line.Down player packet) =
    IsThere story.players player × MayDo layout story.edits (line.Down player packet)
May layout story (line.Up player packet) =
    IsThere story.players player × MayDo layout story.edits (line.Up player packet)
May layout story (line.DownNew player every) = IsThere story.players player
May layout story (line.UpNew player every) = IsThere story.players player
May layout story (line.Call player actor call args) =
    IsThere story.players player × MayDo layout story.edits (line.Call player actor call args)
May layout story (line.ClientCall player actor call args) = IsThere story.players player
May layout story (line.Dump player) = IsThere story.players player
May layout story (line.Settled player actor) = IsThere story.players player
May layout story (line.Forge player bytes) = IsThere story.players player
May layout story (line.ClientForge player bytes) = IsThere story.players player

-- each of the lines may follow those of the story and the lines before it
abbrev pub MayAll : Layout → Story → List Line → Type 0
MayAll layout story [] = ⊤
MayAll layout story (line ∷ lines) =
    May layout story line × MayAll layout (after_line (table_in layout) story (line_of line)).0 lines

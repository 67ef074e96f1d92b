-- What a tick of an end does outside.
use Rattle.std.specs.Prelude.{◌≡◌, ℕ, List, [], ◌∷◌, Bool, if◌then◌else◌}
use Rattle.protocol_model.specs.Side as model
use Rattle.protocol_model.specs.Value.{Table}
use Rattle.protocol_model.specs.World.{Edits}
use Rattle.script_model.specs.Lines.{Text}
use Rattle.script_model.specs.Reports.{Sent, Stalled, report_text}
use Rattle.replication_model.specs.Story.{Player}
use Rattle.link_end.specs.declared.sent.Sent.{Sent as SentValue}
use Rattle.replay_places.specs.Doing.{IsTicked}
use Rattle.live_model.specs.Outside.{Act, Sends, Writes}
use Rattle.live_model.specs.Server.{write, after_live_tick}
use Rattle.live_acts.specs.declared.act.Act.{Act as ActCode}
use Rattle.live_acts.specs.Acts.{AddsActs}
use Rattle.live_telling.specs.declared.ticking.Side.{Side}
use Rattle.live_telling.specs.declared.ticking.Side.TheVariants.{Server, Client}
use Rattle.live_telling.specs.declared.ticking.Teller.{Teller}

-- a side as the definitions have it
abbrev pub side_of : Side → model.Side
side_of Server = model.AtServer
side_of Client = model.AtClient

-- the line of a packet
abbrev pub packet_text : Teller → (number : ℕ) → List ℕ → Text
packet_text t number bytes = report_text (Sent (side_of t.side) t.player number bytes)

-- the packet, and then its line
abbrev pub packet_acts : Teller → SentValue → List Act
packet_acts t s = Sends t.end t.to s.bytes ∷ Writes (packet_text t s.number s.bytes) ∷ []

-- whether the end stalled
abbrev pub stall_acts : Teller → (stalled : Bool) → List Act
stall_acts t stalled = if stalled then write (Stalled (side_of t.side) t.player) ∷ [] else []

-- where these packets are what the player's end sends in a tick, the acts of that tick were added
abbrev pub Tells : Table → Edits → Teller → (sent : List SentValue) → Bool
    → (before after : List ActCode) → Player → Type 0
Tells table edits t sent stalled before after p =
    t.player ≡ p.number → IsTicked table edits (side_of t.side) p sent stalled
    → AddsActs before after (after_live_tick table edits (side_of t.side) t.end t.to p).1

-- What a line does at a player's place, and what is told of it.
use Rattle.std.specs.Prelude.{◌≡◌, ℕ, ◌++◌, ◌∷◌, List, [], map, Bool, not, ◌&&◌, if◌then◌else◌, ℤ}
use Rattle.protocol_model.specs.Side.{Side, AtServer, AtClient}
use Rattle.protocol_model.specs.Value.{Table, Class, Pair}
use Rattle.protocol_model.specs.World.{Edits}
use Rattle.connection_model.specs.Feed.{has_ended}
use Rattle.script_model.specs.Reports.{Report, Sent, Stalled, Handed, Copy as CopyReport}
use Rattle.replication_model.specs.Story.{Player, Reported, end_of, past_at, with_event, tick_event, after_delivery, is_kept}
use Rattle.class_layout.specs.Tables.{Layout, table_in}
use Rattle.handovers.specs.Handovers.{Handover}
use Rattle.actor_copies.specs.Copies.{Copy}
use Rattle.link_end.specs.Answers.{new_packets, sent_value}
use Rattle.link_end.specs.declared.sent.Sent.{Sent as SentValue}
use Rattle.script_lines.specs.declared.event.Event.{Event}
use Rattle.script_lines.specs.ReportOf.{report_of, handle_name}
use Rattle.replay_places.specs.declared.place.Place.{Place}
use Rattle.replay_places.specs.declared.sending.Sender.{Sender}
use Rattle.replay_places.specs.declared.sending.Sender.TheVariants.{Server, Client}
use Rattle.replay_places.specs.Places.{IsPlace}

-- the events of these reports are added
abbrev pub Adds : Table → (before after : List Event) → List Report → Type 0
Adds table before after reports =
    map (report_of table) after ≡ map (report_of table) before ++ reports

-- the place stands for the player's part of the story as it went on, and that was told
pub record IsDone (layout : Layout) (after : Place) (before told : List Event)
    (done : Reported) : Type 0 where
  pub stands : IsPlace layout after done.0
  pub adds : Adds (table_in layout) before told done.1

-- the same is done of each player for whom the place stood
abbrev pub Does : Layout → (Player → Reported) → (old new : Place) → (before told : List Event)
    → Type 0
Does layout does old new before told =
    (p : Player) → IsPlace layout old p → IsDone layout new before told (does p)

-- ---- what is told

-- calls that were handed over
abbrev pub handover_report : Side → (player : ℕ) → Handover → Report
handover_report side player h = Handed side player h.actor h.call.name h.verdict h.args

abbrev pub handover_reports : Side → (player : ℕ) → List Handover → List Report
handover_reports side player hs = map (handover_report side player) hs

-- a value by its property's name
abbrev pub named_pair : Class → Pair → List ℕ × ℤ
named_pair class v = (handle_name class v.handle, v.value)

-- a copy
abbrev pub copied_report : (player : ℕ) → Copy → Report
copied_report player c =
    CopyReport player c.actor c.class.name c.channel (map (named_pair c.class) c.values)

-- the end that sent
abbrev pub side_of : Sender → Side
side_of Server = AtServer
side_of Client = AtClient

-- a packet, and its bytes
abbrev pub sent_report : Side → (player : ℕ) → SentValue → Report
sent_report side player s = Sent side player s.number s.bytes

abbrev pub bytes_of : SentValue → List ℕ
bytes_of s = s.bytes

-- an end stalled
abbrev pub stalled_reports : Side → (player : ℕ) → (stalled : Bool) → List Report
stalled_reports side player stalled = if stalled then Stalled side player ∷ [] else []

-- ---- what is done

-- a packet is delivered, unless its number is a multiple of `every`
abbrev pub kept_delivery : Table → Edits → Side → (every number : ℕ) → Player → Reported
kept_delivery table edits side every k p =
    if is_kept every k then after_delivery table edits side k p else (p, [])

-- these packets are what the player's end at this side sends in a tick, and it stalls in it or not
pub record IsTicked (table : Table) (edits : Edits) (side : Side) (p : Player)
    (sent : List SentValue) (stalled : Bool) : Type 0 where
  pub packets : map sent_value sent ≡ new_packets (end_of table side p) (past_at table side p)
      (past_at table side (with_event side (tick_event table edits side p) p))
  pub stalls : stalled ≡ (not (has_ended (past_at table side p))
      && has_ended (past_at table side (with_event side (tick_event table edits side p) p)))

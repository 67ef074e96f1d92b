-- What a line does to one player's part of the story, and what comes of it at the two ends.
use Rattle.std.specs.Prelude.{◌≡◌, ℕ, List, [], ◌∷◌, map, Bool, true, false, Option, Some, None, slice_get, slice_set, nat_lt, nat_le, unwrap_or, length, ⊤}
use Rattle.std.specs.List.{flat_map, position}
use Rattle.protocol_model.specs.Side.{Side, AtServer, AtClient}
use Rattle.protocol_model.specs.Value.{Table}
use Rattle.protocol_model.specs.World.{Edits}
use Rattle.script_model.specs.Lines.{Line, Join, ApplyEdit, TickAll, TickClient, Deliver, DeliverNew, CallTo, CallAll, Dump, AskSettled, Forge}
use Rattle.script_model.specs.Reports.{Report, Actor}
use Rattle.protocol_model.specs.declared.Verdict.{Verdict}
use Rattle.connection_model.specs.Feed.{Got}
use Rattle.connection_model.specs.Verdict.{verdict_of}
use Rattle.replication_model.specs.Story.{Player, Reported, end_of, past_at, with_event, handed_reports, after_tick_of, after_delivery, after_new_deliveries, after_call_of, after_forgery, settled_answer, copies_reports}
use Rattle.class_layout.specs.Tables.{Layout, table_in}
use Rattle.net_driver.specs.Serves.{Drive}
use Rattle.net_driver.specs.declared.report.PlayerTick.{PlayerTick}
use Rattle.script_lines.specs.declared.event.Event.{Event}
use Rattle.replay_places.specs.declared.place.Place.{Place}
use Rattle.replay_places.specs.Places.{IsPlace}
use Rattle.replay_places.specs.Doing.{Adds, IsTicked}
use Rattle.replay_core.specs.Stands.{Ascend, Serving, ArePlaces}

-- ---- lines of one player

-- the player whose line it is
abbrev pub line_player : Line → Option ℕ
line_player (TickClient player) = Some player
line_player (Deliver side player k) = Some player
line_player (DeliverNew side player every) = Some player
line_player (CallTo side player a n args) = Some player
line_player (Dump player) = Some player
line_player (AskSettled player a) = Some player
line_player (Forge side player bytes) = Some player
line_player (Join player budget version) = None
line_player (ApplyEdit edit) = None
line_player TickAll = None
line_player (CallAll a n args) = None

-- the end that does it
abbrev pub line_side : Line → Side
line_side (TickClient player) = AtClient
line_side (Deliver side player k) = side
line_side (DeliverNew side player every) = side
line_side (CallTo side player a n args) = side
line_side (Dump player) = AtClient
line_side (Forge side player bytes) = side
line_side line = AtServer

-- what it does to the player's part of the story, and tells
abbrev pub line_does : Table → Line → Edits → Player → Reported
line_does table (TickClient player) edits = after_tick_of table edits AtClient
line_does table (Deliver side player k) edits = after_delivery table edits side k
line_does table (DeliverNew side player every) edits = after_new_deliveries table edits side every
line_does table (CallTo side player a n args) edits = after_call_of table side a n args
line_does table (Dump player) edits = λ (p : Player). (p, copies_reports table p)
line_does table (AskSettled player a) edits = settled_answer table edits a
line_does table (Forge side player bytes) edits = after_forgery table edits side bytes
line_does table line edits = λ (p : Player). (p, [])

-- ---- what comes of it

-- this player stands at this place among the players, who ascend
pub record IsAt (players : List Player) (i : ℕ) (p : Player) : Type 0 where
  pub ascend : Ascend 0 players
  pub there : slice_get players i ≡ Some p

-- the server stands for the players with this one's part as it went on, and that was told
pub record IsServed (layout : Layout) (d : Drive) (before told : List Event) (edits : Edits)
    (players : List Player) (i : ℕ) (done : Reported) : Type 0 where
  pub serving : Serving layout d edits (slice_set players i done.0)
  pub adds : Adds (table_in layout) before told done.1

-- the same is done of the player of a number, whatever else stands in the story
abbrev pub Serves : Layout → (Edits → Player → Reported) → (player : ℕ) → (old new : Drive)
    → (before told : List Event) → Type 0
Serves layout does n old new before told =
    (edits : Edits) (players : List Player) (i : ℕ) (p : Player)
    → Serving layout old edits players → IsAt players i p → n ≡ p.number
    → IsServed layout new before told edits players i (does edits p)

-- and the player's place stands for that part
pub record IsDoneAt (layout : Layout) (d : Drive) (k : Place) (before told : List Event)
    (edits : Edits) (players : List Player) (i : ℕ) (done : Reported) : Type 0 where
  pub served : IsServed layout d before told edits players i done
  pub stands : IsPlace layout k done.0

-- the same is done of each player for whom the place stood
abbrev pub DoesAt : Layout → (Edits → Player → Reported) → (old new : Drive) → (k l : Place)
    → (before told : List Event) → Type 0
DoesAt layout does old new k l before told =
    (edits : Edits) (players : List Player) (i : ℕ) (p : Player)
    → Serving layout old edits players → IsAt players i p → IsPlace layout k p
    → IsDoneAt layout new l before told edits players i (does edits p)

-- a player's end heard these bytes: what it says, what it stands for, and the calls that were told
pub record IsHeard (layout : Layout) (bytes : List ℕ) (verdict : Verdict) (d : Drive)
    (before told : List Event) (edits : Edits) (players : List Player) (i : ℕ)
    (p : Player) : Type 0 where
  pub says : verdict ≡ verdict_of (end_of (table_in layout) AtServer p)
      (past_at (table_in layout) AtServer p) bytes
  pub serving : Serving layout d edits (slice_set players i (with_event AtServer (Got bytes) p))
  pub adds : Adds (table_in layout) before told
      (handed_reports edits AtServer p.number (end_of (table_in layout) AtServer p)
      (past_at (table_in layout) AtServer p) bytes)

-- whoever the player is
abbrev pub Hears : Layout → (player : ℕ) → List ℕ → Verdict → (old new : Drive)
    → (before told : List Event) → Type 0
Hears layout n bytes verdict old new before told =
    (edits : Edits) (players : List Player) (i : ℕ) (p : Player)
    → Serving layout old edits players → IsAt players i p → n ≡ p.number
    → IsHeard layout bytes verdict new before told edits players i p

-- ---- lines of all players

-- each player's part goes on, and that is told
abbrev pub all_after : (Player → Reported) → List Player → List Player
all_after does players = map (λ (p : Player). (does p).0) players

abbrev pub all_told : (Player → Reported) → List Player → List Report
all_told does players = flat_map (λ (p : Player). (does p).1) players

-- the server's end of the player's connection ticked so
abbrev pub IsTickOf : Table → Edits → Player → PlayerTick → Type 0
IsTickOf table edits p t = IsTicked table edits AtServer p t.sent t.stalled

-- one by one
abbrev pub AreTicked : Table → Edits → List Player → List PlayerTick → Type 0
AreTicked table edits [] [] = ⊤
AreTicked table edits [] (t ∷ ticks) = ⊥
AreTicked table edits (p ∷ players) [] = ⊥
AreTicked table edits (p ∷ players) (t ∷ ticks) =
    IsTickOf table edits p t × AreTicked table edits players ticks

-- the places stand for the parts as they went on, and that was told
pub record AreKept (layout : Layout) (now : List Place) (before told : List Event)
    (does : Player → Reported) (players : List Player) : Type 0 where
  pub places : ArePlaces layout now (all_after does players)
  pub adds : Adds (table_in layout) before told (all_told does players)

-- the server stands for the parts as they went on, and that was told
pub record AreServed (layout : Layout) (d : Drive) (before told : List Event) (edits : Edits)
    (does : Player → Reported) (players : List Player) : Type 0 where
  pub serving : Serving layout d edits (all_after does players)
  pub adds : Adds (table_in layout) before told (all_told does players)

-- ---- what is told of an edit

-- the client is asked
abbrev pub is_client_side : Side → Bool
is_client_side AtServer = false
is_client_side AtClient = true

-- the actor that was spawned, if one was
abbrev pub actor_reports : Option ℕ → List Report
actor_reports None = []
actor_reports (Some actor) = Actor actor ∷ []

-- the one place stands before the other
abbrev pub sits_before : Place → Place → Bool
sits_before one two = nat_lt one.player two.player

-- where a new place of this player goes: before the first that doesn't stand before the player's
abbrev pub place_among : (player : ℕ) → List Place → ℕ
place_among player places =
    unwrap_or (position (λ (x : Place). nat_le player x.player) places) (length places)

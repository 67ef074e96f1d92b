-- Copies as they started, and all that is promised of a player besides the headline.
use Rattle.std.specs.Prelude.{◌≡◌, ℕ, List, ◌∷◌, ◌++◌, Some}
use Rattle.protocol_model.specs.Side.{AtServer, AtClient}
use Rattle.protocol_model.specs.Value.{Table}
use Rattle.protocol_model.specs.World.{class_of, value_of}
use Rattle.script_model.specs.Lines.{Line, TickAll}
use Rattle.connection_model.specs.Copies.{copy_channel, copy_value}
use Rattle.replication_model.specs.Headline.{HasJoined, IsHonest}
use Rattle.replication_model.specs.Story.{Player, story_of, past_at}
use Rattle.headline_laws.specs.Fair.{HasFairVerdicts}
use Rattle.headline_laws.specs.Once.{HandsOverOnce}
use Rattle.recovery_laws.specs.Asleep.{CopiesSleeping}
use Rattle.recovery_laws.specs.Initial.{IsInitial, LastOpen}

-- the copy of the actor on the channel started with a line of the script: a server's tick in which
-- its end made the open that the client applied last; and each initial-only property has the value
-- that it had in the world then
pub record StartedIn (table : Table) (lines : List Line) (p : Player) (actor channel : ℕ)
    : Type 0 where
  pub before : List Line
  pub after : List Line
  pub tick : lines ≡ before ++ TickAll ∷ after
  pub opened : LastOpen table p.number (story_of table lines).0.edits (past_at table AtServer p)
      (past_at table AtClient p) actor channel
  pub world : opened.world ≡ (story_of table before).0.edits
  pub values : (h : ℕ) → IsInitial (class_of table (story_of table lines).0.edits actor) h
      → copy_value (past_at table AtClient p) actor h
      ≡ value_of table (story_of table before).0.edits actor h

-- each copy that has a channel started so
abbrev pub StartsCopies : Table → List Line → Player → Type 0
StartsCopies table lines p =
    (actor channel : ℕ) → copy_channel (past_at table AtClient p) actor ≡ Some channel
    → StartedIn table lines p actor channel

-- unreliable calls come once at most, datagrams have fair verdicts, copies keep the initial values
-- of the tick in which they started, and sleeping actors are copied asleep
pub record IsRecovered (table : Table) (lines : List Line) (p : Player) : Type 0 where
  pub once : HandsOverOnce table p
  pub verdicts : HasFairVerdicts table lines p.number
  pub started : StartsCopies table lines p
  pub asleep : CopiesSleeping table p

-- so it is of each player of whom no datagram was forged
abbrev pub Recovers : Table → List Line → Type 0
Recovers table lines =
    (p : Player) → HasJoined (story_of table lines).0 p → IsHonest lines p.number
    → IsRecovered table lines p

-- What a player's client has recovered of the actors, by the lines of a script.
use Rattle.std.specs.Prelude.{◌≡◌, ℕ, List, true}
use Rattle.protocol_model.specs.Side.{AtServer, AtClient}
use Rattle.protocol_model.specs.World.{class_of, value_of}
use Rattle.script_model.specs.Lines.{Line}
use Rattle.table_model.specs.Rules.{Entry, segments_of}
use Rattle.table_model.specs.Grammar.{table_of}
use Rattle.connection_model.specs.Copies.{copy_value}
use Rattle.connection_model.specs.State.{state_of, is_asleep}
use Rattle.replication_model.specs.Story.{Player, story_of, end_of, past_at}
use Rattle.recovery_laws.specs.Asleep.{SleepsAsSeen}
use Rattle.recovery_laws.specs.Faithful.{IsFaithfulTalk, AppliesLoose}
use Rattle.recovery_laws.specs.Initial.{IsInitial, LastOpen}

-- the player's two ends talk, and its client is faithful
abbrev pub TalksFaithfully : List Entry → List Line → Player → Type 0
TalksFaithfully entries lines p =
    IsFaithfulTalk (end_of (table_of entries) AtServer p) (end_of (table_of entries) AtClient p)
    p.server_feed p.client_feed p.number (story_of (table_of entries) lines).0.edits
    (segments_of entries)

-- the open that the player's copy of the actor on the channel came of last
abbrev pub OpenedLast : List Entry → List Line → Player → (actor channel : ℕ) → Type 0
OpenedLast entries lines p a ch =
    LastOpen (table_of entries) p.number (story_of (table_of entries) lines).0.edits
    (past_at (table_of entries) AtServer p) (past_at (table_of entries) AtClient p) a ch

-- each initial-only handle of the copy has the actor's value in the world of that open
abbrev pub KeepsInitial : (entries : List Entry) (lines : List Line) (p : Player)
    (actor channel : ℕ) → OpenedLast entries lines p actor channel → Type 0
KeepsInitial entries lines p a ch o =
    (handle : ℕ)
    → IsInitial (class_of (table_of entries) (story_of (table_of entries) lines).0.edits a) handle
    → copy_value (past_at (table_of entries) AtClient p) a handle
    ≡ value_of (table_of entries) o.world a handle

-- where the actor sleeps at the player's server, its copy sleeps as it was seen
abbrev pub SleepsAtBoth : List Entry → Player → (actor : ℕ) → Type 0
SleepsAtBoth entries p a =
    is_asleep (state_of (past_at (table_of entries) AtServer p) a) ≡ true
    → SleepsAsSeen (past_at (table_of entries) AtServer p) (past_at (table_of entries) AtClient p) a

-- of each packet that the player's client took, what is unreliable was handed on once
abbrev pub AppliesLooseOnce : List Entry → Player → Type 0
AppliesLooseOnce entries p =
    AppliesLoose (past_at (table_of entries) AtServer p) (past_at (table_of entries) AtClient p)

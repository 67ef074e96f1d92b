-- What is promised after every prefix of a script's lines, for a player whose datagrams were not forged: calls are
-- handed over as prefixes of those queued, and each settled actor's copy is the actor as the player sees it.
-- `Holds` is meant for tables that a file gives and lines that a script reads; of other lists it may be false.
use Rattle.std.specs.Prelude.{◌≡◌, ℕ, ◌==◌, List, ◌∷◌, ◌++◌, Bool, false, not, Some, IsTrue}
use Rattle.std.specs.List.{list_any}
use Rattle.protocol_model.specs.Value.{Table}
use Rattle.protocol_model.specs.World.{class_of}
use Rattle.protocol_model.specs.Sight.{seen_of}
use Rattle.protocol_model.specs.Side.{Side, AtServer, AtClient}
use Rattle.connection_model.specs.State.{index_of}
use Rattle.connection_model.specs.Carry.{updatable_pairs}
use Rattle.connection_model.specs.Settled.{is_settled}
use Rattle.connection_model.specs.Copies.{copy_class, copy_channel, copy_value}
use Rattle.connection_model.specs.Handed.{queued_on, handed_on}
use Rattle.protocol_model.specs.Value.{Pair}
use Rattle.script_model.specs.Lines.{Line, Forge}
use Rattle.replication_model.specs.Story.{Story, Player, story_of, past_at, other_side}

-- the line forges a datagram of the player
abbrev pub forges : (player : ℕ) → Line → Bool
forges player (Forge to p bytes) = p == player
forges player line = false

-- no datagram of the player was forged
abbrev pub IsHonest : List Line → (player : ℕ) → Type 0
IsHonest lines player = IsTrue (not (list_any (forges player) lines))

-- the one list begins the other
abbrev pub IsPrefix : {A : Type 0} → List A → List A → Type 0
IsPrefix {A} some all = (rest : List A) × (all ≡ some ++ rest)

-- p joined in these lines
abbrev pub HasJoined : Story → Player → Type 0
HasJoined story p = (before after : List Player) × (story.players ≡ before ++ p ∷ after)

-- the calls handed over at one side are a prefix of those queued at the other, each once, on every index
abbrev pub HandsOverPrefixes : Table → Player → Type 0
HandsOverPrefixes table p =
    (side : Side) (ch : ℕ) → IsPrefix (handed_on (past_at table side p) ch)
    (queued_on (past_at table (other_side side) p) ch)

-- of each settled actor the client has a copy of its class, open on the index that it holds, with each
-- updatable handle as the player sees it
pub record IsCopied (table : Table) (story : Story) (p : Player) (a : ℕ) : Type 0 where
  pub class : copy_class (past_at table AtClient p) a ≡ Some (class_of table story.edits a)
  pub channel : copy_channel (past_at table AtClient p) a ≡ index_of (past_at table AtServer p) a
  pub values : (pair : Pair) (before after : List Pair)
      → updatable_pairs (seen_of table story.edits p.number a) ≡ before ++ pair ∷ after
      → copy_value (past_at table AtClient p) a pair.handle ≡ pair.value

-- each settled actor is copied
abbrev pub CopiesSettled : Table → Story → Player → Type 0
CopiesSettled table story p =
    (a : ℕ) → IsTrue
    (is_settled table story.edits p.number (past_at table AtServer p) a) → IsCopied table story p a

-- both, for these lines
abbrev pub Holds : Table → List Line → Type 0
Holds table lines = (p : Player) → HasJoined (story_of table lines).0 p → IsHonest lines p.number
    → HandsOverPrefixes table p × CopiesSettled table (story_of table lines).0 p

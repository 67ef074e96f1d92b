-- Which lines may follow those of a story.
use Rattle.std.specs.Prelude.{◌≡◌, ◌≢◌, ℕ, ◌≤◌, ◌<◌, ◌==◌, List, [], ◌∷◌, length, Bool, true, false, Some, None, is_some, find, ⊤}
use Rattle.protocol_model.specs.Limits.{player_limit, budget_limit, connection_limit}
use Rattle.protocol_model.specs.Side.{AtServer, AtClient}
use Rattle.protocol_model.specs.Value.{Table, Call, Arg, call_at, goes_up, args_fit}
use Rattle.protocol_model.specs.World.{Edits, spawn_of, class_of, refusal_of}
use Rattle.script_model.specs.Lines.{Line, Join, ApplyEdit, TickAll, TickClient, Deliver, DeliverNew, CallTo, CallAll, Dump, AskSettled, Forge}
use Rattle.replication_model.specs.Story.{Player, Story, after_line}

-- the player joined
abbrev pub has_player : List Player → (player : ℕ) → Bool
has_player players n = is_some (find (λ (p : Player). p.number == n) players)

-- a player of this number may join with this budget: both are in range, the player is new, and there is room
pub record MayJoin (players : List Player) (player budget : ℕ) : Type 0 where
  pub least : 1 ≤ player
  pub most : player ≤ player_limit
  pub some_budget : 1 ≤ budget
  pub most_budget : budget ≤ budget_limit
  pub new : has_player players player ≡ false
  pub few : length players < connection_limit

-- the server may make the call: the actor was spawned, and its class has a call of this number that goes to
-- clients, with arguments that fit
pub record MayCall (table : Table) (edits : Edits) (actor number : ℕ) (args : List Arg) : Type 0 where
  pub spawned : spawn_of edits actor ≢ None
  pub call : Call
  pub there : call_at (class_of table edits actor) number ≡ Some call
  pub way : goes_up call.way ≡ false
  pub fit : args_fit call.args args ≡ true

-- the line may follow those of the story
abbrev pub Follows : Table → Story → Line → Type 0
Follows table story (Join player budget version) = MayJoin story.players player budget
Follows table story (ApplyEdit edit) = refusal_of table story.edits edit ≡ None
Follows table story TickAll = ⊤
Follows table story (TickClient player) = has_player story.players player ≡ true
Follows table story (Deliver side player k) = (has_player story.players player ≡ true) × (1 ≤ k)
Follows table story (DeliverNew side player every) = has_player story.players player ≡ true
Follows table story (CallTo AtServer player a n args) =
    (has_player story.players player ≡ true) × MayCall table story.edits a n args
Follows table story (CallTo AtClient player a n args) = has_player story.players player ≡ true
Follows table story (CallAll a n args) = MayCall table story.edits a n args
Follows table story (Dump player) = has_player story.players player ≡ true
Follows table story (AskSettled player a) = has_player story.players player ≡ true
Follows table story (Forge side player bytes) = has_player story.players player ≡ true

-- each line may follow those of the story and the lines before it
abbrev pub FollowAll : Table → Story → List Line → Type 0
FollowAll table story [] = ⊤
FollowAll table story (line ∷ lines) =
    Follows table story line × FollowAll table (after_line table story line).0 lines

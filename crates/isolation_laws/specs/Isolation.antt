-- What a player's ends hear, what its server sends, and that both are the same without unseen
-- lines.
use Rattle.std.specs.Prelude.{◌≡◌, ℕ, ◌+◌, ◌==◌, List, [], ◌∷◌, ◌++◌, Bool, true, false, not, Option, Some, None, IsTrue, find, filter_map, option_map, unwrap_or, if◌then◌else◌}
use Rattle.std.specs.List.{list_any}
use Rattle.protocol_model.specs.Side.{Side, AtServer}
use Rattle.protocol_model.specs.Value.{Table, Arg}
use Rattle.protocol_model.specs.declared.CallAnswer.{CallAnswer}
use Rattle.protocol_model.specs.declared.Verdict.{Verdict}
use Rattle.script_model.specs.Lines.{Line, Join, Dump, AskSettled}
use Rattle.script_model.specs.Reports.{Report, Sent}
use Rattle.connection_model.specs.CallAnswers.{answer_of}
use Rattle.connection_model.specs.Feed.{End, Event}
use Rattle.connection_model.specs.Past.{out_of}
use Rattle.connection_model.specs.Verdict.{verdict_of}
use Rattle.replication_model.specs.Story.{Player, story_of, end_of, feed_of, past_at}
use Rattle.isolation_laws.specs.Unseen.{is_unseen}

-- ---- feeds

-- the player's end at one side, as it joined, and what it heard
abbrev pub heard_by : Table → List Line → Side → (player : ℕ) → Option (End × List Event)
heard_by table lines side player =
    option_map (λ (p : Player). (end_of table side p, feed_of side p))
    (find (λ (p : Player). p.number == player) (story_of table lines).0.players)

-- over both lists of lines the player's ends hear the same
abbrev pub HearsSame : Table → (player : ℕ) → (one other : List Line) → Type 0
HearsSame table player one other =
    (side : Side) → heard_by table one side player ≡ heard_by table other side player

-- a packet that the server sent to the player, with its number
abbrev pub sent_to : (player : ℕ) → Report → Option (ℕ × List ℕ)
sent_to player (Sent AtServer p number bytes) = elim (p == player) [
  | true ↦ Some (number, bytes)
  | false ↦ None
]
sent_to player report = None

-- the `sent` lines of the server's packets to the player
abbrev pub sent_lines : Table → List Line → (player : ℕ) → List (ℕ × List ℕ)
sent_lines table lines player = filter_map (sent_to player) (story_of table lines).1

-- the player joins in this line
abbrev pub joins : (player : ℕ) → Line → Bool
joins player (Join p budget version) = p == player
joins player line = false

-- the player joins in one of the lines at most, as in every script that is read
abbrev pub joins_once : (player : ℕ) → List Line → Bool
joins_once player [] = true
joins_once player (line ∷ lines) =
    if joins player line then not (list_any (joins player) lines) else joins_once player lines

-- lines over which the player's server end hears the same give the player the same `sent` lines
abbrev pub SendsByFeed : Type 0
SendsByFeed =
    (table : Table) (player : ℕ) (one other : List Line)
    → IsTrue (joins_once player one) → IsTrue (joins_once player other)
    → heard_by table one AtServer player ≡ heard_by table other AtServer player
    → sent_lines table one player ≡ sent_lines table other player

-- packets with their numbers, from the first one on
abbrev pub numbered : (first : ℕ) → List (List ℕ) → List (ℕ × List ℕ)
numbered n [] = []
numbered n (bytes ∷ packets) = (n, bytes) ∷ numbered (n + 1) packets

-- the packets of a server end that hears the player's feed and nothing else, numbered from 1
abbrev pub packets_alone : Table → List Line → (player : ℕ) → List (ℕ × List ℕ)
packets_alone table lines player =
    unwrap_or
    (option_map (λ (heard : End × List Event). numbered 1 (out_of heard.0 heard.1))
    (heard_by table lines AtServer player))
    []

-- the player's `sent` lines are those packets
abbrev pub SendsOut : Type 0
SendsOut =
    (table : Table) (player : ℕ) (lines : List Line) → IsTrue (joins_once player lines)
    → sent_lines table lines player ≡ packets_alone table lines player

-- with an unseen line and without it the player's ends hear the same
abbrev pub FeedsStayEqual : Type 0
FeedsStayEqual =
    (table : Table) (player : ℕ) (before after : List Line) (line : Line)
    → IsTrue (is_unseen table player before line after)
    → HearsSame table player (before ++ after) (before ++ line ∷ after)

-- the line asks for copies, or whether an actor is settled
abbrev pub asks : Line → Bool
asks (Dump player) = true
asks (AskSettled player actor) = true
asks line = false

-- and so they do with a line that asks, of whichever player
abbrev pub AskingChangesNothing : Type 0
AskingChangesNothing =
    (table : Table) (player : ℕ) (before after : List Line) (line : Line) → IsTrue (asks line)
    → HearsSame table player (before ++ after) (before ++ line ∷ after)

-- with an unseen line and without it the player gets the same `sent` lines
abbrev pub SendsStayEqual : Type 0
SendsStayEqual =
    (table : Table) (player : ℕ) (before after : List Line) (line : Line)
    → IsTrue (is_unseen table player before line after)
    → IsTrue (joins_once player (before ++ after))
    → sent_lines table (before ++ after) player ≡ sent_lines table (before ++ line ∷ after) player

-- ---- answers and verdicts

-- what the player's end at this side would answer to a call
abbrev pub call_answer : Table → List Line → Side → (player actor number : ℕ) → List Arg
    → Option CallAnswer
call_answer table lines side player a n args =
    option_map (λ (p : Player). answer_of side (past_at table side p) a n args)
    (find (λ (p : Player). p.number == player) (story_of table lines).0.players)

-- the verdict that the player's end at this side would have on a datagram
abbrev pub datagram_verdict : Table → List Line → Side → (player : ℕ) → List ℕ → Option Verdict
datagram_verdict table lines side player bytes =
    option_map (λ (p : Player). verdict_of (end_of table side p) (past_at table side p) bytes)
    (find (λ (p : Player). p.number == player) (story_of table lines).0.players)

-- what an end hears decides what it answers to each call
abbrev pub AnswersByFeed : Type 0
AnswersByFeed =
    (table : Table) (player : ℕ) (one other : List Line) (side : Side)
    → heard_by table one side player ≡ heard_by table other side player
    → (actor number : ℕ) (args : List Arg)
    → call_answer table one side player actor number args
    ≡ call_answer table other side player actor number args

-- what an end hears decides its verdict on each datagram
abbrev pub VerdictsByFeed : Type 0
VerdictsByFeed =
    (table : Table) (player : ℕ) (one other : List Line) (side : Side)
    → heard_by table one side player ≡ heard_by table other side player
    → (bytes : List ℕ)
    → datagram_verdict table one side player bytes ≡ datagram_verdict table other side player bytes

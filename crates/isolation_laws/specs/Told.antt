-- What a transcript tells of one player's connection, and what is told where lines are left out
-- that the player doesn't see.
use Rattle.std.specs.Prelude.{◌≡◌, ℕ, ◌==◌, List, ◌∷◌, ◌++◌, Bool, false, not, Option, Some, None, IsTrue, filter, filter_map, option_map, unwrap_or}
use Rattle.std.specs.Bool.{then_some}
use Rattle.protocol_model.specs.Side.{AtServer}
use Rattle.protocol_model.specs.Value.{Table}
use Rattle.protocol_model.specs.declared.CallVerdict.TheVariants.{Run}
use Rattle.script_model.specs.Lines.{Line}
use Rattle.script_model.specs.Reports.{Report, Joined, Actor, Sent, Stalled, Handed, Answered, Forged, Called, Copies, Copy, Settled}
use Rattle.replication_model.specs.Story.{story_of}
use Rattle.isolation_laws.specs.Unseen.{is_of_other, is_unseen}
use Rattle.isolation_laws.specs.Isolation.{HearsSame, sent_lines, packets_alone, joins_once}

-- ---- reports

-- the player of whose connection a report tells: a spawned actor is the world's
abbrev pub player_of : Report → Option ℕ
player_of (Joined player) = Some player
player_of (Sent by player number bytes) = Some player
player_of (Stalled side player) = Some player
player_of (Handed to player actor name verdict args) = Some player
player_of (Answered to player number answer) = Some player
player_of (Forged to player verdict) = Some player
player_of (Called from player answer) = Some player
player_of (Copies player count) = Some player
player_of (Copy player actor class channel values) = Some player
player_of (Settled player actor holds) = Some player
player_of (Actor actor) = None

-- the report tells of this player's connection
abbrev pub is_about : (player : ℕ) → Report → Bool
is_about player report = unwrap_or (option_map (λ p. p == player) (player_of report)) false

-- a call handed over at the server without its verdict, which the actor's owner decides
abbrev pub unjudged : Report → Report
unjudged (Handed AtServer player actor name verdict args) =
    Handed AtServer player actor name Run args
unjudged report = report

-- what the report tells of this player's connection
abbrev pub told_of : (player : ℕ) → Report → Option Report
told_of player report = then_some (is_about player report) (unjudged report)

-- all that the lines tell of the player's connection: packets and stalls of both ends, calls made
-- and how they are answered, calls handed over, verdicts on datagrams, copies, and what is settled
abbrev pub connection_reports : Table → List Line → (player : ℕ) → List Report
connection_reports table lines player = filter_map (told_of player) (story_of table lines).1

-- ---- lines left out

-- the second lines are the first without some that the player doesn't see, each unseen where it
-- stands
pub data LeavesOut (table : Table) (player : ℕ) (lines : List Line) : List Line → Type 0 where
  none : LeavesOut table player lines lines
  one_more : (before : List Line) (line : Line) (after : List Line)
      → LeavesOut table player lines (before ++ line ∷ after)
      → IsTrue (is_unseen table player before line after)
      → LeavesOut table player lines (before ++ after)

-- the lines without those about other players' connections
abbrev pub lines_alone : (player : ℕ) → List Line → List Line
lines_alone player lines = filter (λ line. not (is_of_other player line)) lines

-- ---- laws

-- the lines without those about others leave out unseen ones alone
abbrev pub OthersAreLeftOut : Type 0
OthersAreLeftOut =
    (table : Table) (player : ℕ) (lines : List Line)
    → LeavesOut table player lines (lines_alone player lines)

-- where unseen lines are left out, the player's ends hear the same
abbrev pub HearsSameWithout : Type 0
HearsSameWithout =
    (table : Table) (player : ℕ) (lines fewer : List Line) → LeavesOut table player lines fewer
    → HearsSame table player lines fewer

-- and the same is told of the player's connection
abbrev pub TellsSameWithout : Type 0
TellsSameWithout =
    (table : Table) (player : ℕ) (lines fewer : List Line) → IsTrue (joins_once player lines)
    → LeavesOut table player lines fewer
    → connection_reports table lines player ≡ connection_reports table fewer player

-- the player is served as if it were alone: its packets are those of a server that hears its feed
-- alone, and where unseen lines are left out the same is told of its connection
pub record IsServedAlone (table : Table) (lines : List Line) (player : ℕ) : Type 0 where
  pub packets : sent_lines table lines player ≡ packets_alone table lines player
  pub alone : connection_reports table lines player
      ≡ connection_reports table (lines_alone player lines) player
  pub unseen : (fewer : List Line) → LeavesOut table player lines fewer
      → connection_reports table lines player ≡ connection_reports table fewer player

-- so is each player of a script that is read
abbrev pub ServesEachAlone : Table → List Line → Type 0
ServesEachAlone table lines = (player : ℕ) → IsServedAlone table lines player

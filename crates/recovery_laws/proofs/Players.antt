-- The two ends of a player of whom no datagram was forged.
use Rattle.std.proofs.Common.{sym, ap, subst, ◌≡◌, ℕ, List, refl, true, Some}
use Rattle.protocol_model.specs.Value.{Table}
use Rattle.protocol_model.specs.World.{class_of, value_of}
use Rattle.connection_model.specs.Copies.{copy_channel, copy_value}
use Rattle.connection_model.specs.State.{state_of, is_asleep}
use Rattle.protocol_model.specs.Side.{AtServer, AtClient}
use Rattle.script_model.specs.Lines.{Line}
use Rattle.table_model.specs.Facts.{IsTable}
use Rattle.table_model.specs.Rules.{Entry, segments_of}
use Rattle.table_model.specs.Grammar.{table_of}
use Rattle.replication_model.specs.Headline.{HasJoined, IsHonest, CopiesSettled, Holds}
use Rattle.replication_model.specs.Story.{Player, story_of, end_of, past_at}
use Rattle.connection_laws.specs.Honest.{IsTalking}
use Rattle.connection_laws.proofs.StoriesTalk.{talks_honestly}
use Rattle.payload_laws.specs.Accepted.{AreAccepted}
use Rattle.headline_laws.proofs.CallPrefixes.{feeds_fit, players_agree, hands_over}
use Rattle.headline_laws.proofs.Stories.{all_read}
use Rattle.headline_laws.specs.Read.{AreRead}
use Rattle.headline_laws.proofs.ReadLines.{Stands, stands}
use Rattle.connection_laws.proofs.Deeds.{deeds_fit}
use Rattle.connection_laws.proofs.Feeds.{feed_runs}
use Rattle.recovery_laws.specs.Asleep.{CopiesSleeping, SleepsAsSeen}
use Rattle.recovery_laws.proofs.PromisedSleep.{as_promised}
use Rattle.headline_laws.proofs.StorySights.{player_shown}
use Rattle.recovery_laws.specs.Faithful.{IsFaithfulTalk}
use Rattle.recovery_laws.proofs.AppliesAll.{applies_talk}
use Rattle.recovery_laws.specs.Initial.{IsInitial, LastOpen}
use Rattle.recovery_laws.proofs.SettledCopies.{settled_copied}
use Rattle.recovery_laws.proofs.SleepingCopies.{sleeps_as_seen}
use Rattle.recovery_laws.proofs.OpenedLast.{last_open, initial_value}

-- they talk, and the client is faithful
pub talks_faithfully : (entries : List Entry) (lines : List Line) (p : Player) → IsTable entries → AreAccepted (table_of entries) (story_of (table_of entries) lines).0.edits → HasJoined (story_of (table_of entries) lines).0 p → IsHonest lines p.number
    → IsFaithfulTalk (end_of (table_of entries) AtServer p) (end_of (table_of entries) AtClient p) p.server_feed p.client_feed p.number (story_of (table_of entries) lines).0.edits (segments_of entries)
talks_faithfully entries lines p is ok joined honest =
    let talk : IsTalking (table_of entries) p = talks_honestly (table_of entries) lines p joined honest (all_read entries lines p.number is ok) in
    let shown = player_shown (table_of entries) lines p joined in
    let fits = feeds_fit entries lines p is ok joined in
    let agree = players_agree entries lines p is ok joined honest in
    let applies = applies_talk entries is p.number (story_of (table_of entries) lines).0.edits ok p.version (end_of (table_of entries) AtServer p) (end_of (table_of entries) AtClient p) refl refl refl refl refl refl p.server_feed p.client_feed talk
    (record { sees = shown.sees; blind = shown.blind; left_fit = fits.0; right_fit = fits.1 }) in
    record {
      side = refl;
      version = refl;
      talk = talk;
      seeing = agree.sees;
      faithful = record { unbroken = applies.unbroken; follows = agree.follower.follows; loose = applies.loose };
    }

-- each settled actor's copy is as the player sees the actor
pub copies_settled : (entries : List Entry) (lines : List Line) (p : Player) → IsTable entries → AreAccepted (table_of entries) (story_of (table_of entries) lines).0.edits → HasJoined (story_of (table_of entries) lines).0 p → IsHonest lines p.number
    → CopiesSettled (table_of entries) (story_of (table_of entries) lines).0 p
copies_settled entries lines p is ok joined honest = settled_copied (table_of entries) (story_of (table_of entries) lines).0 p (segments_of entries) (talks_faithfully entries lines p is ok joined honest)

-- the headline's second and third part
pub holds : (entries : List Entry) (lines : List Line) → IsTable entries → AreAccepted (table_of entries) (story_of (table_of entries) lines).0.edits → Holds (table_of entries) lines
holds entries lines is ok p joined honest = (hands_over entries lines p is ok joined honest, copies_settled entries lines p is ok joined honest)

-- ---- initial-only values, and copies that sleep

module _ (entries : List Entry) (lines : List Line) (p : Player) (is : IsTable entries) (ok : AreAccepted (table_of entries) (story_of (table_of entries) lines).0.edits) (joined : HasJoined (story_of (table_of entries) lines).0 p) (honest : IsHonest lines p.number) where
  pub initials_open : (a ch : ℕ) → copy_channel (past_at (table_of entries) AtClient p) a ≡ Some ch
      → LastOpen (table_of entries) p.number (story_of (table_of entries) lines).0.edits (past_at (table_of entries) AtServer p) (past_at (table_of entries) AtClient p) a ch
  initials_open a ch at =
      last_open entries is (end_of (table_of entries) AtServer p) (end_of (table_of entries) AtClient p) p.server_feed p.client_feed p.number (story_of (table_of entries) lines).0.edits (segments_of entries) ok refl
      (talks_faithfully entries lines p is ok joined honest) a ch at

  pub initials_value : (a ch : ℕ) (o : LastOpen (table_of entries) p.number (story_of (table_of entries) lines).0.edits (past_at (table_of entries) AtServer p) (past_at (table_of entries) AtClient p) a ch) (h : ℕ)
      → IsInitial (class_of (table_of entries) (story_of (table_of entries) lines).0.edits a) h → copy_value (past_at (table_of entries) AtClient p) a h ≡ value_of (table_of entries) o.world a h
  initials_value a ch o h i =
      initial_value entries is (end_of (table_of entries) AtServer p) (end_of (table_of entries) AtClient p) p.server_feed p.client_feed p.number (story_of (table_of entries) lines).0.edits (segments_of entries) ok refl
      (talks_faithfully entries lines p is ok joined honest) a ch o h i

  pub sleepers : (a : ℕ) → is_asleep (state_of (past_at (table_of entries) AtServer p) a) ≡ true → SleepsAsSeen (past_at (table_of entries) AtServer p) (past_at (table_of entries) AtClient p) a
  sleepers a asleep =
      sleeps_as_seen entries is (end_of (table_of entries) AtServer p) (end_of (table_of entries) AtClient p) p.server_feed p.client_feed p.number (story_of (table_of entries) lines).0.edits (segments_of entries) ok refl
      (talks_faithfully entries lines p is ok joined honest) a asleep

-- ---- scripts

-- over the lines of accepted scripts
pub read_holds : (table : Table) (lines : List Line) → AreRead table lines → Holds table lines
read_holds table lines r = (let s : Stands table lines = stands table lines r in subst (λ (x : Table). Holds x lines) (sym s.same) (holds s.entries lines s.is s.ok))

-- over accepted scripts sleeping actors are copied asleep
pub read_sleep : (table : Table) (lines : List Line) → AreRead table lines → (p : Player) → HasJoined (story_of table lines).0 p → IsHonest lines p.number → CopiesSleeping table p
read_sleep table lines r p joined honest =
    let s : Stands table lines = stands table lines r in
    subst (λ (x : Table). HasJoined (story_of x lines).0 p → CopiesSleeping x p) (sym s.same)
    (λ j a asleep. as_promised (end_of (table_of s.entries) AtServer p) (past_at (table_of s.entries) AtServer p) (past_at (table_of s.entries) AtClient p) a
    (deeds_fit (end_of (table_of s.entries) AtServer p) (past_at (table_of s.entries) AtServer p) (feed_runs (end_of (table_of s.entries) AtServer p) p.server_feed))
    (sleepers s.entries lines p s.is s.ok j honest a (ap is_asleep asleep))) joined

-- What is handed over on an index begins what was queued there, for each player of whom nothing was forged.
use Rattle.std.proofs.Common.{List, [], ◌++◌, map, refl, sym, ap, ◌∙◌, subst}
use Rattle.std.proofs.lemmas.List.{map-append}
use Rattle.protocol_model.specs.Side.{AtServer, AtClient}
use Rattle.protocol_model.specs.Payload.{Message}
use Rattle.script_model.specs.Lines.{Line}
use Rattle.table_model.specs.Facts.{IsTable}
use Rattle.table_model.specs.Rules.{Entry}
use Rattle.table_model.specs.Grammar.{table_of}
use Rattle.connection_model.specs.Feed.{Past}
use Rattle.replication_model.specs.Headline.{HasJoined, IsHonest, HandsOverPrefixes}
use Rattle.replication_model.specs.Story.{Player, story_of, first_story, end_of, past_at}
use Rattle.connection_laws.specs.Delivered.{Numbered}
use Rattle.connection_laws.proofs.PacketsSay.{IsIn, in_middle, all_at}
use Rattle.connection_laws.proofs.StoriesTalk.{talks_honestly}
use Rattle.payload_laws.specs.Accepted.{AreAccepted}
use Rattle.headline_laws.specs.Follows.{HandsOnAll}
use Rattle.headline_laws.specs.Turns.{HandsSame}
use Rattle.headline_laws.proofs.EndsAgree.{Agreement, agree_talk}
use Rattle.headline_laws.proofs.SameCalls.{calls_begin}
use Rattle.headline_laws.proofs.Stories.{FeedsFit, lines_keep, all_read}
use Rattle.headline_laws.proofs.StorySights.{player_shown}

-- what was handed on begins what was made
pub hands_same : (from to : Past) → HandsOnAll from to → HandsSame from to
hands_same from to hands ch = (
  map (λ (x : Numbered). x.1) (hands ch).later,
  ap (map (λ (x : Numbered). x.1)) (hands ch).split ∙ map-append (λ (x : Numbered). x.1) (hands ch).done (hands ch).later
      ∙ ap (λ (ms : List Message). ms ++ map (λ (x : Numbered). x.1) (hands ch).later) (sym (hands ch).same),
)

-- the feeds of a player's ends show sights that fit
pub feeds_fit : (entries : List Entry) (lines : List Line) (p : Player) → IsTable entries → AreAccepted (table_of entries) (story_of (table_of entries) lines).0.edits → HasJoined (story_of (table_of entries) lines).0 p → FeedsFit p
feeds_fit entries lines p is ok joined =
    all_at FeedsFit p (story_of (table_of entries) lines).0.players (lines_keep entries is lines (first_story, []) ok tt) (subst (IsIn p) (sym joined.2) (in_middle p joined.0 joined.1))

-- the ends of the player agree
pub players_agree : (entries : List Entry) (lines : List Line) (p : Player) → IsTable entries → AreAccepted (table_of entries) (story_of (table_of entries) lines).0.edits → HasJoined (story_of (table_of entries) lines).0 p → IsHonest lines p.number
    → Agreement entries p.number (story_of (table_of entries) lines).0.edits (end_of (table_of entries) AtServer p) (end_of (table_of entries) AtClient p) (past_at (table_of entries) AtServer p) (past_at (table_of entries) AtClient p)
players_agree entries lines p is ok joined honest =
    let shown = player_shown (table_of entries) lines p joined in
    let fit : FeedsFit p = feeds_fit entries lines p is ok joined in
    agree_talk entries is p.number (story_of (table_of entries) lines).0.edits ok p.version (end_of (table_of entries) AtServer p) (end_of (table_of entries) AtClient p) refl refl refl refl refl refl p.server_feed p.client_feed
    (talks_honestly (table_of entries) lines p joined honest (all_read entries lines p.number is ok)) (record { sees = shown.sees; blind = shown.blind; left_fit = fit.0; right_fit = fit.1 })

-- calls are handed over as prefixes
pub hands_over : (entries : List Entry) (lines : List Line) (p : Player) → IsTable entries → AreAccepted (table_of entries) (story_of (table_of entries) lines).0.edits → HasJoined (story_of (table_of entries) lines).0 p → IsHonest lines p.number
    → HandsOverPrefixes (table_of entries) p
hands_over entries lines p is ok joined honest = by
  where
    agree : Agreement entries p.number (story_of (table_of entries) lines).0.edits (end_of (table_of entries) AtServer p) (end_of (table_of entries) AtClient p) (past_at (table_of entries) AtServer p) (past_at (table_of entries) AtClient p)
    agree = players_agree entries lines p is ok joined honest

    by : HandsOverPrefixes (table_of entries) p
    by AtServer ch = calls_begin (past_at (table_of entries) AtClient p) (past_at (table_of entries) AtServer p) (hands_same (past_at (table_of entries) AtClient p) (past_at (table_of entries) AtServer p) agree.served.hands) ch
    by AtClient ch = calls_begin (past_at (table_of entries) AtServer p) (past_at (table_of entries) AtClient p) (hands_same (past_at (table_of entries) AtServer p) (past_at (table_of entries) AtClient p) agree.follower.follows.hands) ch

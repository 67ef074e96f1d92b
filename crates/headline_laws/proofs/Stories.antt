-- Every packet of a script's players is read back.
use Rattle.std.proofs.Common.{◌≡◌, ℕ, ◌+◌, ◌-◌, ◌≤◌, ◌==◌, List, [], ◌∷◌, map, filter, fold, length, Bool, true, false, cond, not, ◌&&◌, nat_lt, refl, sym, ap, ◌∙◌, subst, arith, Option, Some, None, slice_get, if◌then◌else◌}
use Rattle.std.specs.List.{AllByRecursion, range_with_len}
use Rattle.std.proofs.lemmas.Bool.{cond_both}
use Rattle.std.proofs.lemmas.List.Sums.{fold-append}
use Rattle.protocol_model.specs.Search.{is_among, insert_in_order}
use Rattle.protocol_model.specs.Side.{Side, AtServer, AtClient}
use Rattle.protocol_model.specs.Value.{Table, Class}
use Rattle.protocol_model.specs.World.{Edits, spawn_count, actors_of, lives}
use Rattle.protocol_model.specs.Sight.{Seen, seen_of, destroyed_of, entry_of, is_relevant, sight}
use Rattle.script_model.specs.Lines.{Line, Join, ApplyEdit, TickAll, TickClient, Deliver, DeliverNew, CallTo, CallAll, Dump, AskSettled, Forge}
use Rattle.script_model.specs.Reports.{Report, Answered, Absent, Late, Says}
use Rattle.connection_model.specs.Feed.{Event, Got, Call}
use Rattle.connection_model.specs.Fates.{top_of}
use Rattle.replication_model.specs.Headline.{HasJoined}
use Rattle.replication_model.specs.Story.{Player, Story, first_story, end_of, past_at, out_at, with_event, other_side, Reported, earlier_of, after_tick_of, after_datagram, after_forgery, after_delivery, also_delivery, told_before, with_told, is_kept, after_new_deliveries, after_call_of, settled_answer, copies_reports, new_player, after_line, also_line, story_of}
use Rattle.connection_laws.specs.Honest.{IsReadable, AllRead}
use Rattle.connection_laws.proofs.PacketsSay.{IsIn, in_middle, all_at}
use Rattle.table_model.specs.Facts.{IsTable}
use Rattle.table_model.specs.Rules.{Entry}
use Rattle.table_model.specs.Grammar.{table_of}
use Rattle.payload_laws.specs.Accepted.{AreAccepted}
use Rattle.payload_laws.specs.Limits.{AreSegments}
use Rattle.payload_laws.proofs.TableFacts.{path_segments, few_in}
use Rattle.payload_laws.proofs.WorldValues.{same_some}
use Rattle.payload_laws.proofs.SightSpelling.{spawns_few, sight_spells, from, numbered}
use Rattle.headline_laws.specs.Fits.{SeenFits, EventFits, PastFits}
use Rattle.headline_laws.proofs.PacketsSpelled.{packets_read, end_fits}
use Rattle.connection_laws.proofs.ActorsShown.{all_of_gets}

-- ---- sights

-- a sight's entry is of the actor asked for
actor_is : (table : Table) (edits : Edits) (player a : ℕ) (seen : Seen) (r d : Bool) → cond r (Some (seen_of table edits player a)) (cond d (Some (destroyed_of table edits a)) None) ≡ Some seen → seen.actor ≡ a
actor_is table edits player a seen true d h = ap (λ (s : Seen). s.actor) (sym (same_some (seen_of table edits player a) seen h))
actor_is table edits player a seen false true h = ap (λ (s : Seen). s.actor) (sym (same_some (destroyed_of table edits a) seen h))
actor_is table edits player a seen false false h = absurd (cc)

-- the sights of a world fit
seen_fits : (entries : List Entry) (edits : Edits) (player : ℕ) (earlier : List ℕ) → IsTable entries → AreAccepted (table_of entries) edits → AllByRecursion SeenFits (sight (table_of entries) edits player earlier)
seen_fits entries edits player earlier is ok = all_of_gets SeenFits (sight (table_of entries) edits player earlier) one
  where
    one : (n : ℕ) (seen : Seen) → slice_get (sight (table_of entries) edits player earlier) n ≡ Some seen → SeenFits seen
    one n seen h =
        let r = from (entry_of (table_of entries) edits player earlier) (actors_of edits) n seen h in
        let k = numbered r.item 1 (spawn_count edits) r.place r.there in
        let most = k.most in
        let few = spawns_few (table_of entries) edits ok in
        let actor : seen.actor ≡ r.item = actor_is (table_of entries) edits player r.item seen (is_relevant (table_of entries) edits player r.item) (not (lives edits r.item) && is_among r.item earlier) r.gives in
        let c = sight_spells entries edits player earlier n seen is ok h in
        let st = c.stands in
        record {
          spawned = (k.number, actor ∙ k.is, k.least, omega (arith, most, few));
          limits = c.limits;
          path = subst (λ (class : Class). AreSegments class.path) st.4 (path_segments entries st.0 st.1 st.2 is st.3);
          short = subst (λ (class : Class). length class.path ≤ 8) st.4 (few_in entries st.0 st.1 st.2 is st.3);
          all_fit = c.all_fit;
        }

-- ---- one player

-- the sights of a player's feeds fit
abbrev pub FeedsFit : Player → Type 0
FeedsFit p = AllByRecursion EventFits p.server_feed × AllByRecursion EventFits p.client_feed

-- it stays so
abbrev pub Keeps : (Player → Reported) → Type 0
Keeps does = (p : Player) → FeedsFit p → FeedsFit (does p).0

-- an event that fits leaves it so
event_keeps : (side : Side) (event : Event) (p : Player) → EventFits event → FeedsFit p → FeedsFit (with_event side event p)
event_keeps AtServer event p e h = ((e, h.0), h.1)
event_keeps AtClient event p e h = (h.0, (e, h.1))

-- a report leaves it so
pub told_keeps : (side : Side) (count : ℕ) (p : Player) → FeedsFit p → FeedsFit (with_told side count p)
told_keeps AtServer count p h = h
told_keeps AtClient count p h = h

-- so does a datagram, if there is one
delivery_by : (table : Table) (edits : Edits) (side : Side) (k : ℕ) (p : Player) → FeedsFit p → (o : Option (List ℕ)) → FeedsFit (let told : Reported = elim o [
  | None ↦ (p, Answered side p.number k Absent ∷ [])
  | Some bytes ↦ (if nat_lt (k + 8192) (top_of (past_at table side p)) then (p, Answered side p.number k Late ∷ [])
      else after_datagram table edits side (λ verdict. Answered side p.number k (Says verdict)) bytes p)
] in told.0)
delivery_by table edits side k p h None = h
delivery_by table edits side k p h (Some bytes) =
    cond_both (nat_lt (k + 8192) (top_of (past_at table side p))) (p, Answered side p.number k Late ∷ [])
    (after_datagram table edits side (λ verdict. Answered side p.number k (Says verdict)) bytes p) (λ (told : Reported). FeedsFit told.0) (λ q. h) (λ q. event_keeps side (Got bytes) p tt h)

-- a delivery leaves it so
pub delivery_keeps : (table : Table) (edits : Edits) (side : Side) (k : ℕ) → Keeps (after_delivery table edits side k)
delivery_keeps table edits side k p h = delivery_by table edits side k p h (slice_get (out_at table (other_side side) p) (k - 1))

-- so do deliveries
deliveries_keep : (table : Table) (edits : Edits) (side : Side) (ks : List ℕ) (told : Reported) → FeedsFit told.0 → FeedsFit (fold (also_delivery table edits side) told ks).0
deliveries_keep table edits side [] told h = h
deliveries_keep table edits side (k ∷ ks) told h = deliveries_keep table edits side ks (also_delivery table edits side told k) (delivery_keeps table edits side k told.0 h)

-- so do deliveries of new packets
new_keeps : (table : Table) (edits : Edits) (side : Side) (every : ℕ) → Keeps (after_new_deliveries table edits side every)
new_keeps table edits side every p h =
    deliveries_keep table edits side (filter (is_kept every) (range_with_len (told_before side p + 1) (length (out_at table (other_side side) p) - told_before side p)))
    (with_told side (length (out_at table (other_side side) p)) p, []) (told_keeps side (length (out_at table (other_side side) p)) p h)

-- so does a tick
tick_keeps : (entries : List Entry) (edits : Edits) (side : Side) → IsTable entries → AreAccepted (table_of entries) edits → Keeps (after_tick_of (table_of entries) edits side)
tick_keeps entries edits AtServer is ok p h = ((seen_fits entries edits p.number (earlier_of p) is ok, h.0), h.1)
tick_keeps entries edits AtClient is ok p h = (h.0, (tt, h.1))

-- ---- all players

-- so where each player does it
all_do : (does : Player → Reported) → Keeps does → (players : List Player) → AllByRecursion FeedsFit players → AllByRecursion FeedsFit (map (λ (p : Player). (does p).0) players)
all_do does k [] h = tt
all_do does k (p ∷ players) h = (k p h.0, all_do does k players h.1)

-- so where one player does
one_does : (does : Player → Reported) (who : ℕ) → Keeps does → (players : List Player) → AllByRecursion FeedsFit players → AllByRecursion FeedsFit (map (λ (p : Player). if p.number == who then (does p).0 else p) players)
one_does does who k [] h = tt
one_does does who k (p ∷ players) h = (cond_both (p.number == who) (does p).0 p FeedsFit (λ e. k p h.0) (λ e. h.0), one_does does who k players h.1)

-- so when a player joins
all_joined : (before : Player → Player → Bool) (new : Player) (players : List Player) → FeedsFit new → AllByRecursion FeedsFit players → AllByRecursion FeedsFit (insert_in_order before new players)
all_joined before new [] one h = (one, tt)
all_joined before new (p ∷ players) one h =
    cond_both (before p new) (p ∷ insert_in_order before new players) (new ∷ p ∷ players) (AllByRecursion FeedsFit) (λ e. (h.0, all_joined before new players one h.1)) (λ e. (one, h))

-- so does a line
line_keeps : (entries : List Entry) (story : Story) (line : Line) → IsTable entries → AreAccepted (table_of entries) story.edits → AllByRecursion FeedsFit story.players → AllByRecursion FeedsFit (after_line (table_of entries) story line).0.players
line_keeps entries story (Join player budget version) is ok h = all_joined (λ (one : Player) (two : Player). nat_lt one.number two.number) (new_player player budget version) story.players (tt, tt) h
line_keeps entries story (ApplyEdit edit) is ok h = h
line_keeps entries story TickAll is ok h = all_do (after_tick_of (table_of entries) story.edits AtServer) (tick_keeps entries story.edits AtServer is ok) story.players h
line_keeps entries story (TickClient player) is ok h = one_does (after_tick_of (table_of entries) story.edits AtClient) player (tick_keeps entries story.edits AtClient is ok) story.players h
line_keeps entries story (Deliver side player k) is ok h = one_does (after_delivery (table_of entries) story.edits side k) player (delivery_keeps (table_of entries) story.edits side k) story.players h
line_keeps entries story (DeliverNew side player every) is ok h = one_does (after_new_deliveries (table_of entries) story.edits side every) player (new_keeps (table_of entries) story.edits side every) story.players h
line_keeps entries story (CallTo side player a m args) is ok h = one_does (after_call_of (table_of entries) side a m args) player (λ p f. event_keeps side (Call a m args) p tt f) story.players h
line_keeps entries story (CallAll a m args) is ok h = all_do (after_call_of (table_of entries) AtServer a m args) (λ p f. event_keeps AtServer (Call a m args) p tt f) story.players h
line_keeps entries story (Dump player) is ok h = one_does (λ (p : Player). (p, copies_reports (table_of entries) p)) player (λ p f. f) story.players h
line_keeps entries story (AskSettled player a) is ok h = one_does (settled_answer (table_of entries) story.edits a) player (λ p f. f) story.players h
line_keeps entries story (Forge side player bytes) is ok h = one_does (after_forgery (table_of entries) story.edits side bytes) player (λ p f. event_keeps side (Got bytes) p tt f) story.players h

-- ---- all lines

-- edits that were accepted at the end were before each line
line_accepted : (table : Table) (story : Story) (line : Line) → AreAccepted table (after_line table story line).0.edits → AreAccepted table story.edits
line_accepted table story (Join player budget version) h = h
line_accepted table story (ApplyEdit edit) h = h.2
line_accepted table story TickAll h = h
line_accepted table story (TickClient player) h = h
line_accepted table story (Deliver side player k) h = h
line_accepted table story (DeliverNew side player every) h = h
line_accepted table story (CallTo side player a m args) h = h
line_accepted table story (CallAll a m args) h = h
line_accepted table story (Dump player) h = h
line_accepted table story (AskSettled player a) h = h
line_accepted table story (Forge side player bytes) h = h

-- edits were accepted before more lines came
pub lines_accepted : (table : Table) (lines : List Line) (told : Story × List Report) → AreAccepted table (fold (also_line table) told lines).0.edits → AreAccepted table told.0.edits
lines_accepted table [] told h = h
lines_accepted table (line ∷ lines) told h = line_accepted table told.0 line (lines_accepted table lines (also_line table told line) h)

-- all lines leave it so
pub lines_keep : (entries : List Entry) → IsTable entries → (lines : List Line) (told : Story × List Report) → AreAccepted (table_of entries) (fold (also_line (table_of entries)) told lines).0.edits
    → AllByRecursion FeedsFit told.0.players → AllByRecursion FeedsFit (fold (also_line (table_of entries)) told lines).0.players
lines_keep entries is [] told ok h = h
lines_keep entries is (line ∷ lines) told ok h =
    lines_keep entries is lines (also_line (table_of entries) told line) ok
    (line_keeps entries told.0 line is (lines_accepted (table_of entries) (line ∷ lines) told ok) h)

-- each end's past, after all lines
pub ends_fit : (entries : List Entry) (lines : List Line) (p : Player) (side : Side) → IsTable entries → AreAccepted (table_of entries) (story_of (table_of entries) lines).0.edits → HasJoined (story_of (table_of entries) lines).0 p
    → PastFits (end_of (table_of entries) side p) (past_at (table_of entries) side p)
ends_fit entries lines p side is ok joined = by side
  where
    feeds : FeedsFit p
    feeds = all_at FeedsFit p (story_of (table_of entries) lines).0.players (lines_keep entries is lines (first_story, []) ok tt) (subst (IsIn p) (sym joined.2) (in_middle p joined.0 joined.1))

    by : (side : Side) → PastFits (end_of (table_of entries) side p) (past_at (table_of entries) side p)
    by AtServer = end_fits (end_of (table_of entries) AtServer p) entries is refl p.server_feed feeds.0
    by AtClient = end_fits (end_of (table_of entries) AtClient p) entries is refl p.client_feed feeds.1

-- packets of a past that fits are read back
pub readable : (table : Table) (side : Side) (p : Player) → PastFits (end_of table side p) (past_at table side p) → IsReadable table side p
readable table AtServer p f k packet e = packets_read (end_of table AtServer p) (past_at table AtServer p) k packet f e
readable table AtClient p f k packet e = packets_read (end_of table AtClient p) (past_at table AtClient p) k packet f e

-- each packet of each player is read back, after each prefix of the lines
pub all_read : (entries : List Entry) (lines : List Line) (n : ℕ) → IsTable entries → AreAccepted (table_of entries) (story_of (table_of entries) lines).0.edits → AllRead (table_of entries) lines n
all_read entries lines n is ok some rest e p joined number side =
    readable (table_of entries) side p (ends_fit entries some p side is accepted joined)
  where
    accepted : AreAccepted (table_of entries) (story_of (table_of entries) some).0.edits
    accepted =
        let all : story_of (table_of entries) lines ≡ fold (also_line (table_of entries)) (story_of (table_of entries) some) rest =
        ap (story_of (table_of entries)) e ∙ fold-append (also_line (table_of entries)) (first_story, []) some rest in
        lines_accepted (table_of entries) rest (story_of (table_of entries) some) (subst (λ (told : Story × List Report). AreAccepted (table_of entries) told.0.edits) all ok)

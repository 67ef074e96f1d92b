-- What one player's line, an edit and a question make of the whole.
use Rattle.std.proofs.Common.{◌≡◌, ℕ, zero, suc, ◌+◌, ◌==◌, List, [], ◌∷◌, ◌++◌, map, Bool, true, false, Option, Some, None, option_map, refl, ap, sym, ◌∙◌, subst, arith, cond, append-nil, if◌then◌else◌}
use Rattle.std.specs.Prelude.{slice_get, slice_set, is_some}
use Rattle.std.specs.List.{flat_map, position, position_from}
use Rattle.std.proofs.lemmas.Iterator.Adapters.{position_from-zero}
use Rattle.std.proofs.lemmas.Option.{same_Some, none-some}
use Rattle.std.proofs.lemmas.Bool.Decides.{nat_tests}
use Rattle.protocol_model.specs.Side.{Side, AtServer, AtClient}
use Rattle.protocol_model.specs.World.{Edits}
use Rattle.script_model.specs.Lines.{Line, Join, ApplyEdit, TickAll, TickClient, Deliver, DeliverNew, CallTo, CallAll, Dump, AskSettled, Forge}
use Rattle.script_model.specs.Reports.{Report}
use Rattle.connection_model.specs.Feed.{Past}
use Rattle.replication_model.specs.Story.{Story, Player, Reported, with_player, after_line, edit_reports, past_at}
use Rattle.actor_copies.specs.declared.copy.ActorCopy.{ActorCopy}
use Rattle.actor_copies.specs.Copies.{Copy, copies_of, copy_value_of}
use Rattle.client_world.specs.Played.{Plays}
use Rattle.class_layout.specs.Tables.{Layout, table_in}
use Rattle.world_table.specs.Answers.{edit_of, spawned_guid}
use Rattle.world_table.specs.declared.edit.Edit.{Edit as EditValue}
use Rattle.net_driver.specs.Served.{Served}
use Rattle.net_driver.specs.Serves.{Drive, Serves}
use Rattle.script_lines.specs.declared.event.Event.{Event}
use Rattle.script_lines.specs.ReportOf.{report_of}
use Rattle.script_lines.specs.LineOf.{line_of}
use Rattle.script_lines.specs.declared.line.Line.{Line as LineValue}
use Rattle.script_lines.specs.declared.line.Line.TheVariants as said
use Rattle.replay_core.specs.May.{May, MayDo}
use Rattle.replay_places.specs.declared.place.Place.{Place}
use Rattle.replay_places.specs.Places.{IsPlace}
use Rattle.replay_places.specs.Doing.{Does}
use Rattle.replay_core.specs.Kept.{Kept}
use Rattle.replay_core.specs.Stands.{Stands, Serving, Ascend, ArePlaces, IsThere, player_in}
use Rattle.replay_core.specs.Lines.{IsAt, DoesAt, Serves as ServesOne, line_does, line_player, line_side, is_client_side, actor_reports}
use Rattle.replay_core.proofs.Players.{placed, seated, places_set, equal, ascend_set, one_goes_on, one_tells, found_at, at_found}
use Rattle.replay_core.proofs.Leaves.{line_number, client_seat}
use Rattle.replay_core.proofs.Heard.{seat_stays, stays_at}

-- ---- a place that is sought

at_from : (t : Place → Bool) (xs : List Place) (i j : ℕ) → position_from t i xs ≡ Some j
    → (x : Place) × (k : ℕ) × (j ≡ i + k) × (slice_get xs k ≡ Some x) × (t x ≡ true)
at_from t [] i j e = absurd (none-some j e)
at_from t (x ∷ xs) i j e = go (t x) refl (λ h. at_from t xs (i + 1) j h) e
  where
    go : (b : Bool) → t x ≡ b
        → (position_from t (i + 1) xs ≡ Some j → (y : Place) × (k : ℕ) × (j ≡ i + 1 + k) × (slice_get xs k ≡ Some y)
        × (t y ≡ true))
        → cond b (Some i) (position_from t (i + 1) xs) ≡ Some j
        → (y : Place) × (k : ℕ) × (j ≡ i + k) × (slice_get (x ∷ xs) k ≡ Some y) × (t y ≡ true)
    go true f later e = let h = same_Some i j e in (x, 0, omega arith, refl, f)
    go false f later e = let r = later e in let h = r.2 in (r.0, suc r.1, omega arith, r.3, r.4)

none_from : (t : Place → Bool) (xs : List Place) (i k : ℕ) (x : Place) → position_from t i xs ≡ None
    → slice_get xs k ≡ Some x → t x ≡ false
none_from t [] i k x e at = absurd (none-some x at)
none_from t (y ∷ xs) i k x e at = go (t y) refl k at e (λ m h g. none_from t xs (i + 1) m x h g)
  where
    go : (b : Bool) → t y ≡ b → (k : ℕ) → slice_get (y ∷ xs) k ≡ Some x
        → cond b (Some i) (position_from t (i + 1) xs) ≡ None
        → ((m : ℕ) → position_from t (i + 1) xs ≡ None → slice_get xs m ≡ Some x → t x ≡ false) → t x ≡ false
    go true f k at e later = absurd (none-some i (sym e))
    go false f zero at e later = rw (← same_Some y x at) f
    go false f (suc k) at e later = later k e at

-- the place of a player, where it was sought
pub is_at : (places : List Place) (n i : ℕ) → position (λ (k : Place). k.player == n) places ≡ Some i
    → (k : Place) × (slice_get places i ≡ Some k) × (k.player ≡ n)
is_at places n i e =
    let r = at_from (λ (k : Place). k.player == n) places 0 i
    (sym (position_from-zero (λ (k : Place). k.player == n) places) ∙ e) in
    let at = r.2 in
    let same : r.1 ≡ i = omega arith in
    (r.0, ap (slice_get places) (sym same) ∙ r.3, equal r.0.player n r.4)

-- whose place is sought is there
pub is_none : (layout : Layout) (n : ℕ) (places : List Place) (players : List Player) → ArePlaces layout places players
    → IsThere players n → position (λ (k : Place). k.player == n) places ≡ None → ⊥
is_none layout n places players a there e = found (player_in players n) refl there
  where
    yes : (m : ℕ) → m ≡ n → (m == n) ≡ true
    yes m h = grind (arith, nat_tests)

    found : (o : Option Player) → player_in players n ≡ o → is_some o ≡ true → ⊥
    found None f h = cc
    found (Some p) f h =
        let at = found_at players n p f in
        let place = seated layout places players at.0 p a at.1 in
        let no = none_from (λ (k : Place). k.player == n) places 0 at.0 place.0
        (sym (position_from-zero (λ (k : Place). k.player == n) places) ∙ e) place.1 in
        let is = yes place.0.player (place.2.number ∙ at.2) in
        cc

-- who is at a place is there
pub is_there : (layout : Layout) (n i : ℕ) (places : List Place) (k : Place) (players : List Player)
    → ArePlaces layout places players → Ascend 0 players
    → slice_get places i ≡ Some k → k.player ≡ n → (p : Player) × IsAt players i p × IsPlace layout k p × (n ≡ p.number)
is_there layout n i places k players a s at number =
    let who = placed layout places players i k a at in
    (who.0, record { ascend = s; there = who.1 }, who.2, sym number ∙ who.2.number)

-- ---- a player's line

-- the line's place in the story
pub line_after : (layout : Layout) (story : Story) (line : Line) (n : ℕ) → line_player line ≡ Some n
    → after_line (table_in layout) story line ≡ with_player (line_does (table_in layout) line story.edits) n story
line_after layout story (Join player budget version) n e = absurd (none-some n e)
line_after layout story (ApplyEdit edit) n e = absurd (none-some n e)
line_after layout story TickAll n e = absurd (none-some n e)
line_after layout story (CallAll a m args) n e = absurd (none-some n e)
line_after layout story (TickClient player) n e = ap (λ m. after_line (table_in layout) story (TickClient m))
    (same_Some player n e)
line_after layout story (Deliver side player k) n e = ap (λ m. after_line (table_in layout) story (Deliver side m k))
    (same_Some player n e)
line_after layout story (DeliverNew side player every) n e = ap
    (λ m. after_line (table_in layout) story (DeliverNew side m every)) (same_Some player n e)
line_after layout story (CallTo side player a m args) n e = ap
    (λ k. after_line (table_in layout) story (CallTo side k a m args)) (same_Some player n e)
line_after layout story (Dump player) n e = ap (λ m. after_line (table_in layout) story (Dump m)) (same_Some player n e)
line_after layout story (AskSettled player a) n e = ap (λ m. after_line (table_in layout) story (AskSettled m a))
    (same_Some player n e)
line_after layout story (Forge side player bytes) n e = ap (λ m. after_line (table_in layout) story
    (Forge side m bytes)) (same_Some player n e)

-- the player's line was done at its place: the whole stands for the story with it, and that was told
pub line_done : (r : Kept) (story : Story) (line : Line) (n i : ℕ) (k l : Place) (d : Drive) (before told : List Event)
    → line_player line ≡ Some n → Stands r story → slice_get r.places i ≡ Some k → k.player ≡ n → before ≡ []
    → DoesAt r.layout (line_does (table_in r.layout) line) r.driver d k l before told
    → Stands (record r { driver = d; places = slice_set r.places i l }) (after_line (table_in r.layout) story line).0
    × (map (report_of (table_in r.layout)) told ≡ (after_line (table_in r.layout) story line).1)
line_done r story line n i k l d before told whose s at number none does =
    let who = is_there r.layout n i r.places k story.players s.places s.ascend at number in
    let p = who.0 in
    let is = who.1 in
    let part = line_does (table_in r.layout) line story.edits in
    let done = does story.edits story.players i p s.serving is who.2 in
    let after : map (λ (q : Player). if q.number == n then (part q).0 else q) story.players
    ≡ slice_set story.players i (part p).0 =
    one_goes_on (λ q. (part q).0) n 0 story.players i p is.ascend is.there (sym who.3) in
    let tells : flat_map (λ (q : Player). if q.number == n then (part q).1 else []) story.players ≡ (part p).1 =
    one_tells (λ q. (part q).1) n 0 story.players i p is.ascend is.there (sym who.3) in
    let whole = line_after r.layout story line n whose in
    let same : (after_line (table_in r.layout) story line).0 ≡ record story
    { players = slice_set story.players i (part p).0 } =
    ap (λ (w : Story × List Report). w.0) whole ∙ ap (λ (ps : List Player). record story { players = ps }) after in (
      subst (λ (st : Story). Stands (record r { driver = d; places = slice_set r.places i l }) st) (sym same) (record {
        serving = done.served.serving;
        places = places_set r.layout r.places story.players i l (part p).0 s.places done.stands;
        ascend = ascend_set 0 story.players i p (part p).0 s.ascend is.there
            (line_number (table_in r.layout) line story.edits p);
        kept = s.kept;
      }),
      done.served.adds ∙ ap (λ (es : List Event). map (report_of (table_in r.layout)) es ++ (part p).1) none
          ∙ sym tells ∙ sym (ap (λ (w : Story × List Report). w.1) whole),
    )

-- ---- a line at one end

-- of the client
pub at_client : (layout : Layout) (d : Drive) (k l : Place) (before told : List Event) (line : Line)
    → is_client_side (line_side line) ≡ true
    → ((edits : Edits) → Does layout (line_does (table_in layout) line edits) k l before told)
    → DoesAt layout (line_does (table_in layout) line) d d k l before told
at_client layout d k l before told line client does edits players i p h at stands =
    let done = does edits p stands in
    let side = is_client (line_side line) client in
    record {
      served = record {
        serving = seat_stays layout d edits players i p (line_does (table_in layout) line edits p).0 h at.there
            (client_seat (table_in layout) line edits p side);
        adds = done.adds;
      };
      stands = done.stands;
    }
  where
    is_client : (side : Side) → is_client_side side ≡ true → side ≡ AtClient
    is_client AtServer e = absurd (cc)
    is_client AtClient e = refl

-- of the server
pub at_server : (layout : Layout) (old new : Drive) (k : Place) (n : ℕ) (before told : List Event)
    (does : Edits → Player → Reported)
    → ((edits : Edits) (p : Player) → IsPlace layout k p → IsPlace layout k (does edits p).0) → n ≡ k.player
    → ServesOne layout does n old new before told → DoesAt layout does old new k k before told
at_server layout old new k n before told does stays whose serves edits players i p h at stands = record {
  served = serves edits players i p h at (whose ∙ stands.number);
  stands = stays edits p stands;
}

-- ---- an edit

-- what it tells
pub edit_told : (edits : Edits) (e : EditValue) → actor_reports (spawned_guid edits e) ≡ edit_reports edits (edit_of e)
edit_told edits (EditValue.Spawn class x y) = refl
edit_told edits (EditValue.Destroy actor) = refl
edit_told edits (EditValue.Set actor prop value) = refl
edit_told edits (EditValue.Own actor player) = refl
edit_told edits (EditValue.View player x y) = refl
edit_told edits (EditValue.Add actor player on) = refl
edit_told edits (EditValue.Dormant actor) = refl
edit_told edits (EditValue.Wake actor) = refl
edit_told edits (EditValue.Flush actor) = refl
edit_told edits (EditValue.Switch actor prop on) = refl
edit_told edits (EditValue.Team player team) = refl
edit_told edits (EditValue.Give actor team) = refl

-- the whole stands for the story with it
pub edited : (r : Kept) (story : Story) (e : EditValue) (d : Drive) → Stands r story
    → ((s : Served) → Serves r.driver s → Serves d (record s { edits = edit_of e ∷ s.edits }))
    → d.layout ≡ r.driver.layout
    → Stands (record r { driver = d }) (record story { edits = edit_of e ∷ story.edits })
edited r story e d s serves classes = let old = s.serving.served in record {
  serving = record {
    served = record old { edits = edit_of e ∷ old.edits };
    same_edits = ap (λ (es : Edits). edit_of e ∷ es) s.serving.same_edits;
    same_seats = s.serving.same_seats;
    serves = serves old s.serving.serves;
    classes = classes ∙ s.serving.classes;
  };
  places = s.places;
  ascend = s.ascend;
  kept = s.kept;
}

-- the actor that it spawned was told
pub actor_told : (layout : Layout) (d : Drive) (edits : Edits) (players : List Player) (e : EditValue)
    (spawned : Option ℕ)
    → Serving layout d edits players → ((s : Served) → Serves d s → spawned ≡ spawned_guid s.edits e)
    → actor_reports spawned ≡ edit_reports edits (edit_of e)
actor_told layout d edits players e spawned h guid =
    ap actor_reports (guid h.served h.serves ∙ ap (λ (es : Edits). spawned_guid es e) h.same_edits) ∙ edit_told edits e

-- who is there in one story that the replay stands for is there in each
pub there_too : (r : Kept) (one other : Story) (n : ℕ) → Stands r one → Stands r other → IsThere one.players n
    → IsThere other.players n
there_too r one other n s t there = found (player_in one.players n) refl there
  where
    found : (o : Option Player) → player_in one.players n ≡ o → is_some o ≡ true → IsThere other.players n
    found None e h = cc
    found (Some p) e h =
        let at = found_at one.players n p e in
        let place = seated r.layout r.places one.players at.0 p s.places at.1 in
        let who = placed r.layout r.places other.players at.0 place.0 t.places place.1 in
        ap is_some (at_found 0 other.players at.0 who.0 n t.ascend who.1 (sym who.2.number ∙ place.2.number ∙ at.2))

-- who is there by one number is there by an equal one
there : (m n : ℕ) → Some m ≡ Some n → (story : Story) → IsThere story.players m → IsThere story.players n
there m n e story h = subst (IsThere story.players) (same_Some m n e) h

-- what a line of a player may ask
pub may_of : (layout : Layout) (story : Story) (line : LineValue) (n : ℕ) → line_player (line_of line) ≡ Some n
    → May layout story line
    → IsThere story.players n × MayDo layout story.edits line
may_of layout story (said.Join player budget version) n e h = absurd (none-some n e)
may_of layout story (said.Edit edit) n e h = absurd (none-some n e)
may_of layout story said.Tick n e h = absurd (none-some n e)
may_of layout story (said.Multi actor call args) n e h = absurd (none-some n e)
may_of layout story (said.ClientTick player) n e h = (there player n e story h, tt)
may_of layout story (said.Down player packet) n e h = (there player n e story h.0, h.1)
may_of layout story (said.Up player packet) n e h = (there player n e story h.0, h.1)
may_of layout story (said.DownNew player every) n e h = (there player n e story h, tt)
may_of layout story (said.UpNew player every) n e h = (there player n e story h, tt)
may_of layout story (said.Call player actor call args) n e h = (there player n e story h.0, h.1)
may_of layout story (said.ClientCall player actor call args) n e h = (there player n e story h, tt)
may_of layout story (said.Dump player) n e h = (there player n e story h, tt)
may_of layout story (said.Settled player actor) n e h = (there player n e story h, tt)
may_of layout story (said.Forge player bytes) n e h = (there player n e story h, tt)
may_of layout story (said.ClientForge player bytes) n e h = (there player n e story h, tt)

-- where a line does nothing
pub nothing_done : (layout : Layout) (d : Drive) (k : Place) (events : List Event) (does : Edits → Player → Reported)
    → ((edits : Edits) (p : Player) → does edits p ≡ (p, [])) → DoesAt layout does d d k k events events
nothing_done layout d k events does still edits players i p h is stands =
    stays_at layout d k edits players i p events events [] (does edits p) h is stands
    (sym (append-nil (map (report_of (table_in layout)) events))) (still edits p)

-- who isn't there in one story that the replay stands for isn't in any
pub new_too : (r : Kept) (one other : Story) (n : ℕ) → Stands r one → Stands r other
    → is_some (player_in one.players n) ≡ false
    → is_some (player_in other.players n) ≡ false
new_too r one other n s t new = by (is_some (player_in other.players n)) refl
  where
    by : (b : Bool) → is_some (player_in other.players n) ≡ b → is_some (player_in other.players n) ≡ false
    by false e = e
    by true e = let here = there_too r other one n t s e in absurd (cc)

-- the copies of a player's client
pub copies_there : (layout : Layout) (players : List Player) (places : List Place) (n i : ℕ) (k : Place)
    (copies : List ActorCopy) → ArePlaces layout places players
    → Ascend 0 players → slice_get places i ≡ Some k → k.player ≡ n
    → ((past : Past) → Plays k.client past → map (copy_value_of k.client.layout) copies ≡ copies_of past)
    → option_map (map (copy_value_of layout)) (Some copies)
    ≡ option_map (λ (p : Player). copies_of (past_at (table_in layout) AtClient p)) (player_in players n)
copies_there layout players places n i k copies a s at number are =
    let who = is_there layout n i places k players a s at number in
    let p = who.0 in
    let found = at_found 0 players i p n s who.1.there (sym who.3) in
    ap (λ (cs : List Copy). Some cs)
    (ap (λ (l : Layout). map (copy_value_of l) copies) (sym who.2.classes)
    ∙ are (past_at (table_in layout) AtClient p) who.2.plays)
    ∙ ap (option_map (λ (p : Player). copies_of (past_at (table_in layout) AtClient p))) (sym found)

-- nobody's
pub copies_nowhere : (layout : Layout) (players : List Player) (places : List Place) (n : ℕ)
    → ArePlaces layout places players
    → position (λ (k : Place). k.player == n) places ≡ None
    → None ≡ option_map (λ (p : Player). copies_of (past_at (table_in layout) AtClient p)) (player_in players n)
copies_nowhere layout players places n a none = by (player_in players n) refl
  where
    by : (o : Option Player) → player_in players n ≡ o → None
        ≡ option_map (λ (p : Player). copies_of (past_at (table_in layout) AtClient p)) o
    by None e = refl
    by (Some p) e = absurd (is_none layout n places players a (ap is_some e) none)

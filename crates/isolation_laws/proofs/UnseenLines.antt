-- A line that a player doesn't see changes none of its feeds.
use Rattle.std.proofs.Common.{map, ◌≡◌, inl, inr, ℕ, ◌==◌, List, [], ◌∷◌, ◌++◌, Bool, true, false, not, cond, ◌&&◌, refl, sym, ap, ◌∙◌, subst, Option, Some, None, filter_map, option_map, append_assoc, append-nil, ℤ}
use Rattle.std.specs.List.{flat_map, cons_option}
use Rattle.std.proofs.lemmas.Bool.{cases_Bool, or_cases, or_from, and_parts, eqb-true, not-true}
use Rattle.std.proofs.lemmas.List.Folds.{list_any-append}
use Rattle.protocol_model.specs.Search.{is_among}
use Rattle.protocol_model.specs.Sight.{Seen, is_relevant, seen_of, destroyed_of, entry_of}
use Rattle.protocol_model.specs.Value.{Table}
use Rattle.protocol_model.specs.World.{Edit, Edits, Spawn, Destroy, Set, Own, View, Add, Dormant, Wake, Flush, Switch, Team, Give, actors_of, lives, owns, is_on, is_custom, named_actor}
use Rattle.script_model.specs.Lines.{Line, Join, ApplyEdit, TickAll, TickClient, Deliver, DeliverNew, CallTo, CallAll, Dump, AskSettled, Forge}
use Rattle.script_model.specs.Reports.{Report}
use Rattle.connection_model.specs.Feed.{Event, Tick, Got, Call}
use Rattle.replication_model.specs.Story.{Player, Story, end_of, feed_of, relevant_in, earlier_of, after_line, story_of}
use Rattle.payload_laws.proofs.WorldValues.{same_some}
use Rattle.headline_laws.specs.Sights.{Seeing}
use Rattle.headline_laws.proofs.Sights.{shown_by}
use Rattle.headline_laws.proofs.StorySights.{player_shown}
use Rattle.isolation_laws.specs.Unseen.{edit_in, edits_of, holds_along, holds_from, holds_always, is_irrelevant, is_owner_only, has_cond, hides_value, is_out_of_sight, is_of_other, is_unseen}
use Rattle.isolation_laws.specs.Isolation.{asks, AskingChangesNothing, FeedsStayEqual}
use Rattle.isolation_laws.proofs.OnePlayer.{mine, mine_one, mine_other, found_number, other_line}
use Rattle.isolation_laws.proofs.UnshownEdits.{edit_unseen, destroy_unseen, value_unseen, owners_hidden, custom_hidden}
use Rattle.isolation_laws.proofs.AlongLines.{with_edit, one_more, story_edits, story_more, Along, along, first_along, found_in, Course, follow, same_course, Blinds, edit_course}

-- ---- worlds in which an actor is never relevant

-- the test holds of the world after each edit
abbrev AllWorlds : (Edits → Bool) → Edits → Type 0
AllWorlds test [] = test [] ≡ true
AllWorlds test (edit ∷ edits) = (test (edit ∷ edits) ≡ true) × AllWorlds test edits

-- so it holds of each older world
all_older : (test : Edits → Bool) (more older : Edits) → AllWorlds test (more ++ older) → AllWorlds test older
all_older test [] older h = h
all_older test (edit ∷ more) older h = all_older test more older h.1

-- and of the newest
now_holds : (test : Edits → Bool) (edits : Edits) → AllWorlds test edits → test edits ≡ true
now_holds test [] h = h
now_holds test (edit ∷ edits) h = h.0

-- and with one more line
world_more : (test : Edits → Bool) (one : List Line) (line : Line) → test (edits_of (one ++ line ∷ [])) ≡ true → AllWorlds test (edits_of one) → AllWorlds test (edits_of (one ++ line ∷ []))
world_more test one line h w = subst (AllWorlds test) (sym (one_more one line)) (by (edit_in line) (ap test (sym (one_more one line)) ∙ h))
  where
    by : (o : Option Edit) → test (with_edit o (edits_of one)) ≡ true → AllWorlds test (with_edit o (edits_of one))
    by None e = w
    by (Some edit) e = (e, w)

-- and along lines
worlds_along : (test : Edits → Bool) (one lines : List Line) → Along test one lines → AllWorlds test (edits_of one) → AllWorlds test (edits_of (one ++ lines))
worlds_along test one [] h w = subst (λ (l : List Line). AllWorlds test (edits_of l)) (sym (append-nil one)) w
worlds_along test one (line ∷ lines) h w =
    subst (λ (l : List Line). AllWorlds test (edits_of l)) (append_assoc one (line ∷ []) lines)
    (worlds_along test (one ++ line ∷ []) lines h.1 (world_more test one line (first_along test (one ++ line ∷ []) lines h.1) w))

-- ---- no sight had it as relevant

-- an actor that isn't relevant isn't in the sight
lacks : (table : Table) (edits : Edits) (n a : ℕ) (earlier : List ℕ) → is_relevant table edits n a ≡ false → (actors : List ℕ) → is_among a (relevant_in (Tick (filter_map (entry_of table edits n earlier) actors))) ≡ false
lacks table edits n a earlier r [] = refl
lacks table edits n a earlier r (b ∷ actors) = by (is_relevant table edits n b) (not (lives edits b) && is_among b earlier) refl (filter_map (entry_of table edits n earlier) actors) (lacks table edits n a earlier r actors)
  where
    by : (q d : Bool) → is_relevant table edits n b ≡ q → (rest : List Seen) → is_among a (relevant_in (Tick rest)) ≡ false
        → is_among a (relevant_in (Tick (cons_option (cond q (Some (seen_of table edits n b)) (cond d (Some (destroyed_of table edits b)) None)) rest))) ≡ false
    by true d q rest later = or_from (b == a) (is_among a (relevant_in (Tick rest))) other later
      where
        other : (b == a) ≡ false
        other = elim (cases_Bool (b == a)) [
          | inl e ↦ (let k : is_relevant table edits n b ≡ false = ap (is_relevant table edits n) (eqb-true b a e) ∙ r in let clash : true ≡ false = sym q ∙ k in absurd (cc))
          | inr e ↦ e
        ]
    by false true q rest later = later
    by false false q rest later = later

-- so it is in no sight of the feed
never_among : (table : Table) (n a : ℕ) (feed : List Event) (edits : Edits) → AllWorlds (is_irrelevant table n a) edits → Seeing table n edits (shown_by feed) → is_among a (flat_map relevant_in feed) ≡ false
never_among table n a [] edits w h = refl
never_among table n a (Tick s ∷ feed) edits w h =
    let before : AllWorlds (is_irrelevant table n a) h.1 = all_older (is_irrelevant table n a) h.0 h.1 (subst (AllWorlds (is_irrelevant table n a)) h.3 w) in
    list_any-append (λ k. k == a) (relevant_in (Tick s)) (flat_map relevant_in feed)
    ∙ or_from (is_among a (relevant_in (Tick s))) (is_among a (flat_map relevant_in feed))
    (ap (λ (t : List Seen). is_among a (relevant_in (Tick t))) h.4 ∙ lacks table h.1 n a h.2 (not-true (is_relevant table h.1 n a) (now_holds (is_irrelevant table n a) h.1 before)) (actors_of h.1))
    (never_among table n a feed h.1 before h.5)
never_among table n a (Got bytes ∷ feed) edits w h = never_among table n a feed edits w h
never_among table n a (Call b m args ∷ feed) edits w h = never_among table n a feed edits w h

-- a player that is found has joined
find_joined : (n : ℕ) (players : List Player) (p : Player) → mine n players ≡ Some p → (before after : List Player) × (players ≡ before ++ p ∷ after)
find_joined n [] p e = absurd (cc)
find_joined n (q ∷ players) p e = by (q.number == n) (find_joined n players p) e
  where
    by : (b : Bool) → (mine n players ≡ Some p → (before after : List Player) × (players ≡ before ++ p ∷ after)) → cond b (Some q) (mine n players) ≡ Some p → (before after : List Player) × (q ∷ players ≡ before ++ p ∷ after)
    by true later h = ([], players, ap (λ (r : Player). r ∷ players) (same_some q p h))
    by false later h = let r = later h in (q ∷ r.0, r.1, ap (λ (l : List Player). q ∷ l) r.2)

-- of a player who is found, no earlier sight had it
found_lacks : (table : Table) (n a : ℕ) (one : List Line) → AllWorlds (is_irrelevant table n a) (edits_of one) → (p : Player) → found_in table n one ≡ Some p → is_among a (earlier_of p) ≡ false
found_lacks table n a one w p found =
    never_among table n a p.server_feed (edits_of one) w
    (subst (λ (edits : Edits). Seeing table n edits (shown_by p.server_feed)) (story_edits table one)
    (subst (λ (m : ℕ). Seeing table m (story_of table one).0.edits (shown_by p.server_feed)) (found_number n (story_of table one).0.players p found)
    (player_shown table one p (find_joined n (story_of table one).0.players p found)).sees))

-- ---- each kind of line

-- the line leaves the player as it is, and the lines after it show the player the same sights
abbrev pub Passes : Table → ℕ → (before : List Line) → Line → (after : List Line) → Type 0
Passes table n before line after = (found_in table n before ≡ found_in table n (before ++ line ∷ [])) × Course table n before (before ++ line ∷ []) after

-- so the player is found alike with the line and without it
pub goes_on : (table : Table) (n : ℕ) (before : List Line) (line : Line) (after : List Line) → Passes table n before line after → found_in table n (before ++ after) ≡ found_in table n (before ++ line ∷ after)
goes_on table n before line after h = follow table n before (before ++ line ∷ []) after h.1 h.0 ∙ ap (found_in table n) (append_assoc before (line ∷ []) after)

-- lines about others
others_unseen : (table : Table) (n : ℕ) (before : List Line) (line : Line) (after : List Line) → edit_in line ≡ None → is_of_other n line ≡ true → Passes table n before line after
others_unseen table n before line after e other = (
  sym (ap (λ (told : Story × List Report). mine n told.0.players) (story_more table before line) ∙ other_line table n line (story_of table before).0 other),
  same_course table n before (before ++ line ∷ []) after (sym (one_more before line ∙ ap (λ (o : Option Edit). with_edit o (edits_of before)) e)),
)

-- an edit that no sight shows leaves the player
edits_unseen : (table : Table) (n : ℕ) (before : List Line) (x : Edit) (after : List Line) (test : Edits → Bool) (W : List Line → Type 0) → Blinds table n x (edits_of before) test W → W before
    → Along test before after → Along test (before ++ ApplyEdit x ∷ []) after → Passes table n before (ApplyEdit x) after
edits_unseen table n before x after test W b w h k = (
  sym (ap (λ (told : Story × List Report). mine n told.0.players) (story_more table before (ApplyEdit x))),
  edit_course table n x (edits_of before) test W b [] before (before ++ ApplyEdit x ∷ []) after refl (one_more before (ApplyEdit x)) w h k,
)

-- a test with the line and without it, in two halves
from_parts : (test : Edits → Bool) (before : List Line) (line : Line) (after : List Line) → holds_from test before line after ≡ true → Along test before after × Along test (before ++ line ∷ []) after
from_parts test before line after h =
    let parts = and_parts (holds_along test before after) (holds_along test (before ++ line ∷ []) after) h in (along test before after parts.0, along test (before ++ line ∷ []) after parts.1)

-- edits of actors out of sight
edits_out_of_sight : (table : Table) (n : ℕ) (before : List Line) (x : Edit) (a : ℕ) (after : List Line) → named_actor x ≡ Some a → ((c : ℕ) → x ≡ Destroy c → ⊥)
    → holds_from (is_irrelevant table n a) before (ApplyEdit x) after ≡ true → Passes table n before (ApplyEdit x) after
edits_out_of_sight table n before x a after e d h =
    let parts = from_parts (is_irrelevant table n a) before (ApplyEdit x) after h in
    edits_unseen table n before x after (is_irrelevant table n a) (λ (l : List Line). Unit {0})
    (record { grows = λ one line t w. tt; shows = λ newer one q r s w p found. edit_unseen table x a newer (edits_of before) n (earlier_of p) e d r s }) tt parts.0 parts.1

-- destroys of actors never relevant
destroys_out_of_sight : (table : Table) (n : ℕ) (before : List Line) (a : ℕ) (after : List Line) → holds_always (is_irrelevant table n a) before (ApplyEdit (Destroy a)) after ≡ true → Passes table n before (ApplyEdit (Destroy a)) after
destroys_out_of_sight table n before a after h =
    let both = and_parts (holds_along (is_irrelevant table n a) [] before) (holds_from (is_irrelevant table n a) before (ApplyEdit (Destroy a)) after) h in
    let parts = from_parts (is_irrelevant table n a) before (ApplyEdit (Destroy a)) after both.1 in
    let start : Along (is_irrelevant table n a) [] before = along (is_irrelevant table n a) [] before both.0 in
    edits_unseen table n before (Destroy a) after (is_irrelevant table n a) (λ (l : List Line). AllWorlds (is_irrelevant table n a) (edits_of l))
    (record {
      grows = world_more (is_irrelevant table n a);
      shows = λ newer one q r s w p found. destroy_unseen table a newer (edits_of before) n (earlier_of p) r s (found_lacks table n a one w p found);
    })
    (worlds_along (is_irrelevant table n a) [] before start (first_along (is_irrelevant table n a) [] before start)) parts.0 parts.1

-- values for owners, of actors that the player doesn't own
owners_values_unseen : (table : Table) (n : ℕ) (before : List Line) (a h : ℕ) (v : ℤ) (after : List Line) → has_cond is_owner_only table (edits_of before) a h ≡ true
    → holds_from (λ edits. not (owns edits n a)) before (ApplyEdit (Set a h v)) after ≡ true → Passes table n before (ApplyEdit (Set a h v)) after
owners_values_unseen table n before a h v after c k =
    let parts = from_parts (λ edits. not (owns edits n a)) before (ApplyEdit (Set a h v)) after k in
    edits_unseen table n before (Set a h v) after (λ edits. not (owns edits n a)) (λ (l : List Line). Unit {0})
    (record {
      grows = λ one line t w. tt;
      shows = λ newer one q r s w p found. value_unseen table is_owner_only a h v newer (edits_of before) n (earlier_of p) refl c
          (λ prop t. owners_hidden prop.cond (owns (newer ++ Set a h v ∷ edits_of before) n a) (is_on (newer ++ Set a h v ∷ edits_of before) a h) t (not-true (owns (newer ++ Set a h v ∷ edits_of before) n a) s));
    }) tt parts.0 parts.1

-- values that are switched off
custom_values_unseen : (table : Table) (n : ℕ) (before : List Line) (a h : ℕ) (v : ℤ) (after : List Line) → has_cond is_custom table (edits_of before) a h ≡ true
    → holds_from (λ edits. not (is_on edits a h)) before (ApplyEdit (Set a h v)) after ≡ true → Passes table n before (ApplyEdit (Set a h v)) after
custom_values_unseen table n before a h v after c k =
    let parts = from_parts (λ edits. not (is_on edits a h)) before (ApplyEdit (Set a h v)) after k in
    edits_unseen table n before (Set a h v) after (λ edits. not (is_on edits a h)) (λ (l : List Line). Unit {0})
    (record {
      grows = λ one line t w. tt;
      shows = λ newer one q r s w p found. value_unseen table is_custom a h v newer (edits_of before) n (earlier_of p) refl c
          (λ prop t. custom_hidden prop.cond (owns (newer ++ Set a h v ∷ edits_of before) n a) (is_on (newer ++ Set a h v ∷ edits_of before) a h) t (not-true (is_on (newer ++ Set a h v ∷ edits_of before) a h) s));
    }) tt parts.0 parts.1

-- ---- all of them

-- a hidden value leaves the player
value_hidden : (table : Table) (n : ℕ) (before : List Line) (x : Edit) (after : List Line) → hides_value table n before x after ≡ true → Passes table n before (ApplyEdit x) after
value_hidden table n before (Set a h v) after k =
    elim (or_cases (has_cond is_owner_only table (edits_of before) a h && holds_from (λ edits. not (owns edits n a)) before (ApplyEdit (Set a h v)) after)
    (has_cond is_custom table (edits_of before) a h && holds_from (λ edits. not (is_on edits a h)) before (ApplyEdit (Set a h v)) after) k) [
      | inl e ↦ (let parts = and_parts (has_cond is_owner_only table (edits_of before) a h) (holds_from (λ edits. not (owns edits n a)) before (ApplyEdit (Set a h v)) after) e in owners_values_unseen table n before a h v after parts.0 parts.1)
      | inr e ↦ (let parts = and_parts (has_cond is_custom table (edits_of before) a h) (holds_from (λ edits. not (is_on edits a h)) before (ApplyEdit (Set a h v)) after) e in custom_values_unseen table n before a h v after parts.0 parts.1)
    ]
value_hidden table n before (Spawn class u v) after k = absurd (cc)
value_hidden table n before (Destroy a) after k = absurd (cc)
value_hidden table n before (Own a p) after k = absurd (cc)
value_hidden table n before (View p u v) after k = absurd (cc)
value_hidden table n before (Add a p on) after k = absurd (cc)
value_hidden table n before (Dormant a) after k = absurd (cc)
value_hidden table n before (Wake a) after k = absurd (cc)
value_hidden table n before (Flush a) after k = absurd (cc)
value_hidden table n before (Switch a h on) after k = absurd (cc)
value_hidden table n before (Team p t) after k = absurd (cc)
value_hidden table n before (Give a t) after k = absurd (cc)

-- an edit out of sight leaves the player
out_of_sight : (table : Table) (n : ℕ) (before : List Line) (x : Edit) (after : List Line) → is_out_of_sight table n before x after ≡ true → Passes table n before (ApplyEdit x) after
out_of_sight table n before (Destroy a) after k = destroys_out_of_sight table n before a after k
out_of_sight table n before (Set a h v) after k = edits_out_of_sight table n before (Set a h v) a after refl (λ c e. absurd (cc)) k
out_of_sight table n before (Own a p) after k = edits_out_of_sight table n before (Own a p) a after refl (λ c e. absurd (cc)) k
out_of_sight table n before (Add a p on) after k = edits_out_of_sight table n before (Add a p on) a after refl (λ c e. absurd (cc)) k
out_of_sight table n before (Dormant a) after k = edits_out_of_sight table n before (Dormant a) a after refl (λ c e. absurd (cc)) k
out_of_sight table n before (Wake a) after k = edits_out_of_sight table n before (Wake a) a after refl (λ c e. absurd (cc)) k
out_of_sight table n before (Flush a) after k = edits_out_of_sight table n before (Flush a) a after refl (λ c e. absurd (cc)) k
out_of_sight table n before (Switch a h on) after k = edits_out_of_sight table n before (Switch a h on) a after refl (λ c e. absurd (cc)) k
out_of_sight table n before (Give a t) after k = edits_out_of_sight table n before (Give a t) a after refl (λ c e. absurd (cc)) k
out_of_sight table n before (Spawn class u v) after k = absurd (cc)
out_of_sight table n before (View p u v) after k = absurd (cc)
out_of_sight table n before (Team p t) after k = absurd (cc)

-- each unseen line passes
pub unseen : (table : Table) (n : ℕ) (before : List Line) (line : Line) (after : List Line) → is_unseen table n before line after ≡ true → Passes table n before line after
unseen table n before (ApplyEdit x) after h = elim (or_cases (hides_value table n before x after) (is_out_of_sight table n before x after) h) [
  | inl e ↦ value_hidden table n before x after e
  | inr e ↦ out_of_sight table n before x after e
]
unseen table n before (Join player budget version) after h = others_unseen table n before (Join player budget version) after refl h
unseen table n before TickAll after h = absurd (cc)
unseen table n before (TickClient player) after h = others_unseen table n before (TickClient player) after refl h
unseen table n before (Deliver side player k) after h = others_unseen table n before (Deliver side player k) after refl h
unseen table n before (DeliverNew side player every) after h = others_unseen table n before (DeliverNew side player every) after refl h
unseen table n before (CallTo side player a m args) after h = others_unseen table n before (CallTo side player a m args) after refl h
unseen table n before (CallAll a m args) after h = absurd (cc)
unseen table n before (Dump player) after h = others_unseen table n before (Dump player) after refl h
unseen table n before (AskSettled player a) after h = others_unseen table n before (AskSettled player a) after refl h
unseen table n before (Forge side player bytes) after h = others_unseen table n before (Forge side player bytes) after refl h

-- both ends hear the same
pub feeds_stay : FeedsStayEqual
feeds_stay table n before after line h side = ap (option_map (λ (p : Player). (end_of table side p, feed_of side p))) (goes_on table n before line after (unseen table n before line after h))

-- ---- lines that ask

-- nothing is done to the player found
option_kept : (o : Option Player) → option_map (λ (p : Player). p) o ≡ o
option_kept None = refl
option_kept (Some p) = refl

-- nothing is done to any player
told_alone : (n who : ℕ) (tell : Player → List Report) (players : List Player) → mine n (map (λ (p : Player). cond (p.number == who) p p) players) ≡ mine n players
told_alone n who tell players = elim (cases_Bool (who == n)) [
  | inl t ↦ subst (λ (w : ℕ). mine n (map (λ (p : Player). cond (p.number == w) p p) players) ≡ mine n players) (sym (eqb-true who n t))
      (mine_one n (λ (p : Player). (p, tell p)) (λ p. refl) players ∙ option_kept (mine n players))
  | inr t ↦ mine_other n who (λ (p : Player). (p, tell p)) (λ p. refl) t players
]

-- a line that asks does nothing
asking_stays : (table : Table) (n : ℕ) (line : Line) (story : Story) → asks line ≡ true → (edit_in line ≡ None) × (mine n (after_line table story line).0.players ≡ mine n story.players)
asking_stays table n (Dump player) story h = (refl, told_alone n player (λ (p : Player). []) story.players)
asking_stays table n (AskSettled player a) story h = (refl, told_alone n player (λ (p : Player). []) story.players)
asking_stays table n (Join player budget version) story h = absurd (cc)
asking_stays table n (ApplyEdit x) story h = absurd (cc)
asking_stays table n TickAll story h = absurd (cc)
asking_stays table n (TickClient player) story h = absurd (cc)
asking_stays table n (Deliver side player k) story h = absurd (cc)
asking_stays table n (DeliverNew side player every) story h = absurd (cc)
asking_stays table n (CallTo side player a m args) story h = absurd (cc)
asking_stays table n (CallAll a m args) story h = absurd (cc)
asking_stays table n (Forge side player bytes) story h = absurd (cc)

-- a line that asks leaves both feeds
pub asking_changes_nothing : AskingChangesNothing
asking_changes_nothing table n before after line h side =
    let stays = asking_stays table n line (story_of table before).0 h in
    ap (option_map (λ (p : Player). (end_of table side p, feed_of side p)))
    (goes_on table n before line after (
      sym (ap (λ (told : Story × List Report). mine n told.0.players) (story_more table before line) ∙ stays.1),
      same_course table n before (before ++ line ∷ []) after (sym (one_more before line ∙ ap (λ (o : Option Edit). with_edit o (edits_of before)) stays.0)),
    ))

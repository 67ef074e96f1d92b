-- The players of a story are those who joined in the lines before.
use Rattle.std.proofs.Common.{◌≡◌, ℕ, suc, ◌+◌, ◌-◌, ◌==◌, List, [], ◌∷◌, map, filter, fold, length, Bool, true, false, ◌||◌, cond, nat_lt, refl, ap, ◌∙◌, Option, Some, None, is_some, find, slice_get, if◌then◌else◌}
use Rattle.std.specs.List.{range_with_len}
use Rattle.std.proofs.lemmas.Bool.{cond_both}
use Rattle.protocol_model.specs.Payload.{natural}
use Rattle.protocol_model.specs.Search.{is_among}
use Rattle.protocol_model.specs.Side.{Side, AtServer, AtClient}
use Rattle.protocol_model.specs.Value.{Table}
use Rattle.protocol_model.specs.World.{Edits, Edit}
use Rattle.script_model.specs.Script.{Spelled, Join, Spawn, Destroy, Set, Own, View, Add, Dormant, Wake, Flush, Switch, Team, Give, Tick, ClientTick, Deliver, DeliverNew, CallTo, CallAll, Dump, AskSettled, Forge}
use Rattle.script_model.specs.ScriptRules.{Before, guid_of, call_number, call_args, line_of, after_spelled}
use Rattle.connection_model.specs.Feed.{Event, Got, Call}
use Rattle.replication_model.specs.Story.{Player, Story, Reported, with_event, other_side, out_at, told_before, with_told, is_kept, also_delivery, after_tick_of, after_delivery, after_new_deliveries, new_player, with_joined, after_line}
use Rattle.connection_laws.proofs.StoriesTalk.{delivered_number, told_number}
use Rattle.following_laws.specs.Following.{has_player}

-- ---- numbers stay

-- what is done with a player leaves its number
abbrev KeepsNumber : (Player → Player) → Type 0
KeepsNumber does = (p : Player) → (does p).number ≡ p.number

-- an event does
event_keeps : (side : Side) (event : Event) → KeepsNumber (with_event side event)
event_keeps AtServer event p = refl
event_keeps AtClient event p = refl

-- so does a tick
tick_keeps : (table : Table) (edits : Edits) (side : Side)
    → KeepsNumber (λ (p : Player). (after_tick_of table edits side p).0)
tick_keeps table edits AtServer p = refl
tick_keeps table edits AtClient p = refl

-- so does a delivery
delivery_keeps : (table : Table) (edits : Edits) (side : Side) (k : ℕ)
    → KeepsNumber (λ (p : Player). (after_delivery table edits side k p).0)
delivery_keeps table edits side k p =
    delivered_number table edits side k p (slice_get (out_at table (other_side side) p) (k - 1))

-- so do several
deliveries_keep : (table : Table) (edits : Edits) (side : Side) (ks : List ℕ) (told : Reported)
    → (fold (also_delivery table edits side) told ks).0.number ≡ told.0.number
deliveries_keep table edits side [] told = refl
deliveries_keep table edits side (k ∷ ks) told =
    deliveries_keep table edits side ks (also_delivery table edits side told k)
    ∙ delivery_keeps table edits side k told.0

-- so do deliveries of what is new
new_keeps : (table : Table) (edits : Edits) (side : Side) (every : ℕ)
    → KeepsNumber (λ (p : Player). (after_new_deliveries table edits side every p).0)
new_keeps table edits side every p =
    let count = length (out_at table (other_side side) p) in
    let new = range_with_len (told_before side p + 1) (count - told_before side p) in
    deliveries_keep table edits side (filter (is_kept every) new) (with_told side count p, [])
    ∙ told_number side count p

-- what is done with the player of one number
one_keeps : (does : Player → Player) (who : ℕ) → KeepsNumber does
    → KeepsNumber (λ (p : Player). if p.number == who then does p else p)
one_keeps does who k p =
    cond_both (p.number == who) (does p) p (λ (q : Player). q.number ≡ p.number) (λ t. k p) (λ t. refl)

-- ---- the players who joined

-- the player of a number
abbrev player_in : List Player → (player : ℕ) → Option Player
player_in players n = find (λ (p : Player). p.number == n) players

-- the same players joined
same_players : (does : Player → Player) → KeepsNumber does → (players : List Player) (n : ℕ)
    → has_player (map does players) n ≡ has_player players n
same_players does k [] n = refl
same_players does k (p ∷ players) n =
    by ((does p).number == n) (p.number == n) (ap (λ m. m == n) (k p)) (player_in (map does players) n)
    (player_in players n) (same_players does k players n)
  where
    by : (b c : Bool) → b ≡ c → (x y : Option Player) → is_some x ≡ is_some y
        → is_some (cond b (Some (does p)) x) ≡ is_some (cond c (Some p) y)
    by true true e x y h = refl
    by true false e x y h = absurd (cc)
    by false true e x y h = absurd (cc)
    by false false e x y h = h

-- as many players
same_count : (does : Player → Player) (players : List Player) → length (map does players) ≡ length players
same_count does [] = refl
same_count does (p ∷ players) = ap suc (same_count does players)

-- one more player joined
one_joined : (new : Player) (players : List Player) (n : ℕ)
    → has_player (with_joined new players) n ≡ (new.number == n || has_player players n)
one_joined new [] n = by (new.number == n)
  where
    by : (b : Bool) → is_some (cond b (Some new) None) ≡ (b || false)
    by true = refl
    by false = refl
one_joined new (p ∷ players) n = by (nat_lt p.number new.number) (one_joined new players n)
  where
    later : (b c : Bool) (x y : Option Player) → is_some x ≡ (c || is_some y)
        → is_some (cond b (Some p) x) ≡ (c || is_some (cond b (Some p) y))
    later true true x y h = refl
    later true false x y h = refl
    later false c x y h = h

    now : (c : Bool) (x : Option Player) → is_some (cond c (Some new) x) ≡ (c || is_some x)
    now true x = refl
    now false x = refl

    by : (t : Bool) → has_player (with_joined new players) n ≡ (new.number == n || has_player players n)
        → has_player (cond t (p ∷ with_joined new players) (new ∷ p ∷ players)) n
        ≡ (new.number == n || has_player (p ∷ players) n)
    by true h =
        later (p.number == n) (new.number == n) (player_in (with_joined new players) n) (player_in players n) h
    by false h = now (new.number == n) (player_in (p ∷ players) n)

-- one more player
one_more : (new : Player) (players : List Player) → length (with_joined new players) ≡ suc (length players)
one_more new [] = refl
one_more new (p ∷ players) =
    cond_both (nat_lt p.number new.number) (p ∷ with_joined new players) (new ∷ p ∷ players)
    (λ (all : List Player). length all ≡ suc (suc (length players))) (λ t. ap suc (one_more new players)) (λ t. refl)

-- ---- what is counted before a line

-- the story has these edits, and these players joined
pub record Agrees (before : Before) (story : Story) : Type 0 where
  pub edits : story.edits ≡ before.edits
  pub joined : (n : ℕ) → has_player story.players n ≡ is_among n before.joined
  pub count : length story.players ≡ length before.joined

-- it agrees with one more edit
edited : (edit : Edit) (before : Before) (story : Story) → Agrees before story
    → Agrees (record before { edits = edit ∷ before.edits }) (record story { edits = edit ∷ story.edits })
edited edit before story a =
    record { edits = ap (λ (edits : Edits). edit ∷ edits) a.edits; joined = a.joined; count = a.count }

-- so it does where players go on
gone_on : (does : Player → Player) → KeepsNumber does → (before : Before) (story : Story) → Agrees before story
    → Agrees before (record story { players = map does story.players })
gone_on does k before story a = record {
  edits = a.edits;
  joined = λ n. same_players does k story.players n ∙ a.joined n;
  count = same_count does story.players ∙ a.count;
}

-- so it does where one player goes on
one_on : (does : Player → Player) (who : ℕ) → KeepsNumber does → (before : Before) (story : Story)
    → Agrees before story → Agrees before
    (record story { players = map (λ (p : Player). if p.number == who then does p else p) story.players })
one_on does who k before story a =
    gone_on (λ (p : Player). if p.number == who then does p else p) (one_keeps does who k) before story a

-- so it does with one more player
joined : (new : Player) (before : Before) (story : Story) → Agrees before story
    → Agrees (record before { joined = new.number ∷ before.joined })
    (record story { players = with_joined new story.players })
joined new before story a = record {
  edits = a.edits;
  joined = λ n. one_joined new story.players n ∙ ap (λ b. new.number == n || b) (a.joined n);
  count = one_more new story.players ∙ ap suc a.count;
}

-- it agrees after each line
pub next_agrees : (table : Table) (before : Before) (story : Story) (line : Spelled) → Agrees before story
    → Agrees (after_spelled table before line) (after_line table story (line_of table before line)).0
next_agrees table before story (Join version player budget) a =
    joined (new_player (natural player) (natural budget) version) before story a
next_agrees table before story (Spawn class x y) a = edited _ before story a
next_agrees table before story (Destroy actor) a = edited _ before story a
next_agrees table before story (Set actor name value) a = edited _ before story a
next_agrees table before story (Own actor player) a = edited _ before story a
next_agrees table before story (View player x y) a = edited _ before story a
next_agrees table before story (Add on actor player) a = edited _ before story a
next_agrees table before story (Dormant actor) a = edited _ before story a
next_agrees table before story (Wake actor) a = edited _ before story a
next_agrees table before story (Flush actor) a = edited _ before story a
next_agrees table before story (Switch actor name on) a = edited _ before story a
next_agrees table before story (Team player team) a = edited _ before story a
next_agrees table before story (Give actor team) a = edited _ before story a
next_agrees table before story Tick a = gone_on _ (tick_keeps table story.edits AtServer) before story a
next_agrees table before story (ClientTick player) a =
    one_on _ (natural player) (tick_keeps table story.edits AtClient) before story a
next_agrees table before story (Deliver side player number) a =
    one_on _ (natural player) (delivery_keeps table story.edits side (natural number)) before story a
next_agrees table before story (DeliverNew side player every) a =
    one_on _ (natural player) (new_keeps table story.edits side (natural every)) before story a
next_agrees table before story (CallTo side player actor name args) a =
    let line : Spelled = CallTo side player actor name args in
    let event = Call (guid_of actor) (call_number table before line) (call_args table before line args) in
    one_on _ (natural player) (event_keeps side event) before story a
next_agrees table before story (CallAll actor name args) a =
    let line : Spelled = CallAll actor name args in
    let event = Call (guid_of actor) (call_number table before line) (call_args table before line args) in
    gone_on _ (event_keeps AtServer event) before story a
next_agrees table before story (Dump player) a = one_on (λ (p : Player). p) (natural player) (λ p. refl) before story a
next_agrees table before story (AskSettled player actor) a =
    one_on (λ (p : Player). p) (natural player) (λ p. refl) before story a
next_agrees table before story (Forge side player bytes) a =
    one_on _ (natural player) (event_keeps side (Got bytes)) before story a

-- A player's end ticks, and all others stay.
use Rattle.std.proofs.Common.{◌≡◌, ◌≢◌, ℕ, zero, suc, ◌+◌, ◌<◌, ◌≤◌, ◌^◌, ◌==◌, List, [], ◌∷◌, map, length, drop, Bool, true, false, cond, ◌&&◌, not, Option, Some, None, option_map, refl, sym, ap, ◌∙◌, subst, arith, if◌then◌else◌}
use Rattle.std.specs.Prelude.{find, nat_le, slice_get}
use Rattle.std.specs.List.{AllByRecursion}
use Rattle.std.proofs.lemmas.Bool.{eqb-true, eqb-false, eq-eqb, ne_eqb}
use Rattle.std.proofs.lemmas.Bool.Decides.{nat_tests}
use Rattle.std.proofs.lemmas.Option.{same_Some, none-some}
use Rattle.std.proofs.lemmas.List.{length-map}
use Rattle.protocol_model.specs.Value.{Table}
use Rattle.protocol_model.specs.World.{Edits}
use Rattle.protocol_model.specs.Sight.{Seen}
use Rattle.connection_model.specs.Feed.{End, Tick, Past, has_ended}
use Rattle.connection_model.specs.Fates.{top_of}
use Rattle.connection_model.specs.Past.{sent_bytes}
use Rattle.table_model.specs.Facts.{IsTable}
use Rattle.class_layout.specs.Tables.{table_in, entries_in}
use Rattle.link_end.specs.Answers.{new_packets, numbered, sent_value}
use Rattle.shadow_changes.specs.Samples.{Samples}
use Rattle.sender_steps.specs.declared.sight.Seen.{Seen as SeenValue}
use Rattle.server_end.specs.declared.server_end.EndTick.{EndTick}
use Rattle.net_driver.specs.declared.chair.Chair.{Chair}
use Rattle.net_driver.specs.declared.chair.Place.{Place}
use Rattle.net_driver.specs.declared.chair.Place.TheVariants.{Living, Dead}
use Rattle.server_end.specs.declared.server_end.ServerEnd.{ServerEnd}
use Rattle.net_driver.specs.Chairs.{dead_for, place_in, living_key}
use Rattle.net_driver.specs.Served.{Seat, Served, TickOf, seat_of, with_seat, past_for, end_for, ticked, shown_to, tick_of, top_for}
use Rattle.net_driver.specs.Ends.{end_at, IsLiving, IsPlace}
use Rattle.net_driver.specs.Serves.{Drive, Serves, SeatFits, IsSeated, AreSeated, AreAbove, AreRising}
use Rattle.net_driver.specs.Sights.{IsSightFor, IsSending}
use Rattle.server_end.specs.Ticks.{IsGivenEnd, HasTicked}
use Rattle.net_driver.proofs.Fitting.{fits_turned}
use Rattle.net_driver.proofs.Hearing.{ignored, hears}
use Rattle.net_driver.proofs.Given.{given_for}
use Rattle.net_driver.proofs.Placing.{elsewhere, for_place, living_is}
use Rattle.net_driver.proofs.Seats.{turned_rising}
use Rattle.net_driver.proofs.Ticked.{fits_tick, stalls, living_ticked}

-- ---- one seat and its chair change

passed : (table : Table) (edits : Edits) (samples : Samples) (greatest raised : ℕ)
    (ends later : List (Option ServerEnd)) (player : ℕ) (f : Chair → Chair) (g : Seat → Seat)
    → ((c : Chair) → c.player ≢ player → f c ≡ c)
    → ((c : Chair) (t : Seat) → t.number ≢ player → IsSeated table edits samples greatest ends c t
    → IsSeated table edits samples raised later c t)
    → (chairs : List Chair) (seats : List Seat) → AreAbove player seats
    → AreSeated table edits samples greatest ends chairs seats
    → AreSeated table edits samples raised later (map f chairs)
    (map (λ (t : Seat). if t.number == player then g t else t) seats)
passed table edits samples greatest raised ends later player f g same other [] [] a h = tt
passed table edits samples greatest raised ends later player f g same other [] (t ∷ seats) a h = absurd h
passed table edits samples greatest raised ends later player f g same other (c ∷ chairs) [] a h = absurd h
passed table edits samples greatest raised ends later player f g same other (c ∷ chairs) (t ∷ seats) a h = (
  go (t.number == player) refl,
  passed table edits samples greatest raised ends later player f g same other chairs seats a.1 h.1,
)
  where
    go : (b : Bool) → (t.number == player) ≡ b → IsSeated table edits samples raised later (f c) (cond b (g t) t)
    go true e = absurd (let q = eqb-true t.number player e in omega (arith, q, a.0))
    go false e =
        let ne = eqb-false t.number player e in
        subst (λ (x : Chair). IsSeated table edits samples raised later x t)
        (sym (same c (λ m. ne (sym h.0.player ∙ m)))) (other c t ne h.0)

turns_with : (table : Table) (edits : Edits) (samples : Samples) (greatest raised : ℕ)
    (ends later : List (Option ServerEnd)) (player : ℕ) (f : Chair → Chair) (g : Seat → Seat) (found : Option Place)
    (sought : Option Seat)
    → ((c : Chair) → c.player ≢ player → f c ≡ c)
    → ((c : Chair) (t : Seat) → t.number ≢ player → IsSeated table edits samples greatest ends c t
    → IsSeated table edits samples raised later c t)
    → ((c : Chair) (t : Seat) → sought ≡ Some t → found ≡ Some c.place
    → IsSeated table edits samples greatest ends c t → IsSeated table edits samples raised later (f c) (g t))
    → (chairs : List Chair) (seats : List Seat) → place_in chairs player ≡ found
    → find (λ (t : Seat). t.number == player) seats ≡ sought → AreRising seats
    → AreSeated table edits samples greatest ends chairs seats
    → AreSeated table edits samples raised later (map f chairs)
    (map (λ (t : Seat). if t.number == player then g t else t) seats)
turns_with table edits samples greatest raised ends later player f g found sought same other own [] [] e w r h = tt
turns_with table edits samples greatest raised ends later player f g found sought same other own [] (t ∷ seats) e w r h =
    absurd h
turns_with table edits samples greatest raised ends later player f g found sought same other own (c ∷ chairs) [] e w r h =
    absurd h
turns_with table edits samples greatest raised ends later player f g found sought same other own (c ∷ chairs) (t ∷ seats)
    e w r h =
    go (c.player == player) (t.number == player) refl (ap (λ m. m == player) h.0.player) e w
    (λ q v. turns_with table edits samples greatest raised ends later player f g found sought same other own chairs seats
    q v r.1 h.1)
  where
    go : (a b : Bool) → (t.number == player) ≡ b → a ≡ b
        → option_map (λ (c : Chair). c.place) (cond a (Some c) (find (λ (c : Chair). c.player == player) chairs))
        ≡ found
        → cond b (Some t) (find (λ (t : Seat). t.number == player) seats) ≡ sought
        → (place_in chairs player ≡ found → find (λ (t : Seat). t.number == player) seats ≡ sought
        → AreSeated table edits samples raised later (map f chairs)
        (map (λ (t : Seat). if t.number == player then g t else t) seats))
        → AreSeated table edits samples raised later (f c ∷ map f chairs)
        (cond b (g t) t ∷ map (λ (t : Seat). if t.number == player then g t else t) seats)
    go true true e q at here later' =
        let is = eqb-true t.number player e in (
          own c t (sym here) (sym at) h.0,
          passed table edits samples greatest raised ends later player f g same other chairs seats
              (subst (λ n. AreAbove n seats) is r.0) h.1,
        )
    go true false e q at here later' = absurd (cc)
    go false true e q at here later' = absurd (cc)
    go false false e q at here later' =
        let ne = eqb-false t.number player e in (
          subst (λ (x : Chair). IsSeated table edits samples raised later x t)
              (sym (same c (λ m. ne (sym h.0.player ∙ m)))) (other c t ne h.0),
          later' at here,
        )

raised_living : (table : Table) (edits : Edits) (samples : Samples) (greatest raised : ℕ) (e : ServerEnd) (t : Seat)
    → greatest ≤ raised
    → IsLiving table edits samples greatest e t → IsLiving table edits samples raised e t
raised_living table edits samples greatest raised e t le h = record {
  player = h.player;
  alive = h.alive;
  before = h.before;
  extends = h.extends;
  stands = h.stands;
  classes = h.classes;
  count = omega (arith, h.count, le);
}

-- the driver after the tick of one player's end
pub one_ticked : (d : Drive) (s : Served) (player raised : ℕ) (later : List (Option ServerEnd)) (f : Chair → Chair)
    → Serves d s → d.greatest ≤ raised
    → ((k : ℕ) → (living_key (place_in d.chairs player) ≡ Some k → ⊥) → end_at later k ≡ end_at d.ends k)
    → ((c : Chair) → c.player ≢ player → f c ≡ c)
    → ((c : Chair) (t : Seat) → seat_of s player ≡ Some t → place_in d.chairs player ≡ Some c.place
    → IsSeated (table_in d.layout) s.edits s.samples d.greatest d.ends c t
    → IsSeated (table_in d.layout) s.edits s.samples raised later (f c) (ticked (table_in d.layout) s.edits t))
    → Serves (record d { ends = later; chairs = map f d.chairs; greatest = raised })
    (with_seat (ticked (table_in d.layout) s.edits) player s)
one_ticked d s player raised later f h more stay same own = record {
  world = h.world;
  layout = h.layout;
  graph = h.graph;
  changes = h.changes;
  from_one = h.from_one;
  there = h.there;
  ticks = h.ticks;
  sampled = h.sampled;
  graves = h.graves;
  fits = fits_turned (table_in d.layout) s.edits d.graves player (ticked (table_in d.layout) s.edits)
      (λ t n fit. fits_tick (table_in d.layout) s.edits d.graves t fit) s.seats h.fits;
  seated = turns_with (table_in d.layout) s.edits s.samples d.greatest raised d.ends later player f
      (ticked (table_in d.layout) s.edits) (place_in d.chairs player) (seat_of s player) same other own d.chairs s.seats
      refl refl h.rising h.seated;
  rising = turned_rising player (ticked (table_in d.layout) s.edits) (λ t. refl) s.seats h.rising;
  few = omega (
    arith,
    h.few,
    length-map s.seats (λ (t : Seat). if t.number == player then ticked (table_in d.layout) s.edits t else t),
  );
  kept = h.kept;
}
  where
    other : (c : Chair) (t : Seat) → t.number ≢ player
        → IsSeated (table_in d.layout) s.edits s.samples d.greatest d.ends c t
        → IsSeated (table_in d.layout) s.edits s.samples raised later c t
    other c t ne i = record { player = i.player; place = go c.place i.place }
      where
        go : (p : Place) → IsPlace (table_in d.layout) s.edits s.samples d.greatest d.ends t p
            → IsPlace (table_in d.layout) s.edits s.samples raised later t p
        go (Living k) (e, at, lives) = (
          e,
          stay k
              (λ q. elsewhere d s player k h (living_is (place_in d.chairs player) k q) k e at (λ m. ne (sym lives.player
              ∙ m)) refl) ∙ at,
          raised_living (table_in d.layout) s.edits s.samples d.greatest raised e t more lives,
        )
        go (Dead top) i = i

map_self : (chairs : List Chair) → map (λ (c : Chair). c) chairs ≡ chairs
map_self [] = refl
map_self (c ∷ chairs) = ap (λ (cs : List Chair). c ∷ cs) (map_self chairs)

-- the chairs stay
pub one_ticked_there : (d : Drive) (s : Served) (player raised : ℕ) (later : List (Option ServerEnd))
    → Serves d s → d.greatest ≤ raised
    → ((k : ℕ) → (living_key (place_in d.chairs player) ≡ Some k → ⊥) → end_at later k ≡ end_at d.ends k)
    → ((c : Chair) (t : Seat) → seat_of s player ≡ Some t → place_in d.chairs player ≡ Some c.place
    → IsSeated (table_in d.layout) s.edits s.samples d.greatest d.ends c t
    → IsSeated (table_in d.layout) s.edits s.samples raised later c (ticked (table_in d.layout) s.edits t))
    → Serves (record d { ends = later; greatest = raised }) (with_seat (ticked (table_in d.layout) s.edits) player s)
one_ticked_there d s player raised later h more stay own =
    subst (λ (cs : List Chair). Serves (record d { ends = later; chairs = cs; greatest = raised })
    (with_seat (ticked (table_in d.layout) s.edits) player s)) (map_self d.chairs)
    (one_ticked d s player raised later (λ c. c) h more stay (λ c ne. refl) own)

-- a player whose end is dead
pub dead_ticked : (d : Drive) (s : Served) (player : ℕ) (seat : Seat) → Serves d s
    → living_key (place_in d.chairs player) ≡ None → has_ended (past_for (table_in d.layout) seat) ≡ true
    → seat_of s player ≡ Some seat → Serves d (with_seat (ticked (table_in d.layout) s.edits) player s)
dead_ticked d s player seat h none dead is =
    one_ticked_there d s player d.greatest d.ends h (omega arith) (λ k ne. refl) own
  where
    own : (c : Chair) (t : Seat) → seat_of s player ≡ Some t → place_in d.chairs player ≡ Some c.place
        → IsSeated (table_in d.layout) s.edits s.samples d.greatest d.ends c t
        → IsSeated (table_in d.layout) s.edits s.samples d.greatest d.ends c (ticked (table_in d.layout) s.edits t)
    own c t at f i = record { player = i.player; place = go c.place f i.place }
      where
        go : (p : Place) → place_in d.chairs player ≡ Some p
            → IsPlace (table_in d.layout) s.edits s.samples d.greatest d.ends t p
            → IsPlace (table_in d.layout) s.edits s.samples d.greatest d.ends (ticked (table_in d.layout) s.edits t) p
        go (Living k) f i = absurd (none-some k (sym none ∙ ap living_key f))
        go (Dead top) f i =
            let e = ignored (table_in d.layout) t (Tick (shown_to (table_in d.layout) s.edits t)) i.0 in
            (ap has_ended e ∙ i.0, i.1 ∙ ap top_of (sym e))

-- ---- an end that is alive ticks

-- the sight of a player's living end is known, and numbers are small
pub record IsReadyTick (d : Drive) (s : Served) (player key : ℕ) (sight : List SeenValue) (seat : Seat)
    : Type 0 where
  pub serves : Serves d s
  pub place : place_in d.chairs player ≡ Some (Living key)
  pub seat_at : seat_of s player ≡ Some seat
  pub shows : has_ended (past_for (table_in d.layout) seat) ≡ false
      → IsSightFor d.layout s.edits d.graves s.samples sight seat
  pub tables : IsTable (entries_in d.layout)
  pub few : d.greatest < 2 ^ 59

-- not past what is counted
pub below : (n : ℕ) → nat_le (2 ^ 59) n ≡ false → n < 2 ^ 59
below n e = grind (arith, nat_tests)

pub ready_tick : (d : Drive) (s : Served) (c : Chair) (key : ℕ) (sight : List SeenValue) (seat : Seat) → Serves d s
    → IsSending d s c sight seat → living_key (Some c.place) ≡ Some key → IsTable (entries_in d.layout)
    → nat_le (2 ^ 59) d.greatest ≡ false → IsReadyTick d s c.player key sight seat
ready_tick d s c key sight seat h sends alive tables few = record {
  serves = h;
  place = sends.place ∙ living_is (Some c.place) key alive;
  seat_at = sends.seat_at;
  shows = sends.shows;
  tables = tables;
  few = below d.greatest few;
}

-- that end, and what it is given
pub record IsGivenTick (d : Drive) (s : Served) (key : ℕ) (sight : List SeenValue) (seat : Seat) : Type 0 where
  pub end : ServerEnd
  pub at : end_at d.ends key ≡ Some end
  pub fits : SeatFits (table_in d.layout) s.edits d.graves seat
  pub lives : IsLiving (table_in d.layout) s.edits s.samples d.greatest end seat
  pub given : IsGivenEnd end d.layout d.changes sight (end_for (table_in d.layout) seat)
      (past_for (table_in d.layout) seat) lives.before s.samples (shown_to (table_in d.layout) s.edits seat)

fits_found : (P : Seat → Type 0) (player : ℕ) (seats : List Seat) (t : Seat) → AllByRecursion P seats
    → find (λ (t : Seat). t.number == player) seats ≡ Some t → P t
fits_found P player [] t h e = absurd (none-some t e)
fits_found P player (x ∷ seats) t h e = by (x.number == player) e (λ q. fits_found P player seats t h.1 q)
  where
    by : (b : Bool) → cond b (Some x) (find (λ (t : Seat). t.number == player) seats) ≡ Some t
        → (find (λ (t : Seat). t.number == player) seats ≡ Some t → P t) → P t
    by true e ih = subst P (same_Some x t e) h.0
    by false e ih = ih e

pub given_tick : (d : Drive) (s : Served) (player key : ℕ) (sight : List SeenValue) (seat : Seat)
    → IsReadyTick d s player key sight seat → IsGivenTick d s key sight seat
given_tick d s player key sight seat r =
    let f = for_place d s player (Living key) r.serves r.place in
    let same : f.seat ≡ seat = same_Some f.seat seat (sym f.at ∙ r.seat_at) in
    let lives = subst (IsLiving (table_in d.layout) s.edits s.samples d.greatest f.is.0) same f.is.2 in
    let fits = fits_found (SeatFits (table_in d.layout) s.edits d.graves) player s.seats seat r.serves.fits r.seat_at in
    record {
      end = f.is.0;
      at = f.is.1;
      fits = fits;
      lives = lives;
      given = given_for d s f.is.0 seat sight r.serves r.tables fits lives (r.shows lives.alive) r.few;
    }

-- what is known of the end under the key after its tick
abbrev pub Ticks : Drive → (key : ℕ) → List SeenValue → List (Option ServerEnd) → EndTick → Type 0
Ticks d key sight later k = (e : ServerEnd) (end : End) (past : Past) (before samples : Samples) (shown : List Seen)
    → end_at d.ends key ≡ Some e → IsGivenEnd e d.layout d.changes sight end past before samples shown
    → (x : ServerEnd) × (end_at later key ≡ Some x) × HasTicked e x end past samples shown k

-- and all others stayed
abbrev pub OthersStay : Drive → (key : ℕ) → List (Option ServerEnd) → Type 0
OthersStay d key later = (k : ℕ) → k ≢ key → end_at later k ≡ end_at d.ends k

other_keys : (d : Drive) (player key : ℕ) (later : List (Option ServerEnd))
    → place_in d.chairs player ≡ Some (Living key) → OthersStay d key later
    → (k : ℕ) → (living_key (place_in d.chairs player) ≡ Some k → ⊥) → end_at later k ≡ end_at d.ends k
other_keys d player key later at stay k ne =
    stay k (λ q. ne (ap living_key at ∙ ap (λ (m : ℕ). Some m) (sym q)))

-- whether the end stalled is what the definitions say
pub stalled_is : (d : Drive) (s : Served) (player key : ℕ) (sight : List SeenValue) (seat : Seat)
    (later : List (Option ServerEnd)) (k : EndTick) → IsReadyTick d s player key sight seat → Ticks d key sight later k
    → k.stalled ≡ has_ended (past_for (table_in d.layout) (ticked (table_in d.layout) s.edits seat))
stalled_is d s player key sight seat later k r does =
    let g = given_tick d s player key sight seat r in
    let x = does g.end _ _ g.lives.before s.samples _ g.at g.given in
    x.2.stalled ∙ sym (stalls (table_in d.layout) s.edits seat g.lives.alive)

-- an end that didn't stall: the player's chair has it still
pub living_ticks : (d : Drive) (s : Served) (player key : ℕ) (sight : List SeenValue) (seat : Seat)
    (later : List (Option ServerEnd)) (k : EndTick) → IsReadyTick d s player key sight seat → Ticks d key sight later k
    → OthersStay d key later → k.stalled ≡ false
    → Serves (record d { ends = later; greatest = d.greatest + 2 ^ 18 })
    (with_seat (ticked (table_in d.layout) s.edits) player s)
living_ticks d s player key sight seat later k r does stay on =
    one_ticked_there d s player (d.greatest + 2 ^ 18) later r.serves (omega arith)
    (other_keys d player key later r.place stay) own
  where
    own : (c : Chair) (t : Seat) → seat_of s player ≡ Some t → place_in d.chairs player ≡ Some c.place
        → IsSeated (table_in d.layout) s.edits s.samples d.greatest d.ends c t
        → IsSeated (table_in d.layout) s.edits s.samples (d.greatest + 2 ^ 18) later c
        (ticked (table_in d.layout) s.edits t)
    own c t at f i =
        let g = given_tick d s player key sight seat r in
        let x = does g.end _ _ g.lives.before s.samples _ g.at g.given in
        let is : Living key ≡ c.place = same_Some (Living key) c.place (sym r.place ∙ f) in
        let same : seat ≡ t = same_Some seat t (sym r.seat_at ∙ at) in
        record {
          player = i.player;
          place = subst (λ (u : Seat). IsPlace (table_in d.layout) s.edits s.samples (d.greatest + 2 ^ 18) later
              (ticked (table_in d.layout) s.edits u) c.place) same
              (subst (IsPlace (table_in d.layout) s.edits s.samples (d.greatest + 2 ^ 18) later
              (ticked (table_in d.layout) s.edits seat)) is (
                x.0,
                x.1,
                living_ticked (table_in d.layout) s.edits d.graves s.samples d.greatest g.end x.0 seat g.lives g.fits
                    x.2.player x.2.stands x.2.count
                    (sym (stalled_is d s player key sight seat later k r does) ∙ on),
              ));
        }

-- one that stalled: it has left the greatest number that it took
pub stalled_ticks : (d : Drive) (s : Served) (player key top : ℕ) (sight : List SeenValue) (seat : Seat)
    (between later : List (Option ServerEnd)) (k : EndTick) → IsReadyTick d s player key sight seat
    → Ticks d key sight between k → OthersStay d key later → k.stalled ≡ true → top ≡ k.top
    → Serves (record d { ends = later; chairs = map (dead_for player top) d.chairs; greatest = d.greatest + 2 ^ 18 })
    (with_seat (ticked (table_in d.layout) s.edits) player s)
stalled_ticks d s player key top sight seat between later k r does stay off tops =
    one_ticked d s player (d.greatest + 2 ^ 18) later (dead_for player top) r.serves (omega arith)
    (other_keys d player key later r.place stay) same own
  where
    same : (c : Chair) → c.player ≢ player → dead_for player top c ≡ c
    same c ne = rw (ne_eqb c.player player ne) refl

    own : (c : Chair) (t : Seat) → seat_of s player ≡ Some t → place_in d.chairs player ≡ Some c.place
        → IsSeated (table_in d.layout) s.edits s.samples d.greatest d.ends c t
        → IsSeated (table_in d.layout) s.edits s.samples (d.greatest + 2 ^ 18) later (dead_for player top c)
        (ticked (table_in d.layout) s.edits t)
    own c t at f i =
        let g = given_tick d s player key sight seat r in
        let x = does g.end _ _ g.lives.before s.samples _ g.at g.given in
        let same : seat ≡ t = same_Some seat t (sym r.seat_at ∙ at) in
        let f2 = for_place d s player (Living key) r.serves r.place in
        let number : t.number ≡ player = ap (λ (u : Seat). u.number) (same_Some t f2.seat (sym at ∙ f2.at)) ∙ f2.number in
        let ends : has_ended (past_for (table_in d.layout) (ticked (table_in d.layout) s.edits seat)) ≡ true =
        sym (stalled_is d s player key sight seat between k r does) ∙ off in
        let heard = hears (table_in d.layout) seat (Tick (shown_to (table_in d.layout) s.edits seat)) g.lives.alive in
        let left : top ≡ top_for (table_in d.layout) (ticked (table_in d.layout) s.edits seat) =
        tops ∙ x.2.top ∙ ap top_of (sym heard) in
        rw (eq-eqb c.player player (i.player ∙ number)) (record {
          player = i.player;
          place = subst (λ (u : Seat). IsPlace (table_in d.layout) s.edits s.samples (d.greatest + 2 ^ 18) later
              (ticked (table_in d.layout) s.edits u) (Dead top)) same (ends, left);
        })

-- ---- what it answers

pub number_found : (player : ℕ) (seats : List Seat) (t : Seat)
    → find (λ (t : Seat). t.number == player) seats ≡ Some t → t.number ≡ player
number_found player [] t e = absurd (none-some t e)
number_found player (x ∷ seats) t e = by (x.number == player) refl e (λ q. number_found player seats t q)
  where
    by : (b : Bool) → (x.number == player) ≡ b
        → cond b (Some x) (find (λ (t : Seat). t.number == player) seats) ≡ Some t
        → (find (λ (t : Seat). t.number == player) seats ≡ Some t → t.number ≡ player) → t.number ≡ player
    by true q e ih = ap (λ (u : Seat). u.number) (sym (same_Some x t e)) ∙ eqb-true x.number player q
    by false q e ih = ih e

-- of an end that was dead nothing is sent
pub dead_sends : (table : Table) (edits : Edits) (seat : Seat) (player : ℕ) → player ≡ seat.number
    → has_ended (past_for table seat) ≡ true
    → (let k : TickOf = record { player = player; sent = []; stalled = false } in k) ≡ tick_of table edits seat
dead_sends table edits seat player n dead =
    let e = ignored table seat (Tick (shown_to table edits seat)) dead in
    rw (n, e, dead) (ap (λ (l : List (ℕ × List ℕ)). record { player = seat.number; sent = l; stalled = false })
    (none_new (end_for table seat) (past_for table seat)))
  where
    drop_all : (xs : List (List ℕ)) → drop (length xs) xs ≡ []
    drop_all [] = refl
    drop_all (x ∷ xs) = drop_all xs

    none_new : (end : End) (past : Past) → [] ≡ new_packets end past past
    none_new end past = sym (ap (numbered (length (sent_bytes end past) + 1)) (drop_all (sent_bytes end past)))

-- of one that was alive its packets, and whether it stalled
pub living_sends : (d : Drive) (s : Served) (player key : ℕ) (sight : List SeenValue) (seat : Seat)
    (later : List (Option ServerEnd)) (k : EndTick) (sent : List (ℕ × List ℕ)) (stalled : Bool)
    → IsReadyTick d s player key sight seat → Ticks d key sight later k → map sent_value k.sent ≡ sent
    → k.stalled ≡ stalled
    → (let t : TickOf = record { player = player; sent = sent; stalled = stalled } in t)
    ≡ tick_of (table_in d.layout) s.edits seat
living_sends d s player key sight seat later k sent stalled r does out off =
    let g = given_tick d s player key sight seat r in
    let x = does g.end _ _ g.lives.before s.samples _ g.at g.given in
    let f = for_place d s player (Living key) r.serves r.place in
    let number : player ≡ seat.number = sym f.number ∙ ap (λ (u : Seat). u.number) (same_Some f.seat seat (sym f.at ∙ r.seat_at)) in
    let heard = hears (table_in d.layout) seat (Tick (shown_to (table_in d.layout) s.edits seat)) g.lives.alive in
    let packets : sent ≡ new_packets (end_for (table_in d.layout) seat) (past_for (table_in d.layout) seat)
    (past_for (table_in d.layout) (ticked (table_in d.layout) s.edits seat)) =
    sym out ∙ x.2.sent ∙ ap (new_packets (end_for (table_in d.layout) seat) (past_for (table_in d.layout) seat)) (sym heard) in
    let stops : stalled ≡ (not (has_ended (past_for (table_in d.layout) seat))
    && has_ended (past_for (table_in d.layout) (ticked (table_in d.layout) s.edits seat))) =
    sym off ∙ stalled_is d s player key sight seat later k r does
    ∙ ap (λ (b : Bool). not b && has_ended (past_for (table_in d.layout) (ticked (table_in d.layout) s.edits seat)))
    (sym g.lives.alive) in
    ap (λ (n : ℕ). (let t : TickOf = record { player = n; sent = sent; stalled = stalled } in t)) number
    ∙ ap (λ (l : List (ℕ × List ℕ)). (let t : TickOf = record { player = seat.number; sent = l; stalled = stalled } in t)) packets
    ∙ ap (λ (b : Bool). (let t : TickOf = record {
      player = seat.number;
      sent = new_packets (end_for (table_in d.layout) seat) (past_for (table_in d.layout) seat)
          (past_for (table_in d.layout) (ticked (table_in d.layout) s.edits seat));
      stalled = b;
    } in t)) stops

-- ---- all players, one after the other

-- the first so many seats have heard the tick
abbrev pub ticked_upto : Table → Edits → ℕ → List Seat → List Seat
ticked_upto table edits zero seats = seats
ticked_upto table edits (suc n) [] = []
ticked_upto table edits (suc n) (t ∷ seats) = ticked table edits t ∷ ticked_upto table edits n seats

above_out : (player : ℕ) (g : Seat → Seat) (seats : List Seat) → AreAbove player seats
    → map (λ (t : Seat). if t.number == player then g t else t) seats ≡ seats
above_out player g [] a = refl
above_out player g (t ∷ seats) a =
    let ne : (t.number == player) ≡ false = ne_eqb t.number player (λ e. absurd (omega (arith, e, a.0))) in
    rw ne (ap (λ (ts : List Seat). t ∷ ts) (above_out player g seats a.1))

-- one more
pub one_more_ticked : (table : Table) (edits : Edits) (n : ℕ) (seats : List Seat) (t : Seat) → AreRising seats
    → slice_get seats n ≡ Some t
    → map (λ (u : Seat). if u.number == t.number then ticked table edits u else u) (ticked_upto table edits n seats)
    ≡ ticked_upto table edits (suc n) seats
one_more_ticked table edits n [] t r e = absurd (none-some t e)
one_more_ticked table edits zero (x ∷ seats) t r e =
    let is : x ≡ t = same_Some x t e in
    subst (λ (t : Seat). map (λ (u : Seat). if u.number == t.number then ticked table edits u else u) (x ∷ seats)
    ≡ ticked table edits x ∷ seats) is
    (rw (eq-eqb x.number x.number refl)
    (ap (λ (ts : List Seat). ticked table edits x ∷ ts) (above_out x.number (ticked table edits) seats r.0)))
one_more_ticked table edits (suc n) (x ∷ seats) t r e =
    let ne : (x.number == t.number) ≡ false = below x.number t.number (above_at x.number n seats r.0 e) in
    rw ne (ap (λ (ts : List Seat). ticked table edits x ∷ ts) (one_more_ticked table edits n seats t r.1 e))
  where
    below : (m k : ℕ) → m < k → (m == k) ≡ false
    below m k lt = ne_eqb m k (λ e. absurd (omega (arith, e, lt)))

    above_at : (m : ℕ) (n : ℕ) (seats : List Seat) → AreAbove m seats → slice_get seats n ≡ Some t → m < t.number
    above_at m n [] a e = absurd (none-some t e)
    above_at m zero (y ∷ seats) a e = subst (λ (y : Seat). m < y.number) (same_Some y t e) a.0
    above_at m (suc n) (y ∷ seats) a e = above_at m n seats a.1 e

pub all_ticked : (table : Table) (edits : Edits) (n : ℕ) (seats : List Seat) → length seats ≤ n
    → ticked_upto table edits n seats ≡ map (ticked table edits) seats
all_ticked table edits zero [] le = refl
all_ticked table edits (suc n) [] le = refl
all_ticked table edits zero (t ∷ seats) le = absurd (omega (arith, le))
all_ticked table edits (suc n) (t ∷ seats) le =
    ap (λ (ts : List Seat). ticked table edits t ∷ ts) (all_ticked table edits n seats (omega (arith, le)))

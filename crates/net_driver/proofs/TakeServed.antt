-- A datagram that was taken at the end under a key: the driver stands for it, and the answers are the definitions'.
use Rattle.std.proofs.Common.{◌≡◌, ◌≢◌, ℕ, ◌==◌, List, [], map, length, Bool, true, false, Option, Some, None, refl, sym, ap, ◌∙◌, subst, arith, if◌then◌else◌}
use Rattle.std.specs.Prelude.{take, reverse, ◌-◌}
use Rattle.std.proofs.lemmas.Option.{same_Some}
use Rattle.std.proofs.lemmas.List.{length-map}
use Rattle.protocol_model.specs.Value.{Table}
use Rattle.protocol_model.specs.World.{Edits, Spawned, spawn_of, class_in}
use Rattle.protocol_model.specs.declared.Verdict.TheVariants as verdicts
use Rattle.connection_model.specs.Copies.{delivered_of}
use Rattle.connection_model.specs.Feed.{End, Event, Past, has_ended}
use Rattle.connection_model.specs.Feed as feed
use Rattle.connection_model.specs.Fates.{top_of}
use Rattle.connection_model.specs.Handed.{handed_by, server_verdict}
use Rattle.connection_model.specs.Verdict.{after_got}
use Rattle.class_layout.specs.Tables.{Layout, table_in}
use Rattle.handovers.specs.Handovers.{handover_of, handovers}
use Rattle.sender_laws.proofs.Views.{class_alike}
use Rattle.hearing_laws.specs.Plain.{IsCalm}
use Rattle.hearing_laws.proofs.Acting.{got_acts}
use Rattle.hearing_laws.proofs.Calm.{feed_calm}
use Rattle.shadow_changes.specs.Samples.{Samples}
use Rattle.server_hearing.specs.Calls.{IsSpawnedAs, AreSpawned}
use Rattle.server_hearing.specs.declared.datagrams.Heard.{Heard}
use Rattle.server_end.specs.declared.server_end.ServerEnd.{ServerEnd}
use Rattle.net_driver.specs.declared.chair.Chair.{Chair}
use Rattle.net_driver.specs.declared.chair.Place.{Place}
use Rattle.net_driver.specs.declared.chair.Place.TheVariants.{Living, Dead}
use Rattle.net_driver.specs.Chairs.{place_in, living_key, dead_for}
use Rattle.net_driver.specs.Served.{Seat, Served, seat_of, with_seat, heard, past_for, past_as, end_for}
use Rattle.server_end.specs.Stands.{StandsEnd}
use Rattle.net_driver.specs.Ends.{AreOfWorld, end_at, IsLiving, IsPlace}
use Rattle.net_driver.specs.Serves.{Drive, Serves, IsSeated, AreThere}
use Rattle.server_end.specs.Hearing.{MayHearEnd, IsHeard}
use Rattle.net_driver.specs.Hearing.{verdict_for, handovers_for}
use Rattle.net_driver.proofs.Placing.{for_place, living_is, dead_is}
use Rattle.net_driver.proofs.CallHeard.{IsOnly, heard_by, other_stays}
use Rattle.net_driver.proofs.Fitting.{fits_turned, fits_got}
use Rattle.net_driver.proofs.Hearing.{hears}
use Rattle.net_driver.proofs.Ending.{closes}
use Rattle.net_driver.proofs.Seats.{turned_rising}

-- ---- what an end that is alive hears by

-- what was opened was opened as the class that it was spawned as
spawned_as : (table : Table) (edits : Edits) (past : Past) → AreThere table edits → AreOfWorld table edits past
    → AreSpawned table edits past
spawned_as table edits past there of a class opened =
    let is = of a class opened in
    by (spawn_of edits a) refl is.0 is.1
  where
    by : (o : Option Spawned) → spawn_of edits a ≡ o → (spawn_of edits a ≡ None → ⊥)
        → class ≡ class_in table (spawn_of edits a) → IsSpawnedAs table edits a class
    by None e some is = absurd (some e)
    by (Some spawned) e some is = record {
      spawned = spawned;
      spawn = e;
      within = there a spawned e;
      is = is ∙ ap (class_in table) e;
    }

calm : (table : Table) (t : Seat) → IsCalm (past_for table t)
calm table t = by t.lost
  where
    by : (b : Bool) → IsCalm (past_as b (end_for table t) t.feed)
    by true = λ ch. tt
    by false = feed_calm (end_for table t) t.feed refl

pub may_hear : (d : Drive) (s : Served) (e : ServerEnd) (t : Seat) → Serves d s
    → (lives : IsLiving (table_in d.layout) s.edits s.samples d.greatest e t)
    → MayHearEnd d.world e (end_for (table_in d.layout) t) s.edits (past_for (table_in d.layout) t) lives.before
may_hear d s e t h lives = record {
  side = refl;
  alive = lives.alive;
  world = h.world;
  opened = subst (λ (l : Layout). AreSpawned (table_in l) s.edits (past_for (table_in d.layout) t)) (sym h.layout)
      (spawned_as (table_in d.layout) s.edits (past_for (table_in d.layout) t) h.there lives.classes);
  stands = lives.stands;
  calm = calm (table_in d.layout) t;
}

-- the end of a player, and its seat
pub record IsHearer (d : Drive) (s : Served) (player key : ℕ) : Type 0 where
  pub end : ServerEnd
  pub seat : Seat
  pub at : end_at d.ends key ≡ Some end
  pub seat_at : seat_of s player ≡ Some seat
  pub lives : IsLiving (table_in d.layout) s.edits s.samples d.greatest end seat

pub hearer : (d : Drive) (s : Served) (player key : ℕ) → Serves d s
    → living_key (place_in d.chairs player) ≡ Some key → IsHearer d s player key
hearer d s player key h is =
    let f = for_place d s player (Living key) h (living_is (place_in d.chairs player) key is) in
    record { end = f.is.0; seat = f.seat; at = f.is.1; seat_at = f.at; lives = f.is.2 }

-- what the end under the key promises of the datagram
abbrev pub Takes : Drive → (key : ℕ) → (later : List (Option ServerEnd)) → List ℕ → Heard → Type 0
Takes d key later bytes h = (e : ServerEnd) (end : End) (edits : Edits) (past : Past) (samples : Samples)
    → end_at d.ends key ≡ Some e → MayHearEnd d.world e end edits past samples
    → (x : ServerEnd) × (end_at later key ≡ Some x)
    × IsHeard d.world.layout edits end past samples bytes e x h

-- ---- an end that lives on

got_living : (layout : Layout) (edits : Edits) (samples : Samples) (greatest : ℕ) (e x : ServerEnd) (t : Seat)
    (bytes : List ℕ) (h : Heard) (lives : IsLiving (table_in layout) edits samples greatest e t)
    (at : Layout) → h.closed ≡ None
    → IsHeard at edits (end_for (table_in layout) t) (past_for (table_in layout) t) lives.before bytes e x h
    → IsLiving (table_in layout) edits samples greatest x (heard (feed.Got bytes) t)
got_living layout edits samples greatest e x t bytes h lives at alone is =
    let past = past_for (table_in layout) t in
    let end = end_for (table_in layout) t in
    let same = hears (table_in layout) t (feed.Got bytes) lives.alive in
    record {
      player = is.player ∙ lives.player;
      alive = ap has_ended same ∙ is.alive alone;
      before = lives.before;
      extends = lives.extends;
      stands = subst (λ (p : Past). StandsEnd x end p lives.before) (sym same) (is.stands alone);
      classes = subst (AreOfWorld (table_in layout) edits) (sym same) (λ a class q.
          lives.classes a class (sym (class_alike past (after_got end past bytes) (got_acts end past bytes) a) ∙ q));
      count = omega (arith, lives.count, is.count);
    }

pub got_open : (d : Drive) (s : Served) (player key : ℕ) (bytes : List ℕ) (h : Heard)
    (later : List (Option ServerEnd)) → Serves d s → living_key (place_in d.chairs player) ≡ Some key
    → h.closed ≡ None → ((k : ℕ) → k ≢ key → end_at later k ≡ end_at d.ends k) → Takes d key later bytes h
    → Serves (record d { ends = later }) (with_seat (heard (feed.Got bytes)) player s)
got_open d s player key bytes h later serves key_is alone others takes =
    heard_by d s player d.greatest (feed.Got bytes) later serves
    (record { more = omega arith; others = λ k ne. others k (λ q. ne (key_is ∙ ap (λ (m : ℕ). Some m) (sym q))) }) own
    (λ t nt fit. fits_got (table_in d.layout) s.edits d.graves t bytes fit)
  where
    at_key : (t : Seat) → IsPlace (table_in d.layout) s.edits s.samples d.greatest d.ends t (Living key)
        → IsPlace (table_in d.layout) s.edits s.samples d.greatest later (heard (feed.Got bytes) t) (Living key)
    at_key t (e, at, lives) =
        let x = takes e (end_for (table_in d.layout) t) s.edits (past_for (table_in d.layout) t) lives.before at
        (may_hear d s e t serves lives) in (
          x.0,
          x.1,
          got_living d.layout s.edits s.samples d.greatest e x.0 t bytes h lives d.world.layout alone x.2,
        )

    own : (k : ℕ) (t : Seat) → t.number ≡ player → place_in d.chairs player ≡ Some (Living k)
        → IsPlace (table_in d.layout) s.edits s.samples d.greatest d.ends t (Living k)
        → (p : Place) × (p ≡ Living k)
        × IsPlace (table_in d.layout) s.edits s.samples d.greatest later (heard (feed.Got bytes) t) p
    own k t nt f i =
        let is : key ≡ k = same_Some key k (sym key_is ∙ ap living_key f) in (
          Living key,
          ap Living is,
          at_key t
              (subst (λ (k : ℕ). IsPlace (table_in d.layout) s.edits s.samples d.greatest d.ends t (Living k))
              (sym is) i),
        )

-- ---- an end that it closes

pub got_closed : (d : Drive) (s : Served) (player key top : ℕ) (bytes : List ℕ) (h : Heard)
    (between later : List (Option ServerEnd)) → Serves d s → living_key (place_in d.chairs player) ≡ Some key
    → h.closed ≡ Some top → ((k : ℕ) → k ≢ key → end_at later k ≡ end_at d.ends k) → Takes d key between bytes h
    → Serves (record d { ends = later; chairs = map (dead_for player top) d.chairs })
    (with_seat (heard (feed.Got bytes)) player s)
got_closed d s player key top bytes h between later serves key_is closed others takes = record {
  world = serves.world;
  layout = serves.layout;
  graph = serves.graph;
  changes = serves.changes;
  from_one = serves.from_one;
  there = serves.there;
  ticks = serves.ticks;
  sampled = serves.sampled;
  graves = serves.graves;
  fits = fits_turned (table_in d.layout) s.edits d.graves player (heard (feed.Got bytes))
      (λ t nt fit. fits_got (table_in d.layout) s.edits d.graves t bytes fit) s.seats serves.fits;
  seated = closes (table_in d.layout) s.edits s.samples d.greatest d.ends later player top (heard (feed.Got bytes))
      (other_stays d s player d.greatest later serves only) (Some (Living key)) own d.chairs s.seats
      (living_is (place_in d.chairs player) key key_is) serves.rising serves.seated;
  rising = turned_rising player (heard (feed.Got bytes)) (λ t. refl) s.seats serves.rising;
  few = omega (
    arith,
    serves.few,
    length-map s.seats
        (λ (t : Seat). if t.number == player then heard (feed.Got bytes) t else t),
  );
  kept = serves.kept;
}
  where
    only : IsOnly d player d.greatest later
    only = record {
      more = omega arith;
      others = λ k ne. others k (λ q. ne (key_is ∙ ap (λ (m : ℕ). Some m) (sym q)));
    }

    dead : (t : Seat) → IsPlace (table_in d.layout) s.edits s.samples d.greatest d.ends t (Living key)
        → IsPlace (table_in d.layout) s.edits s.samples d.greatest later (heard (feed.Got bytes) t) (Dead top)
    dead t (e, at, lives) =
        let x = takes e (end_for (table_in d.layout) t) s.edits (past_for (table_in d.layout) t) lives.before at
        (may_hear d s e t serves lives) in
        let same = hears (table_in d.layout) t (feed.Got bytes) lives.alive in
        (ap has_ended same ∙ x.2.closed top closed, x.2.top top closed ∙ sym (ap top_of same))

    own : (c : Chair) (t : Seat) → t.number ≡ player → (let o : Option Place = Some (Living key) in o) ≡ Some c.place
        → IsSeated (table_in d.layout) s.edits s.samples d.greatest d.ends c t
        → IsSeated (table_in d.layout) s.edits s.samples d.greatest later (record c { place = Dead top })
        (heard (feed.Got bytes) t)
    own c t nt q i = record {
      player = i.player;
      place = dead t (subst (λ (p : Place). IsPlace (table_in d.layout) s.edits s.samples d.greatest d.ends t p)
          (sym (same_Some (Living key) c.place q)) i.place);
    }

-- both in one: what a driver keeps once the end was closed, or wasn't
pub got : (d middle new : Drive) (s : Served) (player key : ℕ) (bytes : List ℕ) (h : Heard)
    → Serves d s → living_key (place_in d.chairs player) ≡ Some key
    → middle ≡ record d { ends = middle.ends }
    → ((k : ℕ) → k ≢ key → end_at middle.ends k ≡ end_at d.ends k) → Takes d key middle.ends bytes h
    → (h.closed ≡ None → new ≡ middle)
    → ((k : ℕ) → k ≢ key → end_at new.ends k ≡ end_at middle.ends k)
    → ((top : ℕ) → h.closed ≡ Some top → new.chairs ≡ map (dead_for player top) middle.chairs)
    → new ≡ record middle { ends = new.ends; chairs = new.chairs }
    → Serves new (with_seat (heard (feed.Got bytes)) player s)
got d middle new s player key bytes h serves key_is mid others takes alone ends chairs rest = by h.closed refl
  where
    by : (o : Option ℕ) → h.closed ≡ o → Serves new (with_seat (heard (feed.Got bytes)) player s)
    by None e = subst (λ (d : Drive). Serves d (with_seat (heard (feed.Got bytes)) player s)) (sym (alone e ∙ mid))
        (got_open d s player key bytes h middle.ends serves key_is e others takes)
    by (Some top) e = subst (λ (d : Drive). Serves d (with_seat (heard (feed.Got bytes)) player s))
        (sym (rest ∙ ap (λ (m : Drive). record m { ends = new.ends; chairs = new.chairs }) mid
        ∙ ap (λ (cs : List Chair). record d { ends = new.ends; chairs = cs }) (chairs top e
        ∙ ap (λ (m : Drive). map (dead_for player top) m.chairs) mid)))
        (got_closed d s player key top bytes h middle.ends new.ends serves key_is e
        (λ k ne. ends k ne ∙ others k ne) takes)

-- ---- what is answered

pub got_verdict : (d : Drive) (s : Served) (player key : ℕ) (later : List (Option ServerEnd)) (bytes : List ℕ)
    (h : Heard) (seat : Seat) → Serves d s → living_key (place_in d.chairs player) ≡ Some key
    → seat_of s player ≡ Some seat → Takes d key later bytes h
    → h.outcome.verdict ≡ verdict_for (table_in d.layout) seat bytes
got_verdict d s player key later bytes h seat serves key_is at takes =
    let x = hearer d s player key serves key_is in
    let t = takes x.end _ s.edits _ x.lives.before x.at (may_hear d s x.end x.seat serves x.lives) in
    t.2.verdict
    ∙ ap (λ (t : Seat). verdict_for (table_in d.layout) t bytes) (same_Some x.seat seat (sym x.seat_at ∙ at))

pub got_handed : (d : Drive) (s : Served) (player key : ℕ) (later : List (Option ServerEnd)) (bytes : List ℕ)
    (h : Heard) (seat : Seat) → Serves d s → living_key (place_in d.chairs player) ≡ Some key
    → seat_of s player ≡ Some seat → Takes d key later bytes h
    → map (handover_of d.layout) h.outcome.handed ≡ handovers_for (table_in d.layout) s.edits seat bytes
got_handed d s player key later bytes h seat serves key_is at takes =
    let x = hearer d s player key serves key_is in
    let t = takes x.end _ s.edits _ x.lives.before x.at (may_hear d s x.end x.seat serves x.lives) in
    ap (λ (l : Layout). map (handover_of l) h.outcome.handed) (sym serves.layout)
    ∙ t.2.handed
    ∙ ap (λ (n : ℕ). handovers (server_verdict s.edits n) (handed_by (end_for (table_in d.layout) x.seat)
    (past_for (table_in d.layout) x.seat) bytes)) x.lives.player
    ∙ ap (λ (t : Seat). handovers_for (table_in d.layout) s.edits t bytes) (same_Some x.seat seat (sym x.seat_at ∙ at))

-- ---- a dead end

pub dead_verdict : (d : Drive) (s : Served) (player : ℕ) (seat : Seat) (bytes : List ℕ) → Serves d s
    → seat_of s player ≡ Some seat → living_key (place_in d.chairs player) ≡ None
    → verdicts.Dead ≡ verdict_for (table_in d.layout) seat bytes
dead_verdict d s player seat bytes serves at none = rw (dead_is d s player seat serves at none) refl

none_by : (end : End) (past : Past) (bytes : List ℕ) → has_ended past ≡ true → [] ≡ handed_by end past bytes
none_by end past bytes e =
    let n : ℕ = length (delivered_of past) in
    let same : after_got end past bytes ≡ past = rw e refl in
    ap (λ (m : ℕ). reverse (take m (delivered_of past))) (let z : 0 ≡ n - n = omega arith in z)
    ∙ ap (λ (p : Past). reverse (take (length (delivered_of p) - n) (delivered_of p))) (sym same)

pub dead_handed : (d : Drive) (s : Served) (player : ℕ) (seat : Seat) (bytes : List ℕ) → Serves d s
    → seat_of s player ≡ Some seat → living_key (place_in d.chairs player) ≡ None
    → [] ≡ handovers_for (table_in d.layout) s.edits seat bytes
dead_handed d s player seat bytes serves at none =
    ap (handovers (server_verdict s.edits seat.number))
    (none_by (end_for (table_in d.layout) seat) (past_for (table_in d.layout) seat) bytes
    (dead_is d s player seat serves at none))

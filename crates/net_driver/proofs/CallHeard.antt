-- A player's seat with one more call, and its end.
use Rattle.std.proofs.Common.{◌≡◌, ◌≢◌, ℕ, ◌+◌, ◌≤◌, ◌==◌, List, Option, Some, refl, sym, ap, ◌∙◌, subst, arith, if◌then◌else◌}
use Rattle.std.proofs.lemmas.List.{length-map}
use Rattle.protocol_model.specs.Side.{AtServer}
use Rattle.protocol_model.specs.Value.{Table, Arg}
use Rattle.protocol_model.specs.World.{Edits}
use Rattle.connection_model.specs.Feed.{End, Event, Past, Ended, ByStall, has_ended}
use Rattle.connection_model.specs.Feed as feed
use Rattle.connection_model.specs.CallAnswers.{after_call}
use Rattle.class_layout.specs.Tables.{table_in}
use Rattle.shadow_changes.specs.Samples.{Samples}
use Rattle.server_end.specs.declared.server_end.ServerEnd.{ServerEnd}
use Rattle.net_driver.specs.declared.chair.Chair.{Chair}
use Rattle.net_driver.specs.declared.chair.Place.{Place}
use Rattle.net_driver.specs.declared.chair.Place.TheVariants.{Living, Dead}
use Rattle.net_driver.specs.Chairs.{place_in, living_key}
use Rattle.net_driver.specs.Served.{Seat, Served, with_seat, heard, past_for, end_for}
use Rattle.server_end.specs.Stands.{StandsEnd}
use Rattle.net_driver.specs.Ends.{end_at, AreOfWorld, IsLiving, IsPlace}
use Rattle.net_driver.specs.Serves.{Drive, Serves, SeatFits, IsSeated}
use Rattle.net_driver.proofs.Fitting.{fits_turned}
use Rattle.net_driver.proofs.Seats.{turns, turned_rising}
use Rattle.net_driver.proofs.Placing.{living_is, elsewhere}
use Rattle.net_driver.proofs.Hearing.{ignored, hears}
use Rattle.net_driver.proofs.Leaving.{call_opens_none}

-- ---- the others stay, though the greatest number may have grown

raised_living : (table : Table) (edits : Edits) (samples : Samples) (greatest raised : ℕ) (e : ServerEnd) (t : Seat)
    → greatest ≤ raised
    → IsLiving table edits samples greatest e t → IsLiving table edits samples raised e t
raised_living table edits samples greatest raised e t le h = record {
  player = h.player;
  alive = h.alive;
  before = h.before;
  extends = h.extends;
  stands = h.stands;
  classes = h.classes;
  count = omega (arith, h.count, le);
}

-- only the end of this player changed
pub record IsOnly (d : Drive) (player raised : ℕ) (later : List (Option ServerEnd)) : Type 0 where
  pub more : d.greatest ≤ raised
  pub others : (k : ℕ) → (living_key (place_in d.chairs player) ≡ Some k → ⊥) → end_at later k ≡ end_at d.ends k

pub other_stays : (d : Drive) (s : Served) (player raised : ℕ) (later : List (Option ServerEnd)) → Serves d s
    → IsOnly d player raised later
    → (c : Chair) (t : Seat) → t.number ≢ player → IsSeated (table_in d.layout) s.edits s.samples d.greatest d.ends c t
    → IsSeated (table_in d.layout) s.edits s.samples raised later c t
other_stays d s player raised later h only c t ne i = record { player = i.player; place = go c.place i.place }
  where
    go : (p : Place) → IsPlace (table_in d.layout) s.edits s.samples d.greatest d.ends t p
        → IsPlace (table_in d.layout) s.edits s.samples raised later t p
    go (Living k) (e, at, lives) = (
      e,
      only.others k
          (λ q. elsewhere d s player k h (living_is (place_in d.chairs player) k q) k e at (λ m. ne (sym lives.player
          ∙ m)) refl) ∙ at,
      raised_living (table_in d.layout) s.edits s.samples d.greatest raised e t only.more lives,
    )
    go (Dead top) i = i

-- a player's seat hears an event, and its end stands for it
pub heard_by : (d : Drive) (s : Served) (player raised : ℕ) (event : Event) (later : List (Option ServerEnd))
    → Serves d s → IsOnly d player raised later
    → ((k : ℕ) (t : Seat) → t.number ≡ player → place_in d.chairs player ≡ Some (Living k)
    → IsPlace (table_in d.layout) s.edits s.samples d.greatest d.ends t (Living k)
    → (p : Place) × (p ≡ Living k) × IsPlace (table_in d.layout) s.edits s.samples raised later (heard event t) p)
    → ((t : Seat) → t.number ≡ player → SeatFits (table_in d.layout) s.edits d.graves t
    → SeatFits (table_in d.layout) s.edits d.graves (heard event t))
    → Serves (record d { ends = later; greatest = raised }) (with_seat (heard event) player s)
heard_by d s player raised event later h only own fit = record {
  world = h.world;
  layout = h.layout;
  graph = h.graph;
  changes = h.changes;
  from_one = h.from_one;
  there = h.there;
  ticks = h.ticks;
  sampled = h.sampled;
  graves = h.graves;
  fits = fits_turned (table_in d.layout) s.edits d.graves player (heard event) fit s.seats h.fits;
  seated = turns (table_in d.layout) s.edits s.samples d.greatest raised d.ends later player (heard event)
      (place_in d.chairs player)
      (other_stays d s player raised later h only) mine d.chairs s.seats refl h.rising h.seated;
  rising = turned_rising player (heard event) (λ t. refl) s.seats h.rising;
  few = omega (arith, h.few, length-map s.seats (λ (t : Seat). if t.number == player then heard event t else t));
  kept = h.kept;
}
  where
    mine : (c : Chair) (t : Seat) → t.number ≡ player → place_in d.chairs player ≡ Some c.place
        → IsSeated (table_in d.layout) s.edits s.samples d.greatest d.ends c t
        → IsSeated (table_in d.layout) s.edits s.samples raised later c (heard event t)
    mine c t n f i = record { player = i.player; place = go c.place f i.place }
      where
        go : (p : Place) → place_in d.chairs player ≡ Some p
            → IsPlace (table_in d.layout) s.edits s.samples d.greatest d.ends t p
            → IsPlace (table_in d.layout) s.edits s.samples raised later (heard event t) p
        go (Living k) f i =
            let r = own k t n f i in
            subst (λ (p : Place). IsPlace (table_in d.layout) s.edits s.samples raised later (heard event t) p) r.1 r.2
        go (Dead top) f i =
            let e = ignored (table_in d.layout) t event i.0 in
            (ap has_ended e ∙ i.0, i.1 ∙ ap Rattle.connection_model.specs.Fates.top_of (sym e))

-- ---- calls

-- the end after a call, at the player's own place
pub call_living : (table : Table) (edits : Edits) (samples : Samples) (greatest : ℕ) (e later : ServerEnd) (t : Seat)
    (a n : ℕ) (args : List Arg)
    (h : IsLiving table edits samples greatest e t) → later.player ≡ e.player
    → StandsEnd later (end_for table t) (after_call AtServer (past_for table t) a n args) h.before
    → later.table.made.count ≤ e.table.made.count + 4096
    → IsLiving table edits samples (greatest + 8192) later (heard (feed.Call a n args) t)
call_living table edits samples greatest e later t a n args h named stands few =
    let left = call_opens_none (past_for table t) a n args h.alive in
    let is = hears table t (feed.Call a n args) h.alive in
    record {
      player = named ∙ h.player;
      alive = ap has_ended is ∙ left.alive ∙ h.alive;
      before = h.before;
      extends = h.extends;
      stands = subst (λ (p : Past). StandsEnd later (end_for table t) p h.before) (sym is) stands;
      classes = subst (AreOfWorld table edits) (sym is) (λ b class q. h.classes b class (sym (left.opened b) ∙ q));
      count = omega (arith, h.count, few);
    }

-- Where a player's end is, by the seat; and that it dies alone.
use Rattle.std.proofs.Common.{◌≡◌, ◌≢◌, ℕ, ◌==◌, List, [], ◌∷◌, map, Bool, true, false, cond, Option, Some, None, option_map, refl, sym, ap, ◌∙◌, subst, arith, if◌then◌else◌}
use Rattle.std.specs.Prelude.{find}
use Rattle.std.proofs.lemmas.Bool.{eqb-true, false≢true}
use Rattle.std.proofs.lemmas.Option.{same_Some, none-some}
use Rattle.std.proofs.lemmas.Bool.Decides.{nat_tests}
use Rattle.std.proofs.lemmas.List.{length-map}
use Rattle.connection_model.specs.Feed.{has_ended}
use Rattle.class_layout.specs.Tables.{table_in}
use Rattle.server_end.specs.declared.server_end.ServerEnd.{ServerEnd}
use Rattle.net_driver.specs.declared.chair.Chair.{Chair}
use Rattle.net_driver.specs.declared.chair.Place.{Place}
use Rattle.net_driver.specs.declared.chair.Place.TheVariants.{Living, Dead}
use Rattle.net_driver.specs.Chairs.{dead_for, place_in, living_key}
use Rattle.net_driver.specs.Served.{Seat, Served, seat_of, with_seat, lost_now, past_for, top_for}
use Rattle.net_driver.specs.Ends.{end_at, IsPlace}
use Rattle.net_driver.specs.Serves.{Drive, Serves, IsSeated}
use Rattle.net_driver.proofs.Fitting.{fits_turned, fits_lost}
use Rattle.net_driver.proofs.Seats.{found, AreFound, again, turned_rising}

-- the seat of a player whose end is at this place
pub record IsFor (d : Drive) (s : Served) (player : ℕ) (place : Place) : Type 0 where
  pub seat : Seat
  pub at : seat_of s player ≡ Some seat
  pub number : seat.number ≡ player
  pub is : IsPlace (table_in d.layout) s.edits s.samples d.greatest d.ends seat place

passes : {A : Type 0} (test : A → Bool) (xs : List A) (x : A) → find test xs ≡ Some x → test x ≡ true
passes test [] x e = absurd (none-some x e)
passes test (y ∷ xs) x e = go (test y) refl e (passes test xs x)
  where
    go : (b : Bool) → test y ≡ b → cond b (Some y) (find test xs) ≡ Some x → (find test xs ≡ Some x → test x ≡ true)
        → test x ≡ true
    go true q f ih = subst (λ z. test z ≡ true) (same_Some y x f) q
    go false q f ih = ih f

pub for_place : (d : Drive) (s : Served) (player : ℕ) (place : Place) → Serves d s
    → place_in d.chairs player ≡ Some place → IsFor d s player place
for_place d s player place h e =
    go (find (λ (c : Chair). c.player == player) d.chairs) (find (λ (t : Seat). t.number == player) s.seats) refl
    (found (table_in d.layout) s.edits s.samples d.greatest d.ends d.chairs s.seats player h.seated) e
  where
    go : (c : Option Chair) (o : Option Seat) → find (λ (t : Seat). t.number == player) s.seats ≡ o
        → AreFound (table_in d.layout) s.edits s.samples d.greatest d.ends c o
        → option_map (λ (c : Chair). c.place) c ≡ Some place → IsFor d s player place
    go None o q f e = absurd (none-some place e)
    go (Some c) None q f e = absurd f
    go (Some c) (Some t) q f e = record {
      seat = t;
      at = q;
      number = eqb-true t.number player (passes (λ (t : Seat). t.number == player) s.seats t q);
      is = subst (λ (p : Place). IsPlace (table_in d.layout) s.edits s.samples d.greatest d.ends t p)
          (same_Some c.place place e) f.place;
    }

-- a player who joined has a place
pub some_place : (d : Drive) (s : Served) (player : ℕ) (seat : Seat) → Serves d s → seat_of s player ≡ Some seat
    → (place : Place) × (place_in d.chairs player ≡ Some place)
some_place d s player seat h e =
    go (find (λ (c : Chair). c.player == player) d.chairs) (find (λ (t : Seat). t.number == player) s.seats) e
    (found (table_in d.layout) s.edits s.samples d.greatest d.ends d.chairs s.seats player h.seated)
  where
    go : (c : Option Chair) (o : Option Seat) → o ≡ Some seat
        → AreFound (table_in d.layout) s.edits s.samples d.greatest d.ends c o → (place : Place)
        × (option_map (λ (c : Chair). c.place) c ≡ Some place)
    go None None e f = absurd (none-some seat e)
    go None (Some t) e f = absurd f
    go (Some c) o e f = (c.place, refl)

pub living_is : (o : Option Place) (key : ℕ) → living_key o ≡ Some key → o ≡ Some (Living key)
living_is (Some (Living k)) key e = ap (λ (n : ℕ). Some (Living n)) (same_Some k key e)
living_is (Some (Dead top)) key e = absurd (none-some key e)
living_is None key e = absurd (none-some key e)

-- the greatest number that an end took
pub top_is : (d : Drive) (s : Served) (seat : Seat) (player top : ℕ) → Serves d s → seat_of s player ≡ Some seat
    → ((k : ℕ) (e : ServerEnd) → place_in d.chairs player ≡ Some (Living k) → end_at d.ends k ≡ Some e
    → top ≡ e.link.book.top)
    → ((t : ℕ) → place_in d.chairs player ≡ Some (Dead t) → top ≡ t)
    → top ≡ top_for (table_in d.layout) seat
top_is d s seat player top h at living dead =
    let place = some_place d s player seat h at in
    go place.0 place.1
  where
    go : (p : Place) → place_in d.chairs player ≡ Some p → top ≡ top_for (table_in d.layout) seat
    go p e = by p (for_place d s player p h e) e
      where
        by : (p : Place) → IsFor d s player p → place_in d.chairs player ≡ Some p
            → top ≡ top_for (table_in d.layout) seat
        by (Living k) f e =
            living k f.is.0 e f.is.1 ∙ f.is.2.stands.link.book.top
            ∙ ap (top_for (table_in d.layout)) (same_Some f.seat seat (sym f.at ∙ at))
        by (Dead t) f e = dead t e ∙ f.is.1 ∙ ap (top_for (table_in d.layout)) (same_Some f.seat seat (sym f.at ∙ at))

-- ---- another player's end is elsewhere

pub elsewhere : (d : Drive) (s : Served) (player key : ℕ) → Serves d s → place_in d.chairs player ≡ Some (Living key)
    → (k : ℕ) (e : ServerEnd) → end_at d.ends k ≡ Some e → e.player ≢ player → key ≢ k
elsewhere d s player key h place k e at other q =
    let f = for_place d s player (Living key) h place in
    let same : f.is.0 ≡ e = same_Some f.is.0 e (sym f.is.1 ∙ ap (end_at d.ends) q ∙ at) in
    other (ap (λ (e : ServerEnd). e.player) (sym same) ∙ f.is.2.player ∙ f.number)

-- want of memory ends an end, and all else stays
pub died : (d : Drive) (s : Served) (player : ℕ) (later : List (Option ServerEnd)) → Serves d s
    → ((k : ℕ) → (living_key (place_in d.chairs player) ≡ Some k → ⊥) → end_at later k ≡ end_at d.ends k)
    → Serves (record d { ends = later; chairs = map (dead_for player 0) d.chairs }) (with_seat lost_now player s)
died d s player later h stay = record {
  world = h.world;
  layout = h.layout;
  graph = h.graph;
  changes = h.changes;
  from_one = h.from_one;
  there = h.there;
  ticks = h.ticks;
  sampled = h.sampled;
  graves = h.graves;
  fits = fits_turned (table_in d.layout) s.edits d.graves player lost_now (λ t nt fit. fits_lost (table_in d.layout) s.edits d.graves t fit) s.seats h.fits;
  seated = again (table_in d.layout) s.edits s.edits s.samples s.samples d.greatest d.greatest d.ends later
      (dead_for player 0)
      (λ (t : Seat). if t.number == player then lost_now t else t) each d.chairs s.seats h.seated;
  rising = turned_rising player lost_now (λ t. refl) s.seats h.rising;
  few = omega (arith, h.few, length-map s.seats (λ (t : Seat). if t.number == player then lost_now t else t));
  kept = h.kept;
}
  where
    other : (t : Seat) (p : Place) → t.number ≢ player
        → IsPlace (table_in d.layout) s.edits s.samples d.greatest d.ends t p
        → IsPlace (table_in d.layout) s.edits s.samples d.greatest later t p
    other t (Living k) ne (e, at, lives) = (
      e,
      stay k
          (λ q. elsewhere d s player k h (living_is (place_in d.chairs player) k q) k e at (λ m. ne (sym lives.player
          ∙ m)) refl) ∙ at,
      lives,
    )
    other t (Dead top) ne i = i

    each : (c : Chair) (t : Seat) → IsSeated (table_in d.layout) s.edits s.samples d.greatest d.ends c t
        → IsSeated (table_in d.layout) s.edits s.samples d.greatest later (dead_for player 0 c)
        (if t.number == player then lost_now t else t)
    each c t i = go (c.player == player) (t.number == player) (ap (λ m. m == player) i.player) refl
      where
        go : (a b : Bool) → a ≡ b → (t.number == player) ≡ b
            → IsSeated (table_in d.layout) s.edits s.samples d.greatest later (cond a (record c { place = Dead 0 }) c)
            (cond b (lost_now t) t)
        go true true e q = record { player = i.player; place = (refl, refl) }
        go true false e q = absurd (cc)
        go false true e q = absurd (cc)
        go false false e q = record {
          player = i.player;
          place = other t c.place (λ m. false≢true (sym q
              ∙ yes t.number m)) i.place;
        }
          where
            yes : (n : ℕ) → n ≡ player → (n == player) ≡ true
            yes n m = grind (arith, nat_tests)

pub dies : (d new : Drive) (s : Served) (player : ℕ) (key : Option ℕ) → Serves d s
    → key ≡ living_key (place_in d.chairs player)
    → ((k : ℕ) → (key ≡ Some k → ⊥) → end_at new.ends k ≡ end_at d.ends k)
    → new.chairs ≡ map (dead_for player 0) d.chairs
    → new ≡ record d { ends = new.ends; chairs = new.chairs } → Serves new (with_seat lost_now player s)
dies d new s player key h is stay chairs rest =
    subst (λ (e : Drive). Serves e (with_seat lost_now player s))
    (sym (rest ∙ ap (λ (cs : List Chair). record d { ends = new.ends; chairs = cs }) chairs))
    (died d s player new.ends h (λ k ne. stay k (λ q. ne (sym is ∙ q))))

-- a player without a living end has a dead one
pub dead_is : (d : Drive) (s : Served) (player : ℕ) (seat : Seat) → Serves d s → seat_of s player ≡ Some seat
    → living_key (place_in d.chairs player) ≡ None → has_ended (past_for (table_in d.layout) seat) ≡ true
dead_is d s player seat h at none =
    let place = some_place d s player seat h at in
    by place.0 place.1 (for_place d s player place.0 h place.1)
  where
    by : (p : Place) → place_in d.chairs player ≡ Some p → IsFor d s player p
        → has_ended (past_for (table_in d.layout) seat) ≡ true
    by (Living k) e f = absurd (none-some k (sym none ∙ ap living_key e))
    by (Dead t) e f = ap (λ (t : Seat). has_ended (past_for (table_in d.layout) t)) (same_Some seat f.seat (sym at
        ∙ f.at)) ∙ f.is.0

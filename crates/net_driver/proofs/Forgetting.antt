-- Graves of actors of which nothing is left are dropped.
use Rattle.std.proofs.Common.{◌≡◌, ℕ, zero, suc, ◌+◌, ◌≤◌, ◌==◌, List, [], ◌∷◌, drop, length, Bool, true, false, cond, ◌&&◌, ◌||◌, not, Option, Some, None, refl, sym, ap, ◌∙◌, subst, arith}
use Rattle.std.specs.Prelude.{slice_get, filter}
use Rattle.std.specs.List.{AllByRecursion}
use Rattle.std.proofs.lemmas.Bool.{false≢true, eqb-true, and_from}
use Rattle.std.proofs.lemmas.Option.{none-some, same_Some}
use Rattle.protocol_model.specs.Value.{Table}
use Rattle.protocol_model.specs.World.{Edits}
use Rattle.connection_model.specs.Feed.{Past, has_ended}
use Rattle.connection_model.specs.State.{ActorState, state_of, is_closed}
use Rattle.class_layout.specs.Tables.{Layout, table_in}
use Rattle.shadow_changes.specs.Samples.{Samples}
use Rattle.sender_steps.specs.Stands.{Keeps}
use Rattle.driver_sights.specs.declared.graves.Grave.{Grave}
use Rattle.driver_sights.specs.Graves.{AreOnce, IsGrave, is_buried}
use Rattle.server_end.specs.declared.server_end.ServerEnd.{ServerEnd}
use Rattle.net_driver.specs.declared.chair.Chair.{Chair}
use Rattle.net_driver.specs.declared.chair.Place.{Place}
use Rattle.net_driver.specs.declared.chair.Place.TheVariants.{Living, Dead}
use Rattle.net_driver.specs.Chairs.{living_key}
use Rattle.net_driver.specs.Served.{Seat, Served, past_for}
use Rattle.net_driver.specs.Ends.{end_at, IsPlace}
use Rattle.net_driver.specs.Serves.{Drive, Serves, SeatFits, IsSeated, AreSeated}
use Rattle.net_driver.specs.Sights.{is_open_for, is_left_for}
use Rattle.net_driver.proofs.Fitting.{fits_graves}

-- ---- at one end

-- at a dead end nothing is left
pub dead_left : (table : Table) (edits : Edits) (samples : Samples) (greatest : ℕ) (ends : List (Option ServerEnd))
    (t : Seat) (p : Place) (a : ℕ) → IsPlace table edits samples greatest ends t p → living_key (Some p) ≡ None
    → false ≡ is_open_for table a t
dead_left table edits samples greatest ends t (Living key) a h e = absurd (none-some key (sym e))
dead_left table edits samples greatest ends t (Dead top) a h e = rw (h.0) refl

-- a key has an end
pub key_has : (table : Table) (edits : Edits) (samples : Samples) (greatest : ℕ) (ends : List (Option ServerEnd))
    (t : Seat) (p : Place) (key : ℕ) → IsPlace table edits samples greatest ends t p → living_key (Some p) ≡ Some key
    → IsPlace table edits samples greatest ends t (Living key)
key_has table edits samples greatest ends t (Living k) key h e =
    subst (λ (n : ℕ). IsPlace table edits samples greatest ends t (Living n)) (same_Some k key e) h
key_has table edits samples greatest ends t (Dead top) key h e = absurd (none-some key e)

-- at a living end what its sender says
pub living_left : (table : Table) (edits : Edits) (samples : Samples) (greatest : ℕ) (ends : List (Option ServerEnd))
    (t : Seat) (key a : ℕ) (e : ServerEnd) (state : ActorState)
    → IsPlace table edits samples greatest ends t (Living key) → end_at ends key ≡ Some e
    → ((past : Past) (before : Samples) → Keeps e.sender past before → state ≡ state_of past a)
    → not (is_closed state) ≡ is_open_for table a t
living_left table edits samples greatest ends t key a e state (f, at, l) found says =
    let same : f ≡ e = same_Some f e (sym at ∙ found) in
    let keeps = subst (λ (x : ServerEnd). Keeps x.sender (past_for table t) l.before) same l.stands.sender in
    ap (λ (x : ActorState). not (is_closed x)) (says (past_for table t) l.before keeps)
    ∙ ap (λ (b : Bool). not b && not (is_closed (state_of (past_for table t) a))) (sym l.alive)

-- ---- at each in turn

-- the seat of a chair in its place
pub record IsNext (table : Table) (edits : Edits) (samples : Samples) (greatest : ℕ) (ends : List (Option ServerEnd))
    (i : ℕ) (c : Chair) (seats : List Seat) : Type 0 where
  pub seat : Seat
  pub at : slice_get seats i ≡ Some seat
  pub front : drop i seats ≡ seat ∷ drop (suc i) seats
  pub seated : IsSeated table edits samples greatest ends c seat

pub next_seat : (table : Table) (edits : Edits) (samples : Samples) (greatest : ℕ) (ends : List (Option ServerEnd))
    (i : ℕ) (c : Chair) (chairs : List Chair) (seats : List Seat)
    → AreSeated table edits samples greatest ends chairs seats → slice_get chairs i ≡ Some c
    → IsNext table edits samples greatest ends i c seats
next_seat table edits samples greatest ends i c [] [] h e = absurd (none-some c e)
next_seat table edits samples greatest ends i c [] (t ∷ seats) h e = absurd h
next_seat table edits samples greatest ends i c (x ∷ chairs) [] h e = absurd h
next_seat table edits samples greatest ends zero c (x ∷ chairs) (t ∷ seats) h e = record {
  seat = t;
  at = refl;
  front = refl;
  seated = subst (λ (y : Chair). IsSeated table edits samples greatest ends y t) (same_Some x c e) h.0;
}
next_seat table edits samples greatest ends (suc i) c (x ∷ chairs) (t ∷ seats) h e =
    let n = next_seat table edits samples greatest ends i c chairs seats h.1 e in
    record { seat = n.seat; at = n.at; front = n.front; seated = n.seated }

-- the first that are left, and the rest
pub left_here : (table : Table) (a i : ℕ) (t : Seat) (seats : List Seat) → drop i seats ≡ t ∷ drop (suc i) seats
    → is_open_for table a t ≡ true → is_left_for table (drop i seats) a ≡ true
left_here table a i t seats front e =
    ap (λ (l : List Seat). is_left_for table l a) front
    ∙ ap (λ (b : Bool). b || is_left_for table (drop (suc i) seats) a) e

pub left_there : (table : Table) (a i : ℕ) (t : Seat) (seats : List Seat) → drop i seats ≡ t ∷ drop (suc i) seats
    → is_open_for table a t ≡ false → is_left_for table (drop i seats) a ≡ is_left_for table (drop (suc i) seats) a
left_there table a i t seats front e =
    ap (λ (l : List Seat). is_left_for table l a) front
    ∙ ap (λ (b : Bool). b || is_left_for table (drop (suc i) seats) a) e

pub left_next : (table : Table) (a i next : ℕ) (t : Seat) (seats : List Seat) → next ≡ i + 1
    → drop i seats ≡ t ∷ drop (suc i) seats → is_open_for table a t ≡ false
    → is_left_for table (drop i seats) a ≡ is_left_for table (drop next seats) a
left_next table a i next t seats more front e =
    left_there table a i t seats front e ∙ ap (λ (k : ℕ). is_left_for table (drop k seats) a) (follows i next more)
  where
    follows : (n next : ℕ) → next ≡ n + 1 → suc n ≡ next
    follows n next q = omega (arith, q)

pub none_left : (table : Table) (a n : ℕ) (seats : List Seat) → length seats ≤ n
    → is_left_for table (drop n seats) a ≡ false
none_left table a zero [] le = refl
none_left table a (suc n) [] le = refl
none_left table a zero (t ∷ seats) le = absurd (omega (arith, le))
none_left table a (suc n) (t ∷ seats) le = none_left table a n seats (omega (arith, le))

-- ---- the graves that stay

-- those of which the test says so
abbrev pub staying : (ℕ → Bool) → List Grave → List Grave
staying test graves = filter (λ (g : Grave). test g.actor) graves

each_stays : (layout : Layout) (edits : Edits) (test : ℕ → Bool) (graves : List Grave)
    → AllByRecursion (IsGrave layout edits) graves → AllByRecursion (IsGrave layout edits) (staying test graves)
each_stays layout edits test [] h = tt
each_stays layout edits test (g ∷ graves) h = by (test g.actor) (each_stays layout edits test graves h.1)
  where
    by : (b : Bool) → AllByRecursion (IsGrave layout edits) (staying test graves)
        → AllByRecursion (IsGrave layout edits) (cond b (g ∷ staying test graves) (staying test graves))
    by true ih = (h.0, ih)
    by false ih = ih

none_more : (test : ℕ → Bool) (graves : List Grave) (a : ℕ) → is_buried graves a ≡ false
    → is_buried (staying test graves) a ≡ false
none_more test [] a e = refl
none_more test (g ∷ graves) a e = by (g.actor == a) refl e (test g.actor) (λ q. none_more test graves a q)
  where
    by : (q : Bool) → (g.actor == a) ≡ q → (q || is_buried graves a) ≡ false → (b : Bool)
        → (is_buried graves a ≡ false → is_buried (staying test graves) a ≡ false)
        → is_buried (cond b (g ∷ staying test graves) (staying test graves)) a ≡ false
    by true q e b ih = absurd (false≢true (sym e))
    by false q e true ih = ap (λ (x : Bool). x || is_buried (staying test graves) a) q ∙ ih e
    by false q e false ih = ih e

once_stay : (test : ℕ → Bool) (graves : List Grave) → AreOnce graves → AreOnce (staying test graves)
once_stay test [] h = tt
once_stay test (g ∷ graves) h = by (test g.actor) (once_stay test graves h.1)
  where
    by : (b : Bool) → AreOnce (staying test graves)
        → AreOnce (cond b (g ∷ staying test graves) (staying test graves))
    by true ih = (none_more test graves g.actor h.0, ih)
    by false ih = ih

-- a grave that passes the test stays
stays : (test : ℕ → Bool) (graves : List Grave) (a : ℕ) → is_buried graves a ≡ true → test a ≡ true
    → is_buried (staying test graves) a ≡ true
stays test [] a e t = e
stays test (g ∷ graves) a e t = by (g.actor == a) refl e (test g.actor) refl (λ q. stays test graves a q t)
  where
    or_true : (b : Bool) → (b || true) ≡ true
    or_true true = refl
    or_true false = refl

    by : (q : Bool) → (g.actor == a) ≡ q → (q || is_buried graves a) ≡ true → (b : Bool) → test g.actor ≡ b
        → (is_buried graves a ≡ true → is_buried (staying test graves) a ≡ true)
        → is_buried (cond b (g ∷ staying test graves) (staying test graves)) a ≡ true
    by true q e true r ih = ap (λ (x : Bool). x || is_buried (staying test graves) a) q
    by true q e false r ih = absurd (false≢true (sym r ∙ ap test (eqb-true g.actor a q) ∙ t))
    by false q e true r ih = ap (λ (x : Bool). (g.actor == a) || x) (ih e) ∙ or_true (g.actor == a)
    by false q e false r ih = ih e

-- ---- the driver

left_of : (table : Table) (seats : List Seat) (i a : ℕ) (t : Seat) → slice_get seats i ≡ Some t
    → is_open_for table a t ≡ true → is_left_for table seats a ≡ true
left_of table [] i a t e o = absurd (none-some t e)
left_of table (x ∷ seats) zero a t e o =
    ap (λ (b : Bool). b || is_left_for table seats a) (ap (is_open_for table a) (same_Some x t e) ∙ o)
left_of table (x ∷ seats) (suc i) a t e o = or_right (is_open_for table a x) (left_of table seats i a t e o)
  where
    or_right : (b : Bool) → is_left_for table seats a ≡ true → (b || is_left_for table seats a) ≡ true
    or_right true q = refl
    or_right false q = q

fits_all : (table : Table) (edits : Edits) (graves : List Grave) (all seats : List Seat)
    → ((i : ℕ) (t : Seat) → slice_get seats i ≡ Some t → (a : ℕ) → is_open_for table a t ≡ true
    → is_left_for table all a ≡ true)
    → AllByRecursion (SeatFits table edits graves) seats
    → AllByRecursion (SeatFits table edits (staying (is_left_for table all) graves)) seats
fits_all table edits graves all [] within h = tt
fits_all table edits graves all (t ∷ seats) within h = (
  fits_graves table edits graves (staying (is_left_for table all) graves) t h.0
      (λ alive a buried ajar. stays (is_left_for table all) graves a buried
      (within 0 t refl a (and_from (not (has_ended (past_for table t))) (not (is_closed (state_of (past_for table t) a)))
      (ap not alive) (ap not ajar)))),
  fits_all table edits graves all seats (λ i u e. within (suc i) u e) h.1,
)

pub forgotten : (d new : Drive) (s : Served) → Serves d s
    → new.graves ≡ filter (λ (g : Grave). is_left_for (table_in d.layout) s.seats g.actor) d.graves
    → new ≡ record d { graves = new.graves } → Serves new s
forgotten d new s h left is =
    subst (λ (x : Drive). Serves x s) (sym is) (subst (λ (gs : List Grave). Serves (record d { graves = gs }) s)
    (sym left) (record {
      world = h.world;
      layout = h.layout;
      graph = h.graph;
      changes = h.changes;
      from_one = h.from_one;
      there = h.there;
      ticks = h.ticks;
      sampled = h.sampled;
      graves = record {
        each = each_stays d.layout s.edits (is_left_for (table_in d.layout) s.seats) d.graves h.graves.each;
        once = once_stay (is_left_for (table_in d.layout) s.seats) d.graves h.graves.once;
      };
      seated = h.seated;
      fits = fits_all (table_in d.layout) s.edits d.graves s.seats s.seats
          (λ i t e a o. left_of (table_in d.layout) s.seats i a t e o) h.fits;
      rising = h.rising;
      few = h.few;
      kept = h.kept;
    }))

pub seated_list : (d : Drive) (s : Served) (chairs : List Chair) → Serves d s → chairs ≡ d.chairs
    → AreSeated (table_in d.layout) s.edits s.samples d.greatest d.ends chairs s.seats
seated_list d s chairs h e =
    subst (λ (cs : List Chair). AreSeated (table_in d.layout) s.edits s.samples d.greatest d.ends cs s.seats) (sym e)
    h.seated

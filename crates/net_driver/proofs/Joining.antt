-- A player joins.
use Rattle.std.proofs.Common.{◌≡◌, ◌≢◌, ℕ, suc, ◌<◌, ◌≤◌, ◌==◌, List, [], ◌∷◌, length, Bool, true, false, cond, Option, Some, None, option_map, refl, sym, ap, ◌∙◌, subst, arith, append-nil}
use Rattle.std.specs.Prelude.{find, is_some, nat_lt, slice_index_or}
use Rattle.protocol_model.specs.declared.Version.{Version}
use Rattle.protocol_model.specs.Limits.{connection_limit}
use Rattle.protocol_model.specs.Search.{insert_in_order}
use Rattle.connection_model.specs.Feed.{End}
use Rattle.class_layout.specs.Tables.{table_in}
use Rattle.sender_steps.specs.Stands.{Stands}
use Rattle.server_end.specs.declared.server_end.ServerEnd.{ServerEnd}
use Rattle.net_driver.specs.declared.chair.Chair.{Chair}
use Rattle.net_driver.specs.declared.chair.Place.{Place}
use Rattle.net_driver.specs.declared.chair.Place.TheVariants.{Living, Dead}
use Rattle.net_driver.specs.Chairs.{sits_before, place_in}
use Rattle.net_driver.specs.Served.{Seat, Served, has_joined, new_seat, with_joined, end_for}
use Rattle.net_driver.specs.Ends.{end_at, IsLiving, IsPlace}
use Rattle.net_driver.specs.Serves.{Drive, Serves, IsSeated, AreSeated}
use Rattle.net_driver.proofs.Fitting.{fits_joined, fits_new}
use Rattle.net_driver.proofs.Seats.{count, found, AreFound, still, one_more, joined_rising}

-- the player has a chair exactly where it joined
pub joined_is : (d : Drive) (s : Served) (n : ℕ) → Serves d s
    → is_some (place_in d.chairs n) ≡ has_joined s n
joined_is d s n h =
    go (find (λ (c : Chair). c.player == n) d.chairs) (find (λ (s : Seat). s.number == n) s.seats)
    (found (table_in d.layout) s.edits s.samples d.greatest d.ends d.chairs s.seats n h.seated)
  where
    go : (c : Option Chair) (o : Option Seat) → AreFound (table_in d.layout) s.edits s.samples d.greatest d.ends c o
        → is_some (option_map (λ (c : Chair). c.place) c) ≡ is_some o
    go None None f = refl
    go None (Some t) f = absurd f
    go (Some c) None f = absurd f
    go (Some c) (Some t) f = refl

pub chairs_are : (d : Drive) (s : Served) → Serves d s → length d.chairs ≡ length s.seats
chairs_are d s h = count (table_in d.layout) s.edits s.samples d.greatest d.ends d.chairs s.seats h.seated

-- a new end stands under a key that was free
pub record IsTaken (ends later : List (Option ServerEnd)) (key : ℕ) (e : ServerEnd) : Type 0 where
  pub free : slice_index_or ends key None ≡ None
  pub changed : slice_index_or later key None ≡ Some e
  pub others : (other : ℕ) → other ≢ key → slice_index_or later other None ≡ slice_index_or ends other None

-- the chairs that were there stay right
kept : (d : Drive) (s : Served) (later : List (Option ServerEnd)) (key : ℕ) (e : ServerEnd) → IsTaken d.ends later key e
    → (c : Chair) (t : Seat) → IsSeated (table_in d.layout) s.edits s.samples d.greatest d.ends c t
    → IsSeated (table_in d.layout) s.edits s.samples d.greatest later c t
kept d s later key e taken c t h = record { player = h.player; place = go c.place h.place }
  where
    other : (k : ℕ) (f : ServerEnd) → end_at d.ends k ≡ Some f → k ≢ key
    other k f at q = absurd (let no : (let o : Option ServerEnd = None in o) ≡ Some f = sym taken.free
        ∙ ap (end_at d.ends) (sym q) ∙ at in cc)

    go : (p : Place) → IsPlace (table_in d.layout) s.edits s.samples d.greatest d.ends t p
        → IsPlace (table_in d.layout) s.edits s.samples d.greatest later t p
    go (Living k) (f, at, lives) = (f, taken.others k (other k f at) ∙ at, lives)
    go (Dead top) h = h

-- a driver with one more end, under a key that was free
pub seated : (d : Drive) (s : Served) (player budget : ℕ) (version : Version) (key : ℕ) (e : ServerEnd)
    (later : List (Option ServerEnd)) (chairs : List Chair)
    → IsTaken d.ends later key e → e.player ≡ player → e.table.made.count ≡ 0
    → ((end : End) → end.budget ≡ budget → end.version ≡ version → Stands e.sender e.link e.table end [] [])
    → chairs ≡ insert_in_order sits_before (record { player = player; place = Living key }) d.chairs
    → 1 ≤ budget → Serves d s → has_joined s player ≡ false → length s.seats < connection_limit
    → Serves (record d { ends = later; chairs = chairs }) (with_joined (new_seat player budget version) s)
seated d s player budget version key e later chairs taken named none stands put least h fresh few = record {
  world = h.world;
  layout = h.layout;
  graph = h.graph;
  changes = h.changes;
  from_one = h.from_one;
  there = h.there;
  ticks = h.ticks;
  sampled = h.sampled;
  graves = h.graves;
  fits = fits_joined (table_in d.layout) s.edits d.graves new s.seats
      (fits_new (table_in d.layout) s.edits d.graves player budget version least) h.fits;
  seated = subst
      (λ (cs : List Chair). AreSeated (table_in d.layout) s.edits s.samples d.greatest later cs
      (with_joined new s).seats) (sym put)
      (one_more (table_in d.layout) s.edits s.samples d.greatest later
      (record { player = player; place = Living key }) new d.chairs s.seats
      (record { player = refl; place = (e, taken.changed, living) })
      (still (table_in d.layout) s.edits s.edits s.samples s.samples d.greatest d.greatest d.ends later
      (kept d s later key e taken) d.chairs s.seats h.seated));
  rising = joined_rising new s.seats fresh h.rising;
  few = omega (arith, longer new s.seats, few);
  kept = h.kept;
}
  where
    new : Seat
    new = new_seat player budget version

    living : IsLiving (table_in d.layout) s.edits s.samples d.greatest e new
    living = record {
      player = named;
      alive = refl;
      before = [];
      extends = record { later = s.samples; behind = sym (append-nil s.samples); newer = h.from_one };
      stands = stands (end_for (table_in d.layout) new) refl refl;
      classes = λ a class e. absurd (cc);
      count = omega (arith, none);
    }

    longer : (t : Seat) (seats : List Seat)
        → length (insert_in_order (λ (one : Seat) (two : Seat). nat_lt one.number two.number) t seats)
        ≡ suc (length seats)
    longer t [] = refl
    longer t (u ∷ seats) = by (nat_lt u.number t.number) (longer t seats)
      where
        by : (b : Bool)
            → length (insert_in_order (λ (one : Seat) (two : Seat). nat_lt one.number two.number) t seats)
            ≡ suc (length seats)
            → length
            (cond b (u ∷ insert_in_order (λ (one : Seat) (two : Seat). nat_lt one.number two.number) t seats)
            (t ∷ u ∷ seats)) ≡ suc (suc (length seats))
        by true ih = ap suc ih
        by false ih = refl

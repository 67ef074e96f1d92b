-- All ends tick, one after the other.
use Rattle.std.proofs.Common.{◌≡◌, ℕ, zero, suc, ◌+◌, ◌<◌, ◌≤◌, ◌==◌, List, [], ◌∷◌, ◌++◌, map, length, take, false, Option, Some, refl, sym, ap, ◌∙◌, subst, arith}
use Rattle.std.specs.Prelude.{find, slice_get}
use Rattle.std.proofs.lemmas.Bool.{eq-eqb, ne_eqb}
use Rattle.std.proofs.lemmas.List.{map-append}
use Rattle.std.proofs.lemmas.Option.{same_Some, none-some}
use Rattle.protocol_model.specs.Value.{Table}
use Rattle.protocol_model.specs.World.{Edits}
use Rattle.connection_model.specs.Feed.{has_ended}
use Rattle.class_layout.specs.Tables.{Layout, table_in}
use Rattle.shadow_changes.specs.Samples.{Samples}
use Rattle.sender_steps.specs.declared.sight.Seen.{Seen}
use Rattle.driver_sights.specs.declared.graves.Grave.{Grave}
use Rattle.server_end.specs.declared.server_end.ServerEnd.{ServerEnd}
use Rattle.net_driver.specs.declared.chair.Chair.{Chair}
use Rattle.net_driver.specs.declared.report.PlayerTick.{PlayerTick}
use Rattle.net_driver.specs.Chairs.{place_in}
use Rattle.net_driver.specs.Served.{Seat, Served, TickOf, with_seat, past_for, ticked, tick_of, with_all_ticked}
use Rattle.net_driver.specs.Serves.{Drive, Serves, AreSeated, AreAbove, AreRising}
use Rattle.net_driver.specs.Sights.{IsSightFor, AreSightsFor, IsSending}
use Rattle.net_driver.specs.Ticks.{tick_value}
use Rattle.net_driver.proofs.Forgetting.{next_seat}
use Rattle.net_driver.proofs.LookChain.{take_more, take_whole}
use Rattle.net_driver.proofs.Sending.{ticked_upto, one_more_ticked, all_ticked}

-- ---- the seats so far

-- the first so many seats heard the tick
abbrev pub served_upto : Table → ℕ → Served → Served
served_upto table n s = record s { seats = ticked_upto table s.edits n s.seats }

upto_at : (table : Table) (edits : Edits) (n : ℕ) (seats : List Seat)
    → slice_get (ticked_upto table edits n seats) n ≡ slice_get seats n
upto_at table edits zero seats = refl
upto_at table edits (suc n) [] = refl
upto_at table edits (suc n) (t ∷ seats) = upto_at table edits n seats

sight_at : (layout : Layout) (edits : Edits) (graves : List Grave) (samples : Samples) (sights : List (List Seen))
    (seats : List Seat) (n : ℕ) (sight : List Seen) (t : Seat)
    → AreSightsFor layout edits graves samples sights seats → slice_get sights n ≡ Some sight
    → slice_get seats n ≡ Some t → has_ended (past_for (table_in layout) t) ≡ false
    → IsSightFor layout edits graves samples sight t
sight_at layout edits graves samples [] [] n sight t h e w alive = absurd (none-some sight e)
sight_at layout edits graves samples [] (u ∷ seats) n sight t h e w alive = absurd h
sight_at layout edits graves samples (x ∷ sights) [] n sight t h e w alive = absurd h
sight_at layout edits graves samples (x ∷ sights) (u ∷ seats) zero sight t h e w alive =
    let is : u ≡ t = same_Some u t w in
    subst (IsSightFor layout edits graves samples sight) is
    (subst (λ (y : List Seen). IsSightFor layout edits graves samples y u) (same_Some x sight e)
    (h.0 (ap (λ (v : Seat). has_ended (past_for (table_in layout) v)) is ∙ alive)))
sight_at layout edits graves samples (x ∷ sights) (u ∷ seats) (suc n) sight t h e w alive =
    sight_at layout edits graves samples sights seats n sight t h.1 e w alive

above_at : (m n : ℕ) (seats : List Seat) (t : Seat) → AreAbove m seats → slice_get seats n ≡ Some t → m < t.number
above_at m n [] t a e = absurd (none-some t e)
above_at m zero (y ∷ seats) t a e = subst (λ (y : Seat). m < y.number) (same_Some y t e) a.0
above_at m (suc n) (y ∷ seats) t a e = above_at m n seats t a.1 e

found_at : (n : ℕ) (seats : List Seat) (t : Seat) → AreRising seats → slice_get seats n ≡ Some t
    → find (λ (u : Seat). u.number == t.number) seats ≡ Some t
found_at n [] t r e = absurd (none-some t e)
found_at zero (x ∷ seats) t r e =
    rw (eq-eqb x.number t.number (ap (λ (u : Seat). u.number) (same_Some x t e))) e
found_at (suc n) (x ∷ seats) t r e =
    let lt = above_at x.number n seats t r.0 e in
    rw (ne_eqb x.number t.number (λ q. absurd (omega (arith, q, lt)))) (found_at n seats t r.1 e)

place_at : (table : Table) (edits : Edits) (samples : Samples) (greatest : ℕ) (ends : List (Option ServerEnd)) (n : ℕ)
    (chairs : List Chair) (seats : List Seat) (c : Chair) → AreSeated table edits samples greatest ends chairs seats
    → AreRising seats → slice_get chairs n ≡ Some c → place_in chairs c.player ≡ Some c.place
place_at table edits samples greatest ends n [] seats c h r e = absurd (none-some c e)
place_at table edits samples greatest ends n (x ∷ chairs) [] c h r e = absurd h
place_at table edits samples greatest ends zero (x ∷ chairs) (t ∷ seats) c h r e =
    rw (eq-eqb x.player c.player (ap (λ (u : Chair). u.player) (same_Some x c e)))
    (ap (λ (u : Chair). Some u.place) (same_Some x c e))
place_at table edits samples greatest ends (suc n) (x ∷ chairs) (t ∷ seats) c h r e =
    let u = next_seat table edits samples greatest ends n c chairs seats h.1 e in
    let lt = above_at t.number n seats u.seat r.0 u.at in
    rw (ne_eqb x.player c.player (λ q. absurd (omega (arith, lt, sym h.0.player ∙ q ∙ u.seated.player))))
    (place_at table edits samples greatest ends n chairs seats c h.1 r.1 e)

-- ---- the next end

-- its seat, with what it is handed
pub record IsNextTick (d : Drive) (layout : Layout) (s : Served) (n : ℕ) (c : Chair) (sight : List Seen) : Type 0 where
  pub seat : Seat
  pub at : slice_get s.seats n ≡ Some seat
  pub number : c.player ≡ seat.number
  pub rising : AreRising s.seats
  pub serves : Serves d (served_upto (table_in layout) n s)
  pub sends : IsSending d (served_upto (table_in layout) n s) c sight seat

rising_upto : (table : Table) (edits : Edits) (n : ℕ) (seats : List Seat)
    → AreRising (ticked_upto table edits n seats) → AreRising seats
rising_upto table edits zero seats r = r
rising_upto table edits (suc n) [] r = tt
rising_upto table edits (suc n) (t ∷ seats) r =
    (above_upto t.number n seats r.0, rising_upto table edits n seats r.1)
  where
    above_upto : (m n : ℕ) (seats : List Seat) → AreAbove m (ticked_upto table edits n seats) → AreAbove m seats
    above_upto m zero seats a = a
    above_upto m (suc n) [] a = tt
    above_upto m (suc n) (u ∷ seats) a = (a.0, above_upto m n seats a.1)

one_next : (d : Drive) (s : Served) (n : ℕ) (c : Chair) (sights : List (List Seen)) (sight : List Seen)
    → slice_get d.chairs n ≡ Some c → slice_get sights n ≡ Some sight
    → Serves d (served_upto (table_in d.layout) n s)
    → AreSightsFor d.layout s.edits d.graves s.samples sights s.seats → IsNextTick d d.layout s n c sight
one_next d s n c sights sight at shown h given =
    let u = next_seat (table_in d.layout) s.edits s.samples d.greatest d.ends n c d.chairs
    (ticked_upto (table_in d.layout) s.edits n s.seats) h.seated at in
    let here : slice_get s.seats n ≡ Some u.seat = sym (upto_at (table_in d.layout) s.edits n s.seats) ∙ u.at in
    record {
      seat = u.seat;
      at = here;
      number = u.seated.player;
      rising = rising_upto (table_in d.layout) s.edits n s.seats h.rising;
      serves = h;
      sends = record {
        seat_at = ap (λ (m : ℕ). find (λ (v : Seat). v.number == m) (ticked_upto (table_in d.layout) s.edits n s.seats))
            u.seated.player
            ∙ found_at n (ticked_upto (table_in d.layout) s.edits n s.seats) u.seat h.rising u.at;
        place = place_at (table_in d.layout) s.edits s.samples d.greatest d.ends n d.chairs
            (ticked_upto (table_in d.layout) s.edits n s.seats) c h.seated h.rising at;
        shows = λ alive. sight_at d.layout s.edits d.graves s.samples sights s.seats n sight u.seat given shown here alive;
      };
    }

pub next_tick : (d : Drive) (layout : Layout) (graves : List Grave) (s : Served) (n : ℕ) (c : Chair)
    (sights : List (List Seen)) (sight : List Seen) → d.layout ≡ layout → d.graves ≡ graves
    → slice_get d.chairs n ≡ Some c → slice_get sights n ≡ Some sight
    → Serves d (served_upto (table_in layout) n s)
    → AreSightsFor layout s.edits graves s.samples sights s.seats → IsNextTick d layout s n c sight
next_tick d layout graves s n c sights sight l g at shown =
    subst (λ (k : Layout). Serves d (served_upto (table_in k) n s)
    → AreSightsFor k s.edits graves s.samples sights s.seats → IsNextTick d k s n c sight) l
    (subst (λ (gs : List Grave). Serves d (served_upto (table_in d.layout) n s)
    → AreSightsFor d.layout s.edits gs s.samples sights s.seats → IsNextTick d d.layout s n c sight) g
    (one_next d s n c sights sight at shown))

-- and then one more heard it
pub one_more : (d new : Drive) (layout : Layout) (s : Served) (n next : ℕ) (c : Chair) (sight : List Seen)
    → d.layout ≡ layout → next ≡ n + 1 → IsNextTick d layout s n c sight
    → Serves new (with_seat (ticked (table_in d.layout) s.edits) c.player (served_upto (table_in layout) n s))
    → Serves new (served_upto (table_in layout) next s)
one_more d new layout s n next c sight l more k h =
    subst (λ (m : ℕ). Serves new (served_upto (table_in layout) m s)) (follows n next more)
    (subst (λ (x : Served). Serves new x) (seats_more (table_in layout) s n c.player k.seat k.rising k.at k.number)
    (subst (λ (x : Layout). Serves new (with_seat (ticked (table_in x) s.edits) c.player (served_upto (table_in layout) n s)))
    l h))
  where
    follows : (n next : ℕ) → next ≡ n + 1 → suc n ≡ next
    follows n next e = omega (arith, e)

    seats_more : (table : Table) (s : Served) (n player : ℕ) (t : Seat)
        → AreRising s.seats → slice_get s.seats n ≡ Some t → player ≡ t.number
        → with_seat (ticked table s.edits) player (served_upto table n s) ≡ served_upto table (suc n) s
    seats_more table s n player t r at is =
        ap (λ (m : ℕ). with_seat (ticked table s.edits) m (served_upto table n s)) is
        ∙ ap (λ (l : List Seat). record s { seats = l }) (one_more_ticked table s.edits n s.seats t r at)

pub all_served : (table : Table) (new : Drive) (s : Served) (n : ℕ) → length s.seats ≤ n
    → Serves new (served_upto table n s) → Serves new (with_all_ticked table s)
all_served table new s n le h =
    subst (λ (l : List Seat). Serves new (record s { seats = l })) (all_ticked table s.edits n s.seats le) h

-- ---- the answers so far

pub ticks_more : (d : Drive) (layout : Layout) (s : Served) (n next : ℕ) (c : Chair) (sight : List Seen)
    (ticks : List PlayerTick) (tick : PlayerTick) → d.layout ≡ layout → next ≡ n + 1 → IsNextTick d layout s n c sight
    → map tick_value ticks ≡ map (tick_of (table_in layout) s.edits) (take n s.seats)
    → ((seat : Seat) → IsSending d (served_upto (table_in layout) n s) c sight seat
    → tick_value tick ≡ tick_of (table_in d.layout) s.edits seat)
    → map tick_value (ticks ++ tick ∷ []) ≡ map (tick_of (table_in layout) s.edits) (take next s.seats)
ticks_more d layout s n next c sight ticks tick l more k so_far one =
    map-append tick_value ticks (tick ∷ [])
    ∙ ap (λ (x : List TickOf). x ++ tick_value tick ∷ []) so_far
    ∙ ap (λ (y : TickOf). map (tick_of (table_in layout) s.edits) (take n s.seats) ++ y ∷ [])
    (one k.seat k.sends ∙ ap (λ (x : Layout). tick_of (table_in x) s.edits k.seat) l)
    ∙ sym (map-append (tick_of (table_in layout) s.edits) (take n s.seats) (k.seat ∷ []))
    ∙ ap (map (tick_of (table_in layout) s.edits)) (sym (take_more n k.seat s.seats k.at))
    ∙ ap (λ (m : ℕ). map (tick_of (table_in layout) s.edits) (take m s.seats)) (follows n next more)
  where
    follows : (n next : ℕ) → next ≡ n + 1 → suc n ≡ next
    follows n next e = omega (arith, e)

-- all of them
pub ticks_all : (table : Table) (edits : Edits) (n : ℕ) (seats : List Seat) (ticks : List TickOf) → length seats ≤ n
    → ticks ≡ map (tick_of table edits) (take n seats) → ticks ≡ map (tick_of table edits) seats
ticks_all table edits n seats ticks le e = e ∙ ap (map (tick_of table edits)) (take_whole n seats le)

-- The players' chairs against their seats, one by one.
use Rattle.std.proofs.Common.{◌≡◌, ◌≢◌, ℕ, ◌<◌, ◌==◌, List, [], ◌∷◌, map, length, Bool, true, false, cond, Option, Some, None, option_map, refl, sym, ap, ◌∙◌, subst, ◌≤◌, suc, if◌then◌else◌, arith}
use Rattle.std.specs.Prelude.{find, is_some, nat_lt}
use Rattle.std.proofs.lemmas.Bool.{eqb-true, eqb-false, ltb-true, ltb-false}
use Rattle.protocol_model.specs.Value.{Table}
use Rattle.protocol_model.specs.World.{Edits}
use Rattle.protocol_model.specs.Search.{insert_in_order}
use Rattle.shadow_changes.specs.Samples.{Samples}
use Rattle.server_end.specs.declared.server_end.ServerEnd.{ServerEnd}
use Rattle.net_driver.specs.declared.chair.Chair.{Chair}
use Rattle.net_driver.specs.Chairs.{sits_before}
use Rattle.net_driver.specs.Served.{Seat}
use Rattle.net_driver.specs.Serves.{IsSeated, AreSeated, AreAbove, AreRising}
use Rattle.net_driver.specs.Chairs.{place_in}
use Rattle.net_driver.specs.declared.chair.Place.{Place}

pub count : (table : Table) (edits : Edits) (samples : Samples) (greatest : ℕ) (ends : List (Option ServerEnd))
    (chairs : List Chair) (seats : List Seat)
    → AreSeated table edits samples greatest ends chairs seats → length chairs ≡ length seats
count table edits samples greatest ends [] [] h = refl
count table edits samples greatest ends [] (s ∷ seats) h = absurd h
count table edits samples greatest ends (c ∷ chairs) [] h = absurd h
count table edits samples greatest ends (c ∷ chairs) (s ∷ seats) h = ap suc
    (count table edits samples greatest ends chairs seats h.1)

-- a chair is found exactly where the seat is, and is that seat's
abbrev pub AreFound : Table → Edits → Samples → (greatest : ℕ) → List (Option ServerEnd) → Option Chair → Option Seat
    → Type 0
AreFound table edits samples greatest ends None None = Unit {0}
AreFound table edits samples greatest ends None (Some s) = ⊥
AreFound table edits samples greatest ends (Some c) None = ⊥
AreFound table edits samples greatest ends (Some c) (Some s) = IsSeated table edits samples greatest ends c s

pub found : (table : Table) (edits : Edits) (samples : Samples) (greatest : ℕ) (ends : List (Option ServerEnd))
    (chairs : List Chair) (seats : List Seat) (n : ℕ)
    → AreSeated table edits samples greatest ends chairs seats
    → AreFound table edits samples greatest ends (find (λ (c : Chair). c.player == n) chairs)
    (find (λ (s : Seat). s.number == n) seats)
found table edits samples greatest ends [] [] n h = tt
found table edits samples greatest ends [] (s ∷ seats) n h = absurd h
found table edits samples greatest ends (c ∷ chairs) [] n h = absurd h
found table edits samples greatest ends (c ∷ chairs) (s ∷ seats) n h =
    step (c.player == n) (s.number == n) (ap (λ m. m == n) h.0.player)
    (found table edits samples greatest ends chairs seats n h.1)
  where
    step : (b d : Bool) → b ≡ d
        → AreFound table edits samples greatest ends (find (λ (c : Chair). c.player == n) chairs)
        (find (λ (s : Seat). s.number == n) seats)
        → AreFound table edits samples greatest ends (cond b (Some c) (find (λ (c : Chair). c.player == n) chairs))
        (cond d (Some s) (find (λ (s : Seat). s.number == n) seats))
    step true true e later = h.0
    step true false e later = absurd (cc)
    step false true e later = absurd (cc)
    step false false e later = later

-- what holds of each chair and its seat holds of all after a change of each
pub again : (table : Table) (edits after : Edits) (samples more : Samples) (greatest raised : ℕ)
    (ends later : List (Option ServerEnd)) (f : Chair → Chair) (g : Seat → Seat)
    → ((c : Chair) (s : Seat) → IsSeated table edits samples greatest ends c s
    → IsSeated table after more raised later (f c) (g s))
    → (chairs : List Chair) (seats : List Seat)
    → AreSeated table edits samples greatest ends chairs seats
    → AreSeated table after more raised later (map f chairs) (map g seats)
again table edits after samples more greatest raised ends later f g each [] [] h = tt
again table edits after samples more greatest raised ends later f g each [] (s ∷ seats) h = absurd h
again table edits after samples more greatest raised ends later f g each (c ∷ chairs) [] h = absurd h
again table edits after samples more greatest raised ends later f g each (c ∷ chairs) (s ∷ seats) h =
    (each c s h.0, again table edits after samples more greatest raised ends later f g each chairs seats h.1)

-- the same where chairs and seats stay
pub still : (table : Table) (edits after : Edits) (samples more : Samples) (greatest raised : ℕ)
    (ends later : List (Option ServerEnd))
    → ((c : Chair) (s : Seat) → IsSeated table edits samples greatest ends c s
    → IsSeated table after more raised later c s)
    → (chairs : List Chair) (seats : List Seat)
    → AreSeated table edits samples greatest ends chairs seats → AreSeated table after more raised later chairs seats
still table edits after samples more greatest raised ends later each [] [] h = tt
still table edits after samples more greatest raised ends later each [] (s ∷ seats) h = absurd h
still table edits after samples more greatest raised ends later each (c ∷ chairs) [] h = absurd h
still table edits after samples more greatest raised ends later each (c ∷ chairs) (s ∷ seats) h =
    (each c s h.0, still table edits after samples more greatest raised ends later each chairs seats h.1)

-- one more of each, in its place
pub one_more : (table : Table) (edits : Edits) (samples : Samples) (greatest : ℕ) (ends : List (Option ServerEnd))
    (c : Chair) (s : Seat) (chairs : List Chair) (seats : List Seat)
    → IsSeated table edits samples greatest ends c s → AreSeated table edits samples greatest ends chairs seats
    → AreSeated table edits samples greatest ends (insert_in_order sits_before c chairs)
    (insert_in_order (λ (one : Seat) (two : Seat). nat_lt one.number two.number) s seats)
one_more table edits samples greatest ends c s [] [] new h = (new, tt)
one_more table edits samples greatest ends c s [] (t ∷ seats) new h = absurd h
one_more table edits samples greatest ends c s (d ∷ chairs) [] new h = absurd h
one_more table edits samples greatest ends c s (d ∷ chairs) (t ∷ seats) new h =
    step (nat_lt d.player c.player) (nat_lt t.number s.number) (ap (λ m. nat_lt m c.player) h.0.player
    ∙ ap (nat_lt t.number) new.player)
    (one_more table edits samples greatest ends c s chairs seats new h.1)
  where
    step : (b e : Bool) → b ≡ e
        → AreSeated table edits samples greatest ends (insert_in_order sits_before c chairs)
        (insert_in_order (λ (one : Seat) (two : Seat). nat_lt one.number two.number) s seats)
        → AreSeated table edits samples greatest ends
        (cond b (d ∷ insert_in_order sits_before c chairs) (c ∷ d ∷ chairs))
        (cond e (t ∷ insert_in_order (λ (one : Seat) (two : Seat). nat_lt one.number two.number) s seats)
        (s ∷ t ∷ seats))
    step true true q later = (h.0, later)
    step true false q later = absurd (cc)
    step false true q later = absurd (cc)
    step false false q later = (new, h)

-- ---- players ascend

above_less : (m n : ℕ) (seats : List Seat) → m < n → AreAbove n seats → AreAbove m seats
above_less m n [] h a = tt
above_less m n (t ∷ seats) h a = (omega (arith, h, a.0), above_less m n seats h a.1)

above_turned : (player n : ℕ) (g : Seat → Seat) → ((t : Seat) → (g t).number ≡ t.number) → (seats : List Seat)
    → AreAbove n seats
    → AreAbove n (map (λ (t : Seat). if t.number == player then g t else t) seats)
above_turned player n g same [] a = tt
above_turned player n g same (t ∷ seats) a = (go (t.number == player), above_turned player n g same seats a.1)
  where
    go : (b : Bool) → n < (cond b (g t) t).number
    go true = omega (arith, a.0, same t)
    go false = a.0

pub turned_rising : (player : ℕ) (g : Seat → Seat) → ((t : Seat) → (g t).number ≡ t.number) → (seats : List Seat)
    → AreRising seats
    → AreRising (map (λ (t : Seat). if t.number == player then g t else t) seats)
turned_rising player g same [] r = tt
turned_rising player g same (t ∷ seats) r =
    (go (t.number == player) (above_turned player t.number g same seats r.0), turned_rising player g same seats r.1)
  where
    go : (b : Bool) → AreAbove t.number (map (λ (t : Seat). if t.number == player then g t else t) seats)
        → AreAbove (cond b (g t) t).number (map (λ (t : Seat). if t.number == player then g t else t) seats)
    go true a = rw (same t) a
    go false a = a

above_joined : (n : ℕ) (new : Seat) (seats : List Seat) → n < new.number → AreAbove n seats
    → AreAbove n (insert_in_order (λ (one : Seat) (two : Seat). nat_lt one.number two.number) new seats)
above_joined n new [] h a = (h, tt)
above_joined n new (t ∷ seats) h a = go (nat_lt t.number new.number) (above_joined n new seats h a.1)
  where
    go : (b : Bool) → AreAbove n (insert_in_order (λ (one : Seat) (two : Seat). nat_lt one.number two.number) new seats)
        → AreAbove n
        (cond b (t ∷ insert_in_order (λ (one : Seat) (two : Seat). nat_lt one.number two.number) new seats)
        (new ∷ t ∷ seats))
    go true ih = (a.0, ih)
    go false ih = (h, a)

-- a player who didn't join before joins in its place
pub joined_rising : (new : Seat) (seats : List Seat)
    → is_some (find (λ (t : Seat). t.number == new.number) seats) ≡ false → AreRising seats
    → AreRising (insert_in_order (λ (one : Seat) (two : Seat). nat_lt one.number two.number) new seats)
joined_rising new [] e r = (tt, tt)
joined_rising new (t ∷ seats) e r =
    go (nat_lt t.number new.number) refl (t.number == new.number) refl e (joined_rising new seats)
  where
    go : (b : Bool) → nat_lt t.number new.number ≡ b → (q : Bool) → (t.number == new.number) ≡ q
        → is_some (cond q (Some t) (find (λ (t : Seat). t.number == new.number) seats)) ≡ false
        → (is_some (find (λ (t : Seat). t.number == new.number) seats) ≡ false → AreRising seats
        → AreRising (insert_in_order (λ (one : Seat) (two : Seat). nat_lt one.number two.number) new seats))
        → AreRising
        (cond b (t ∷ insert_in_order (λ (one : Seat) (two : Seat). nat_lt one.number two.number) new seats)
        (new ∷ t ∷ seats))
    go b lt true eq e ih = absurd (cc)
    go true lt false eq e ih = (above_joined t.number new seats (ltb-true t.number new.number lt) r.0, ih e r.1)
    go false lt false eq e ih =
        let below : new.number < t.number = less t.number new.number (ltb-false t.number new.number lt)
        (eqb-false t.number new.number eq) in
        ((below, above_less new.number t.number seats below r.0), r)
      where
        less : (m n : ℕ) → n ≤ m → (m ≡ n → ⊥) → n < m
        less m n h ne = grind arith

-- ---- one player's seat changes

passed : (table : Table) (edits : Edits) (samples : Samples) (greatest raised : ℕ)
    (ends later : List (Option ServerEnd)) (player : ℕ) (g : Seat → Seat)
    → ((c : Chair) (t : Seat) → t.number ≢ player → IsSeated table edits samples greatest ends c t
    → IsSeated table edits samples raised later c t)
    → (chairs : List Chair) (seats : List Seat) → AreAbove player seats
    → AreSeated table edits samples greatest ends chairs seats
    → AreSeated table edits samples raised later chairs
    (map (λ (t : Seat). if t.number == player then g t else t) seats)
passed table edits samples greatest raised ends later player g other [] [] a h = tt
passed table edits samples greatest raised ends later player g other [] (t ∷ seats) a h = absurd h
passed table edits samples greatest raised ends later player g other (c ∷ chairs) [] a h = absurd h
passed table edits samples greatest raised ends later player g other (c ∷ chairs) (t ∷ seats) a h = (
  go (t.number == player) refl,
  passed table edits samples greatest raised ends later player g other chairs seats
      a.1 h.1,
)
  where
    go : (b : Bool) → (t.number == player) ≡ b → IsSeated table edits samples raised later c (cond b (g t) t)
    go true e = absurd (let q = eqb-true t.number player e in omega (arith, q, a.0))
    go false e = other c t (eqb-false t.number player e) h.0

-- the seat of the player whose chair is found
pub turns : (table : Table) (edits : Edits) (samples : Samples) (greatest raised : ℕ)
    (ends later : List (Option ServerEnd)) (player : ℕ) (g : Seat → Seat) (found : Option Place)
    → ((c : Chair) (t : Seat) → t.number ≢ player → IsSeated table edits samples greatest ends c t
    → IsSeated table edits samples raised later c t)
    → ((c : Chair) (t : Seat) → t.number ≡ player → found ≡ Some c.place
    → IsSeated table edits samples greatest ends c t → IsSeated table edits samples raised later c (g t))
    → (chairs : List Chair) (seats : List Seat) → place_in chairs player ≡ found → AreRising seats
    → AreSeated table edits samples greatest ends chairs seats
    → AreSeated table edits samples raised later chairs
    (map (λ (t : Seat). if t.number == player then g t else t) seats)
turns table edits samples greatest raised ends later player g found other own [] [] f r h = tt
turns table edits samples greatest raised ends later player g found other own [] (t ∷ seats) f r h = absurd h
turns table edits samples greatest raised ends later player g found other own (c ∷ chairs) [] f r h = absurd h
turns table edits samples greatest raised ends later player g found other own (c ∷ chairs) (t ∷ seats) f r h =
    go (c.player == player) (t.number == player) refl (ap (λ m. m == player) h.0.player) f
    (λ f. turns table edits samples greatest raised ends later player g found other own chairs seats f r.1 h.1)
  where
    go : (a b : Bool) → (t.number == player) ≡ b → a ≡ b
        → option_map (λ (c : Chair). c.place) (cond a (Some c) (find (λ (c : Chair). c.player == player) chairs))
        ≡ found
        → (place_in chairs player ≡ found
        → AreSeated table edits samples raised later chairs
        (map (λ (t : Seat). if t.number == player then g t else t) seats))
        → AreSeated table edits samples raised later (c ∷ chairs)
        (cond b (g t) t ∷ map (λ (t : Seat). if t.number == player then g t else t) seats)
    go true true e q f later' =
        let is = eqb-true t.number player e in (
          own c t is (sym f) h.0,
          passed table edits samples greatest raised ends later player g other chairs seats
              (subst (λ n. AreAbove n seats) is r.0) h.1,
        )
    go true false e q f later' = absurd (cc)
    go false true e q f later' = absurd (cc)
    go false false e q f later' = (other c t (eqb-false t.number player e) h.0, later' f)

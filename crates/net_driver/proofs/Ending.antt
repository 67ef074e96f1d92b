-- A player's end that dies as its seat changes, and all others stay.
use Rattle.std.proofs.Common.{◌≡◌, ◌≢◌, ℕ, ◌==◌, List, [], ◌∷◌, map, Bool, true, false, cond, Option, Some, option_map, refl, sym, ap, ◌∙◌, subst, arith, if◌then◌else◌}
use Rattle.std.specs.Prelude.{find}
use Rattle.std.proofs.lemmas.Bool.{eqb-true, eqb-false}
use Rattle.protocol_model.specs.Value.{Table}
use Rattle.protocol_model.specs.World.{Edits}
use Rattle.shadow_changes.specs.Samples.{Samples}
use Rattle.server_end.specs.declared.server_end.ServerEnd.{ServerEnd}
use Rattle.net_driver.specs.declared.chair.Chair.{Chair}
use Rattle.net_driver.specs.declared.chair.Place.{Place}
use Rattle.net_driver.specs.declared.chair.Place.TheVariants.{Dead}
use Rattle.net_driver.specs.Chairs.{place_in, dead_for}
use Rattle.net_driver.specs.Served.{Seat}
use Rattle.net_driver.specs.Serves.{IsSeated, AreSeated, AreAbove, AreRising}

module _ (table : Table) (edits : Edits) (samples : Samples) (greatest : ℕ) (ends later : List (Option ServerEnd))
    (player top : ℕ) (g : Seat → Seat)
    (other : (c : Chair) (t : Seat) → t.number ≢ player → IsSeated table edits samples greatest ends c t
    → IsSeated table edits samples greatest later c t) where
  -- a chair of another player stays
  others : (c : Chair) (t : Seat) → t.number ≢ player → IsSeated table edits samples greatest ends c t
      → IsSeated table edits samples greatest later (dead_for player top c) t
  others c t ne i = go (c.player == player) refl
    where
      go : (b : Bool) → (c.player == player) ≡ b
          → IsSeated table edits samples greatest later (cond b (record c { place = Dead top }) c) t
      go true e = absurd (ne (sym i.player ∙ eqb-true c.player player e))
      go false e = other c t ne i

  behind : (chairs : List Chair) (seats : List Seat) → AreAbove player seats
      → AreSeated table edits samples greatest ends chairs seats
      → AreSeated table edits samples greatest later (map (dead_for player top) chairs)
      (map (λ (t : Seat). if t.number == player then g t else t) seats)
  behind [] [] a h = tt
  behind [] (t ∷ seats) a h = absurd h
  behind (c ∷ chairs) [] a h = absurd h
  behind (c ∷ chairs) (t ∷ seats) a h = (go (t.number == player) refl, behind chairs seats a.1 h.1)
    where
      go : (b : Bool) → (t.number == player) ≡ b
          → IsSeated table edits samples greatest later (dead_for player top c) (cond b (g t) t)
      go true e = absurd (let q = eqb-true t.number player e in omega (arith, q, a.0))
      go false e = others c t (eqb-false t.number player e) h.0

  -- the player's chair, which is found first, is that of its seat
  pub closes : (found : Option Place)
      → ((c : Chair) (t : Seat) → t.number ≡ player → found ≡ Some c.place
      → IsSeated table edits samples greatest ends c t
      → IsSeated table edits samples greatest later (record c { place = Dead top }) (g t))
      → (chairs : List Chair) (seats : List Seat) → place_in chairs player ≡ found → AreRising seats
      → AreSeated table edits samples greatest ends chairs seats
      → AreSeated table edits samples greatest later (map (dead_for player top) chairs)
      (map (λ (t : Seat). if t.number == player then g t else t) seats)
  closes found own [] [] f r h = tt
  closes found own [] (t ∷ seats) f r h = absurd h
  closes found own (c ∷ chairs) [] f r h = absurd h
  closes found own (c ∷ chairs) (t ∷ seats) f r h =
      go (c.player == player) (t.number == player) refl (ap (λ m. m == player) h.0.player) f
      (λ f. closes found own chairs seats f r.1 h.1)
    where
      go : (a b : Bool) → (t.number == player) ≡ b → a ≡ b
          → option_map (λ (c : Chair). c.place) (cond a (Some c) (find (λ (c : Chair). c.player == player) chairs))
          ≡ found
          → (place_in chairs player ≡ found
          → AreSeated table edits samples greatest later (map (dead_for player top) chairs)
          (map (λ (t : Seat). if t.number == player then g t else t) seats))
          → AreSeated table edits samples greatest later
          (cond a (record c { place = Dead top }) c ∷ map (dead_for player top) chairs)
          (cond b (g t) t ∷ map (λ (t : Seat). if t.number == player then g t else t) seats)
      go true true e q f next =
          let is = eqb-true t.number player e in
          (own c t is (sym f) h.0, behind chairs seats (subst (λ n. AreAbove n seats) is r.0) h.1)
      go true false e q f next = absurd (cc)
      go false true e q f next = absurd (cc)
      go false false e q f next = (other c t (eqb-false t.number player e) h.0, next f)

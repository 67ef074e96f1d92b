-- Who joined stays so, whatever a seat hears.
use Rattle.std.proofs.Common.{◌≡◌, ℕ, ◌==◌, List, [], ◌∷◌, map, Bool, true, false, cond, Option, Some, refl, ap, if◌then◌else◌}
use Rattle.std.specs.Prelude.{find, is_some}
use Rattle.net_driver.specs.Served.{Seat, Served, has_joined, with_seat}

joined_in : (player n : ℕ) (g : Seat → Seat) → ((t : Seat) → (g t).number ≡ t.number) → (seats : List Seat)
    → is_some (find (λ (t : Seat). t.number == n) (map (λ (t : Seat). if t.number == player then g t else t) seats))
    ≡ is_some (find (λ (t : Seat). t.number == n) seats)
joined_in player n g same [] = refl
joined_in player n g same (t ∷ seats) =
    by (if t.number == player then g t else t) (number (t.number == player)) (joined_in player n g same seats)
  where
    number : (b : Bool) → (cond b (g t) t).number ≡ t.number
    number true = same t
    number false = refl

    by : (u : Seat) → u.number ≡ t.number
        → is_some (find (λ (t : Seat). t.number == n) (map (λ (t : Seat). if t.number == player then g t else t) seats))
        ≡ is_some (find (λ (t : Seat). t.number == n) seats)
        → is_some (cond (u.number == n) (Some u)
        (find (λ (t : Seat). t.number == n) (map (λ (t : Seat). if t.number == player then g t else t) seats)))
        ≡ is_some (cond (t.number == n) (Some t) (find (λ (t : Seat). t.number == n) seats))
    by u e rest = go (u.number == n) (t.number == n) (ap (λ (m : ℕ). m == n) e)
      where
        go : (a b : Bool) → a ≡ b
            → is_some (cond a (Some u)
            (find (λ (t : Seat). t.number == n) (map (λ (t : Seat). if t.number == player then g t else t) seats)))
            ≡ is_some (cond b (Some t) (find (λ (t : Seat). t.number == n) seats))
        go true true q = refl
        go true false q = absurd (cc)
        go false true q = absurd (cc)
        go false false q = rest

pub joined_stays : (s : Served) (player n : ℕ) (g : Seat → Seat) → ((t : Seat) → (g t).number ≡ t.number)
    → has_joined (with_seat g player s) n ≡ has_joined s n
joined_stays s player n g same = joined_in player n g same s.seats

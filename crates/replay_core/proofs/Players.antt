-- One player among those who joined.
use Rattle.std.proofs.Common.{◌≡◌, ℕ, zero, suc, ◌<◌, ◌≤◌, ◌==◌, List, [], ◌∷◌, map, Bool, true, false, Some, refl, ap, sym, ◌∙◌, subst, arith, append-nil, if◌then◌else◌}
use Rattle.std.specs.Prelude.{slice_get, slice_set, find}
use Rattle.std.specs.List.{flat_map}
use Rattle.std.proofs.lemmas.Option.{same_Some, none-some}
use Rattle.std.proofs.lemmas.Bool.Decides.{nat_tests}
use Rattle.replication_model.specs.Story.{Player}
use Rattle.class_layout.specs.Tables.{Layout}
use Rattle.net_driver.specs.Served.{Seat}
use Rattle.replay_places.specs.declared.place.Place.{Place}
use Rattle.replay_places.specs.Places.{IsPlace}
use Rattle.replay_core.specs.Stands.{Ascend, ArePlaces, seat_in, player_in}

-- ---- places of players

-- the player at a place
pub placed : (layout : Layout) (places : List Place) (players : List Player) (i : ℕ) (k : Place)
    → ArePlaces layout places players → slice_get places i ≡ Some k
    → (p : Player) × (slice_get players i ≡ Some p) × IsPlace layout k p
placed layout [] players i k h e = absurd (none-some k e)
placed layout (x ∷ places) [] i k h e = absurd h
placed layout (x ∷ places) (p ∷ players) zero k h e = (
  p,
  refl,
  subst (λ (k : Place). IsPlace layout k p)
      (same_Some x k e) h.0,
)
placed layout (x ∷ places) (p ∷ players) (suc i) k h e = placed layout places players i k h.1 e

-- and the place of a player
pub seated : (layout : Layout) (places : List Place) (players : List Player) (i : ℕ) (p : Player)
    → ArePlaces layout places players → slice_get players i ≡ Some p
    → (k : Place) × (slice_get places i ≡ Some k) × IsPlace layout k p
seated layout places [] i p h e = absurd (none-some p e)
seated layout [] (q ∷ players) i p h e = absurd h
seated layout (x ∷ places) (q ∷ players) zero p h e = (
  x,
  refl,
  subst (λ (q : Player). IsPlace layout x q)
      (same_Some q p e) h.0,
)
seated layout (x ∷ places) (q ∷ players) (suc i) p h e = seated layout places players i p h.1 e

-- one place and its player go on
pub places_set : (layout : Layout) (places : List Place) (players : List Player) (i : ℕ) (k : Place) (p : Player)
    → ArePlaces layout places players → IsPlace layout k p → ArePlaces layout (slice_set places i k)
    (slice_set players i p)
places_set layout [] [] i k p h new = tt
places_set layout [] (q ∷ players) i k p h new = absurd h
places_set layout (x ∷ places) [] i k p h new = absurd h
places_set layout (x ∷ places) (q ∷ players) zero k p h new = (new, h.1)
places_set layout (x ∷ places) (q ∷ players) (suc i) k p h new = (h.0, places_set layout places players i k p h.1 new)

-- ---- numbers

differs : (m n : ℕ) → m < n → (m == n) ≡ false
differs m n h = grind (arith, nat_tests)

above : (m n : ℕ) → n < m → (m == n) ≡ false
above m n h = grind (arith, nat_tests)

agrees : (m n : ℕ) → m ≡ n → (m == n) ≡ true
agrees m n h = grind (arith, nat_tests)

pub equal : (m n : ℕ) → (m == n) ≡ true → m ≡ n
equal m n h = grind (arith, nat_tests)

-- each player of an ascending list is above the first number
pub number_above : (low : ℕ) (players : List Player) (i : ℕ) (p : Player) → Ascend low players
    → slice_get players i ≡ Some p → low < p.number
number_above low [] i p s e = absurd (none-some p e)
number_above low (q ∷ players) zero p s e = subst (λ (q : Player). low < q.number) (same_Some q p e) s.0
number_above low (q ∷ players) (suc i) p s e =
    let first = s.0 in
    let later = number_above q.number players i p s.1 e in omega arith

pub ascend_lower : (low high : ℕ) (players : List Player) → low ≤ high → Ascend high players → Ascend low players
ascend_lower low high [] h a = tt
ascend_lower low high (p ∷ players) h a = let first = a.0 in (omega arith, a.1)

-- the numbers stay
pub ascend_set : (low : ℕ) (players : List Player) (i : ℕ) (p q : Player) → Ascend low players
    → slice_get players i ≡ Some p → q.number ≡ p.number
    → Ascend low (slice_set players i q)
ascend_set low [] i p q s e number = absurd (none-some p e)
ascend_set low (x ∷ players) zero p q s e number =
    let is : q.number ≡ x.number = number ∙ ap (λ (y : Player). y.number) (sym (same_Some x p e)) in
    (subst (λ n. low < n) (sym is) s.0, subst (λ n. Ascend n players) (sym is) s.1)
ascend_set low (x ∷ players) (suc i) p q s e number = (s.0, ascend_set x.number players i p q s.1 e number)

-- ---- one player's part

-- what a line does to one player
abbrev pub only : (Player → Player) → (player : ℕ) → Player → Player
only does n p = if p.number == n then does p else p

abbrev pub says : {A : Type 0} → (Player → List A) → (player : ℕ) → Player → List A
says does n p = if p.number == n then does p else []

-- players above a number aren't that one
others_stay : (does : Player → Player) (n low : ℕ) (players : List Player) → Ascend low players → n ≤ low
    → map (only does n) players ≡ players
others_stay does n low [] a h = refl
others_stay does n low (p ∷ players) a h =
    let first = a.0 in
    let e = above p.number n (omega arith) in
    let rest = others_stay does n p.number players a.1 (omega arith) in
    rw (e, rest) refl

others_silent : {A : Type 0} (does : Player → List A) (n low : ℕ) (players : List Player) → Ascend low players → n ≤ low
    → flat_map (says does n) players ≡ []
others_silent does n low [] a h = refl
others_silent does n low (p ∷ players) a h =
    let first = a.0 in
    let e = above p.number n (omega arith) in
    let rest = others_silent does n p.number players a.1 (omega arith) in
    rw (e, rest) refl

-- one player's part goes on at its place, and the others stay
pub one_goes_on : (does : Player → Player) (n low : ℕ) (players : List Player) (i : ℕ) (p : Player) → Ascend low players
    → slice_get players i ≡ Some p → p.number ≡ n → map (only does n) players ≡ slice_set players i (does p)
one_goes_on does n low [] i p s e number = absurd (none-some p e)
one_goes_on does n low (q ∷ players) zero p s e number =
    let same = same_Some q p e in
    let is : q.number ≡ n = ap (λ (q : Player). q.number) same ∙ number in
    let yes = agrees q.number n is in
    let stay = others_stay does n q.number players s.1 (omega arith) in
    rw (yes, stay) (ap (λ (q : Player). does q ∷ players) same)
one_goes_on does n low (q ∷ players) (suc i) p s e number =
    let later = number_above q.number players i p s.1 e in
    let no = differs q.number n (omega arith) in
    rw no (ap (λ (l : List Player). q ∷ l) (one_goes_on does n q.number players i p s.1 e number))

-- and it alone tells something
pub one_tells : {A : Type 0} (does : Player → List A) (n low : ℕ) (players : List Player) (i : ℕ) (p : Player)
    → Ascend low players → slice_get players i ≡ Some p → p.number ≡ n → flat_map (says does n) players ≡ does p
one_tells does n low [] i p s e number = absurd (none-some p e)
one_tells does n low (q ∷ players) zero p s e number =
    let same = same_Some q p e in
    let is : q.number ≡ n = ap (λ (q : Player). q.number) same ∙ number in
    let yes = agrees q.number n is in
    let stay = others_silent does n q.number players s.1 (omega arith) in
    rw (yes, stay) (append-nil (does q) ∙ ap does same)
one_tells does n low (q ∷ players) (suc i) p s e number =
    let later = number_above q.number players i p s.1 e in
    let no = differs q.number n (omega arith) in
    rw no (one_tells does n q.number players i p s.1 e number)

-- ---- seats

-- a seat alone changes
abbrev pub seat_only : (Seat → Seat) → (player : ℕ) → Seat → Seat
seat_only change n seat = if seat.number == n then change seat else seat

other_seats : (change : Seat → Seat) (n low : ℕ) (players : List Player) → Ascend low players → n ≤ low
    → map (seat_only change n) (map seat_in players) ≡ map seat_in players
other_seats change n low [] a h = refl
other_seats change n low (p ∷ players) a h =
    let first = a.0 in
    let e = above p.number n (omega arith) in
    let rest = other_seats change n p.number players a.1 (omega arith) in
    rw (e, rest) refl

-- one seat changes as its player does
pub seats_set : (change : Seat → Seat) (n low : ℕ) (players : List Player) (i : ℕ) (p q : Player) → Ascend low players
    → slice_get players i ≡ Some p → p.number ≡ n → seat_in q ≡ change (seat_in p)
    → map (seat_only change n) (map seat_in players) ≡ map seat_in (slice_set players i q)
seats_set change n low [] i p q s e number h = absurd (none-some p e)
seats_set change n low (x ∷ players) zero p q s e number h =
    let same = same_Some x p e in
    let is : x.number ≡ n = ap (λ (x : Player). x.number) same ∙ number in
    let yes = agrees x.number n is in
    let stay = other_seats change n x.number players s.1 (omega arith) in
    rw (yes, stay) (ap (λ (seat : Seat). seat ∷ map seat_in players)
    (ap (λ (x : Player). change (seat_in x)) same ∙ sym h))
seats_set change n low (x ∷ players) (suc i) p q s e number h =
    let later = number_above x.number players i p s.1 e in
    let no = differs x.number n (omega arith) in
    rw no (ap (λ (l : List Seat). seat_in x ∷ l) (seats_set change n x.number players i p q s.1 e number h))

-- no seat changes where the player's doesn't
pub seats_stay : (players : List Player) (i : ℕ) (p q : Player) → slice_get players i ≡ Some p → seat_in q ≡ seat_in p
    → map seat_in (slice_set players i q) ≡ map seat_in players
seats_stay [] i p q e h = refl
seats_stay (x ∷ players) zero p q e h = ap (λ (seat : Seat). seat ∷ map seat_in players)
    (h ∙ ap seat_in (sym (same_Some x p e)))
seats_stay (x ∷ players) (suc i) p q e h = ap (λ (l : List Seat). seat_in x ∷ l) (seats_stay players i p q e h)

-- the seat of the player at a place
pub seat_there : (low n : ℕ) (players : List Player) (i : ℕ) (p : Player) → Ascend low players
    → slice_get players i ≡ Some p → p.number ≡ n
    → find (λ (seat : Seat). seat.number == n) (map seat_in players) ≡ Some (seat_in p)
seat_there low n [] i p a e number = absurd (none-some p e)
seat_there low n (q ∷ players) zero p a e number =
    let same = same_Some q p e in
    let is : q.number ≡ n = ap (λ (q : Player). q.number) same ∙ number in
    let yes = agrees q.number n is in
    rw yes (ap (λ (q : Player). Some (seat_in q)) same)
seat_there low n (q ∷ players) (suc i) p a e number =
    let later = number_above q.number players i p a.1 e in
    let no = differs q.number n (omega arith) in
    rw no (seat_there q.number n players i p a.1 e number)

-- ---- a player by number

-- who is found by number stands at some place
pub found_at : (players : List Player) (n : ℕ) (p : Player) → player_in players n ≡ Some p
    → (i : ℕ) × (slice_get players i ≡ Some p) × (p.number ≡ n)
found_at [] n p e = absurd (none-some p e)
found_at (q ∷ players) n p e = go (q.number == n) refl (λ h. found_at players n p h) e
  where
    go : (b : Bool) → (q.number == n) ≡ b
        → (player_in players n ≡ Some p → (i : ℕ) × (slice_get players i ≡ Some p) × (p.number ≡ n))
        → (if b then Some q else player_in players n) ≡ Some p
        → (i : ℕ) × (slice_get (q ∷ players) i ≡ Some p) × (p.number ≡ n)
    go true t later e = (0, e, ap (λ (q : Player). q.number) (sym (same_Some q p e)) ∙ equal q.number n t)
    go false t later e = let r = later e in (suc r.0, r.1, r.2)

-- and is found
pub at_found : (low : ℕ) (players : List Player) (i : ℕ) (p : Player) (n : ℕ) → Ascend low players
    → slice_get players i ≡ Some p → p.number ≡ n
    → player_in players n ≡ Some p
at_found low [] i p n a e number = absurd (none-some p e)
at_found low (q ∷ players) zero p n a e number =
    let same = same_Some q p e in
    let is : q.number ≡ n = ap (λ (q : Player). q.number) same ∙ number in
    let yes = agrees q.number n is in
    rw yes (ap (λ (q : Player). Some q) same)
at_found low (q ∷ players) (suc i) p n a e number =
    let later = number_above q.number players i p a.1 e in
    let no = differs q.number n (omega arith) in
    rw no (at_found q.number players i p n a.1 e number)

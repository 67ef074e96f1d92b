-- How many pairs are settled: actors one by one, and players one by one.
use Rattle.std.proofs.Common.{◌≡◌, ℕ, suc, ◌+◌, ◌*◌, ◌<◌, ◌≤◌, ◌==◌, List, [], ◌∷◌, ◌++◌, map, length, Bool, true, false, Option, Some, None, refl, ap, sym, ◌∙◌, subst, arith, cond, nat_lt, append-nil, append_assoc, sum_by, count_by}
use Rattle.std.specs.Prelude.{slice_get, is_some, option_map}
use Rattle.std.specs.Int.{from_bool}
use Rattle.std.specs.List.{range_with_len}
use Rattle.std.proofs.lemmas.Bool.Decides.{nat_tests}
use Rattle.std.proofs.lemmas.List.FromFn.{sum_by-map-range_with_len_more, length-map-range_with_len}
use Rattle.std.proofs.lemmas.List.Sums.{sum_by_push, count_by-le-length}
use Rattle.std.proofs.lemmas.List.{length-map}
use Rattle.payload_laws.proofs.WorldValues.{count_more, count_other}
use Rattle.protocol_model.specs.Side.{AtServer}
use Rattle.protocol_model.specs.Value.{Table}
use Rattle.protocol_model.specs.World.{Edit, Edits, Spawn, Destroy, Set, Own, View, Add, Dormant, Wake, Flush, Switch, Team, Give, spawn_count, spawn_of, actors_of}
use Rattle.connection_model.specs.Settled.{is_settled}
use Rattle.replication_model.specs.Story.{Player, past_at}
use Rattle.class_layout.specs.Tables.{Layout, table_in}
use Rattle.world_table.specs.Answers.{look_of, spawned_look}
use Rattle.world_table.specs.declared.edit.Look.{Look}
use Rattle.net_driver.specs.Served.{Seat, Served, seat_of, settled_for as settled_at}
use Rattle.net_driver.specs.Serves.{Drive, Serves}
use Rattle.replay_places.specs.declared.place.Place.{Place}
use Rattle.replay_places.specs.Places.{IsPlace}
use Rattle.replay_core.specs.Stands.{Serving, Ascend, ArePlaces, seat_in}
use Rattle.replay_core.specs.Lines.{IsAt}
use Rattle.replay_core.specs.Settled.{settled_for}
use Rattle.replay_core.proofs.Heard.{seat_found}
use Rattle.replay_core.proofs.Ticks.{get_behind, first_left}

-- ---- spawns

one_more_is : (k c m : ℕ) → (2 * (k + 1) == 2 * (c + 1)) ≡ true → m ≡ 1 + c → true ≡ nat_lt k m
one_more_is k c m e more = grind (arith, nat_tests)

same_below : (k c m : ℕ) → (2 * (k + 1) == 2 * (c + 1)) ≡ false → m ≡ 1 + c → nat_lt k c ≡ nat_lt k m
same_below k c m e more = grind (arith, nat_tests)

none_below : (k : ℕ) → false ≡ nat_lt k 0
none_below k = grind (arith, nat_tests)

-- the first so many guids are those that were spawned
is_spawned : (edits : Edits) (k : ℕ) → is_some (spawn_of edits (2 * (k + 1))) ≡ nat_lt k (spawn_count edits)
is_spawned [] k = none_below k
is_spawned (Spawn class x y ∷ edits) k = by (2 * (k + 1) == 2 * (spawn_count edits + 1)) refl (is_spawned edits k)
  where
    by : (b : Bool) → (2 * (k + 1) == 2 * (spawn_count edits + 1)) ≡ b
        → is_some (spawn_of edits (2 * (k + 1))) ≡ nat_lt k (spawn_count edits)
        → is_some (cond b (Some (record { class = class; x = x; y = y })) (spawn_of edits (2 * (k + 1))))
        ≡ nat_lt k (spawn_count (Spawn class x y ∷ edits))
    by true e before = one_more_is k (spawn_count edits) (spawn_count (Spawn class x y ∷ edits)) e (count_more class x y edits)
    by false e before = before ∙ same_below k (spawn_count edits) (spawn_count (Spawn class x y ∷ edits)) e (count_more class x y edits)
is_spawned (Destroy b ∷ edits) k = is_spawned edits k ∙ ap (nat_lt k) (sym (count_other (Destroy b) edits refl))
is_spawned (Set b h v ∷ edits) k = is_spawned edits k ∙ ap (nat_lt k) (sym (count_other (Set b h v) edits refl))
is_spawned (Own b p ∷ edits) k = is_spawned edits k ∙ ap (nat_lt k) (sym (count_other (Own b p) edits refl))
is_spawned (View p x y ∷ edits) k = is_spawned edits k ∙ ap (nat_lt k) (sym (count_other (View p x y) edits refl))
is_spawned (Add b p on ∷ edits) k = is_spawned edits k ∙ ap (nat_lt k) (sym (count_other (Add b p on) edits refl))
is_spawned (Dormant b ∷ edits) k = is_spawned edits k ∙ ap (nat_lt k) (sym (count_other (Dormant b) edits refl))
is_spawned (Wake b ∷ edits) k = is_spawned edits k ∙ ap (nat_lt k) (sym (count_other (Wake b) edits refl))
is_spawned (Flush b ∷ edits) k = is_spawned edits k ∙ ap (nat_lt k) (sym (count_other (Flush b) edits refl))
is_spawned (Switch b h on ∷ edits) k = is_spawned edits k ∙ ap (nat_lt k) (sym (count_other (Switch b h on) edits refl))
is_spawned (Team p t ∷ edits) k = is_spawned edits k ∙ ap (nat_lt k) (sym (count_other (Team p t) edits refl))
is_spawned (Give b t ∷ edits) k = is_spawned edits k ∙ ap (nat_lt k) (sym (count_other (Give b t) edits refl))

some_mapped : {A B : Type 0} (f : A → B) (o : Option A) → is_some (option_map f o) ≡ is_some o
some_mapped f None = refl
some_mapped f (Some x) = refl

below : (k m : ℕ) → true ≡ nat_lt k m → k + 1 ≤ m
below k m e = grind (arith, nat_tests)

at_end : (k m : ℕ) → k ≤ m → false ≡ nat_lt k m → k ≡ m
at_end k m most e = grind (arith, nat_tests)

-- a look tells whether the next guid was spawned
looked_at : (layout : Layout) (d : Drive) (edits : Edits) (players : List Player) (table : Table) (k : ℕ) (look : Option Look)
    → (h : Serving layout d edits players) → look ≡ look_of table h.served.edits (2 * (k + 1)) → is_some look ≡ nat_lt k (spawn_count edits)
looked_at layout d edits players table k look h is =
    let here = h.served.edits in
    ap is_some is ∙ some_mapped (spawned_look table here (2 * (k + 1))) (spawn_of here (2 * (k + 1))) ∙ is_spawned here k
    ∙ ap (λ (e : Edits). nat_lt k (spawn_count e)) h.same_edits

-- one more was
pub looked_on : (layout : Layout) (d : Drive) (edits : Edits) (players : List Player) (table : Table) (k : ℕ) (look : Option Look)
    → (h : Serving layout d edits players) → look ≡ look_of table h.served.edits (2 * (k + 1)) → is_some look ≡ true
    → k + 1 ≤ spawn_count edits
looked_on layout d edits players table k look h is some =
    below k (spawn_count edits) (sym some ∙ looked_at layout d edits players table k look h is)

-- that was all
pub looked_past : (layout : Layout) (d : Drive) (edits : Edits) (players : List Player) (table : Table) (k : ℕ) (look : Option Look)
    → (h : Serving layout d edits players) → look ≡ look_of table h.served.edits (2 * (k + 1)) → is_some look ≡ false
    → k ≤ spawn_count edits → k ≡ spawn_count edits
looked_past layout d edits players table k look h is none most =
    at_end k (spawn_count edits) most (sym none ∙ looked_at layout d edits players table k look h is)

-- ---- one player

-- the first actors
abbrev pub firsts : ℕ → List ℕ
firsts n = map (λ (k : ℕ). 2 * k) (range_with_len 1 n)

-- the actors of one player that are settled, among the first so many
abbrev pub settled_among : Layout → Edits → Player → ℕ → ℕ
settled_among layout edits p n = count_by (is_settled (table_in layout) edits p.number (past_at (table_in layout) AtServer p)) (firsts n)

pub at_most_one : (holds : Bool) → from_bool holds ≤ 1
at_most_one true = omega arith
at_most_one false = omega arith

bit_is : (holds : Bool) → from_bool holds ≡ cond holds 1 0
bit_is true = refl
bit_is false = refl

-- what the driver says of a pair
settled_is : (layout : Layout) (d : Drive) (edits : Edits) (players : List Player) (i : ℕ) (p : Player) (n a : ℕ) (holds : Bool)
    → Serving layout d edits players → IsAt players i p → n ≡ p.number
    → ((s : Served) (seat : Seat) → Serves d s → seat_of s n ≡ Some seat → holds ≡ settled_at (table_in d.layout) s.edits seat a)
    → holds ≡ is_settled (table_in layout) edits p.number (past_at (table_in layout) AtServer p) a
settled_is layout d edits players i p n a holds h at who says =
    says h.served (seat_in p) h.serves (seat_found layout d edits players i p n h at who)
    ∙ ap (λ (l : Layout). settled_at (table_in l) h.served.edits (seat_in p) a) h.classes
    ∙ ap (λ (e : Edits). settled_at (table_in layout) e (seat_in p) a) h.same_edits

-- one more actor
pub settled_more : (layout : Layout) (d : Drive) (edits : Edits) (players : List Player) (i : ℕ) (p : Player) (n before count : ℕ) (holds : Bool)
    → Serving layout d edits players → IsAt players i p → n ≡ p.number
    → ((s : Served) (seat : Seat) → Serves d s → seat_of s n ≡ Some seat
    → holds ≡ settled_at (table_in d.layout) s.edits seat (2 * (before + 1)))
    → count ≡ settled_among layout edits p before → count + from_bool holds ≡ settled_among layout edits p (before + 1)
settled_more layout d edits players i p n before count holds h at who says done =
    let test = is_settled (table_in layout) edits p.number (past_at (table_in layout) AtServer p) in
    let holds_is = settled_is layout d edits players i p n (2 * (before + 1)) holds h at who says in
    let grows = sum_by-map-range_with_len_more (λ (a : ℕ). cond (test a) 1 0) (λ (k : ℕ). 2 * k) 1 before (before + 1) (omega arith) in
    ap (λ (k : ℕ). k + from_bool holds) done
    ∙ ap (λ (k : ℕ). settled_among layout edits p before + k) (bit_is holds ∙ ap (λ (b : Bool). cond b 1 0) holds_is) ∙ sym grows

-- all of them
pub settled_all : (layout : Layout) (edits : Edits) (p : Player) (spawned before count : ℕ) → before ≡ spawned → spawned ≡ spawn_count edits
    → count ≡ settled_among layout edits p before → count ≡ settled_for (table_in layout) edits p
settled_all layout edits p spawned before count last all done = done ∙ ap (settled_among layout edits p) (last ∙ all)

-- ---- one player after the other

-- the first players' actors were counted
pub record SummedSoFar (layout : Layout) (edits : Edits) (players : List Player) (left : List Place) (count : ℕ) : Type 0 where
  pub front : List Player
  pub rest : List Player
  pub split : players ≡ front ++ rest
  pub places : ArePlaces layout left rest
  pub done : count ≡ sum_by (settled_for (table_in layout) edits) front

pub summed_none : (layout : Layout) (edits : Edits) (players : List Player) (left : List Place) → ArePlaces layout left players
    → SummedSoFar layout edits players left 0
summed_none layout edits players left p = record { front = []; rest = players; split = refl; places = p; done = refl }

-- the next player
pub summed_next : (layout : Layout) (d : Drive) (edits : Edits) (players : List Player) (k : Place) (left : List Place) (count : ℕ)
    → Serving layout d edits players → Ascend 0 players → SummedSoFar layout edits players (k ∷ left) count
    → (all : List Player) × (i : ℕ) × (p : Player) × Serving layout d edits all × IsAt all i p × (k.player ≡ p.number)
summed_next layout d edits players k left count h a s =
    let next = first_left layout k left s.rest s.places in
    let is : players ≡ s.front ++ next.0 ∷ next.1 = s.split ∙ ap (λ (l : List Player). s.front ++ l) next.2 in (
      players,
      length s.front,
      next.0,
      h,
      record {
        ascend = a;
        there = subst (λ (l : List Player). slice_get l (length s.front) ≡ Some next.0) (sym is) (get_behind s.front next.0 next.1);
      },
      next.3.number,
    )

-- and was counted
pub summed_one : (layout : Layout) (d : Drive) (edits : Edits) (players : List Player) (k : Place) (left : List Place) (spawned count more : ℕ)
    → Serving layout d edits players → Ascend 0 players → spawned ≡ spawn_count edits
    → ((layout : Layout) (edits : Edits) (players : List Player) (i : ℕ) (p : Player) → Serving layout d edits players → IsAt players i p
    → k.player ≡ p.number → spawned ≡ spawn_count edits → more ≡ settled_for (table_in layout) edits p)
    → SummedSoFar layout edits players (k ∷ left) count → SummedSoFar layout edits players left (count + more)
summed_one layout d edits players k left spawned count more h a all says s =
    let next = first_left layout k left s.rest s.places in
    let p = next.0 in
    let is : players ≡ s.front ++ p ∷ next.1 = s.split ∙ ap (λ (l : List Player). s.front ++ l) next.2 in
    let there = subst (λ (l : List Player). slice_get l (length s.front) ≡ Some p) (sym is) (get_behind s.front p next.1) in
    let one = says layout edits players (length s.front) p h (record { ascend = a; there = there }) next.3.number all in
    record {
      front = s.front ++ p ∷ [];
      rest = next.1;
      split = is ∙ sym (append_assoc s.front (p ∷ []) next.1);
      places = next.4;
      done = ap (λ (n : ℕ). n + more) s.done
          ∙ ap (λ (n : ℕ). sum_by (settled_for (table_in layout) edits) s.front + n) one
          ∙ sym (sum_by_push (settled_for (table_in layout) edits) s.front p);
    }

none_behind : (layout : Layout) (rest : List Player) → ArePlaces layout [] rest → rest ≡ []
none_behind layout [] a = refl
none_behind layout (p ∷ rest) a = absurd a

-- all were
pub summed_all : (layout : Layout) (edits : Edits) (players : List Player) (count : ℕ) → SummedSoFar layout edits players [] count
    → count ≡ sum_by (settled_for (table_in layout) edits) players
summed_all layout edits players count s =
    let none = none_behind layout s.rest s.places in
    let whole : players ≡ s.front = s.split ∙ ap (λ (l : List Player). s.front ++ l) none ∙ append-nil s.front in
    s.done ∙ ap (sum_by (settled_for (table_in layout) edits)) (sym whole)

-- ---- few places

as_many : (layout : Layout) (places : List Place) (players : List Player) → ArePlaces layout places players → length places ≡ length players
as_many layout [] [] h = refl
as_many layout [] (p ∷ players) h = absurd h
as_many layout (k ∷ places) [] h = absurd h
as_many layout (k ∷ places) (p ∷ players) h = ap suc (as_many layout places players h.1)

-- a server has few players
pub few_places : (layout : Layout) (d : Drive) (edits : Edits) (players : List Player) (places : List Place) → Serving layout d edits players
    → ArePlaces layout places players → length places ≤ 64
few_places layout d edits players places h a =
    let seats : length h.served.seats ≡ length players = ap length h.same_seats ∙ length-map players seat_in in
    let few : length h.served.seats ≤ 64 = h.serves.few in
    omega (arith, as_many layout places players a, seats, few)

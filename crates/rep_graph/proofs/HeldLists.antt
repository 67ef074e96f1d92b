-- A list that has exactly the spots that a row names is those spots.
use Rattle.std.proofs.Common.{◌≡◌, ◌∙◌, ℕ, suc, ◌+◌, ◌<◌, List, [], ◌∷◌, Bool, true, false, ◌&&◌, ◌==◌, Some, None, refl, sym, ap, arith, cond, if◌then◌else◌}
use Rattle.std.specs.Prelude.{Contains, count_by, find}
use Rattle.std.specs.Bool.{then_some}
use Rattle.std.proofs.lemmas.Bool.Decides.{nat_tests}
use Rattle.std.proofs.lemmas.List.Sums.{sum_by-cons}
use Rattle.graph_model.specs.Nodes.{Node, Spot, is_held_in, spot_of}
use Rattle.protocol_model.specs.Value.{Table}
use Rattle.protocol_model.specs.World.{Edits}
use Rattle.rep_graph.specs.Spots.{is_of, listed_spots, world_spots, HoldsSpots}

count_cons : (test : Spot → Bool) (x : Spot) (xs : List Spot)
    → count_by test (x ∷ xs) ≡ cond (test x) 1 0 + count_by test xs
count_cons test x xs = sum_by-cons (λ (y : Spot). cond (test y) 1 0) x xs

find_none : (test : Spot → Bool) (xs : List Spot) → count_by test xs ≡ 0 → find test xs ≡ None
find_none test [] h = refl
find_none test (x ∷ xs) h = by_test (test x) (sym (count_cons test x xs) ∙ h) (find_none test xs)
  where
    by_test : (t : Bool) → cond t 1 0 + count_by test xs ≡ 0 → (count_by test xs ≡ 0 → find test xs ≡ None)
        → cond t (Some x) (find test xs) ≡ None
    by_test true h rest = absurd (omega arith)
    by_test false h rest = rest (omega arith)

-- a spot that is found, passes and stands in the list
pub record Found (test : Spot → Bool) (xs : List Spot) : Type 0 where
  pub spot : Spot
  pub is : find test xs ≡ Some spot
  pub passes : test spot ≡ true
  pub there : Contains xs spot

later : (x s : Spot) (xs : List Spot) → Contains xs s → Contains (x ∷ xs) s
later x s xs h = (suc h.0, (let k = h.1 in omega arith), h.2)

passed : (test : Spot → Bool) (x : Spot) (xs : List Spot) → test x ≡ false → Found test xs → Found test (x ∷ xs)
passed test x xs e r =
    record { spot = r.spot; is = rw e r.is; passes = r.passes; there = later x r.spot xs r.there }

find_some : (test : Spot → Bool) (xs : List Spot) → 0 < count_by test xs → Found test xs
find_some test [] h = absurd (omega arith)
find_some test (x ∷ xs) h =
    by_test (test x) refl (let c = count_cons test x xs in omega arith) (find_some test xs)
  where
    by_test : (t : Bool) → test x ≡ t → 0 < cond (test x) 1 0 + count_by test xs
        → (0 < count_by test xs → Found test xs) → Found test (x ∷ xs)
    by_test true e h rest = record { spot = x; is = rw e refl; passes = e; there = (0, omega arith, refl) }
    by_test false e h rest = passed test x xs e (rest (let k = rw e at h in omega arith))

pub held_list : (row : Node) (table : Table) (edits : Edits) (spots : List Spot) (a player : ℕ)
    → HoldsSpots row table edits spots → listed_spots spots a player ≡ world_spots row table edits a player
held_list row table edits spots a player holds = by_test (is_held_in row table edits a player) (holds.counts a player)
  where
    by_test : (t : Bool) → count_by (is_of a player) spots ≡ (if t then 1 else 0)
        → find (is_of a player) spots ≡ then_some t (spot_of table edits a player)
    by_test false n = find_none (is_of a player) spots n
    by_test true n =
        let f = find_some (is_of a player) spots (omega arith) in
        let own = holds.each f.spot f.there in
        let passes : (f.spot.actor == a && f.spot.player == player) ≡ true = f.passes in
        let ea : f.spot.actor ≡ a = grind (arith, nat_tests) in
        let ep : f.spot.player ≡ player = grind (arith, nat_tests) in
        f.is
        ∙ ap (λ (s : Spot). Some s) (own ∙ ap (λ (b : ℕ). spot_of table edits b f.spot.player) ea
        ∙ ap (λ (p : ℕ). spot_of table edits a p) ep)

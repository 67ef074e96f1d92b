-- A viewer within an actor's cull distance stands in a cell that the actor's square touches.
use Rattle.std.proofs.Common.{◌≡◌, ℕ, ℤ, pos, negsuc, neg_ℤ, ◌+◌, ◌*◌, ◌<◌, ◌≤◌, Bool, true, false, nat_le, ◌&&◌, ◌+ℤ◌, ◌-ℤ◌, ◌*ℤ◌, refl, arith}
use Rattle.std.specs.Prelude.{int_le, ◌≤ℤ◌, unsigned_abs}
use Rattle.std.proofs.lemmas.Int.{ints}
use Rattle.std.proofs.lemmas.Bool.Decides.{nat_tests}
use Rattle.std.proofs.lemmas.Nat.{mul-lt}
use Rattle.graph_model.specs.Nodes.{cell_of, touches}

-- cells don't fall
cell_rises : (a b : ℤ) → a ≤ℤ b → int_le (cell_of a) (cell_of b) ≡ true
cell_rises (pos a) (pos b) h = let k : a ≤ b = omega (arith, ints) in grind (arith, ints, nat_tests)
cell_rises (pos a) (negsuc b) h = absurd (omega (arith, ints))
cell_rises (negsuc a) (pos b) h = refl
cell_rises (negsuc a) (negsuc b) h = let k : b ≤ a = omega (arith, ints) in grind (arith, ints, nat_tests)

-- the square of a difference, by how much it is
squared : (z : ℤ) → z *ℤ z ≡ pos (unsigned_abs z * unsigned_abs z)
squared (pos n) = refl
squared (negsuc n) = refl

-- a difference of at most cull, either way
near_enough : (z : ℤ) (cull : ℕ) → unsigned_abs z ≤ cull → (neg_ℤ (pos cull) ≤ℤ z) × (z ≤ℤ pos cull)
near_enough (pos n) cull h = (omega (arith, ints), omega (arith, ints))
near_enough (negsuc n) cull h = (omega (arith, ints), omega (arith, ints))

by_order : {P : Type 0} (m n : ℕ) → (m ≤ n → P) → (n < m → P) → P
by_order {P = P} m n low high = by_test (nat_le m n) refl
  where
    by_test : (t : Bool) → nat_le m n ≡ t → P
    by_test true e = low (grind (arith, nat_tests))
    by_test false e = high (grind (arith, nat_tests))

-- within the circle is within the square
in_square : (m n cull : ℕ) → m * m + n * n ≤ cull * cull → m ≤ cull
in_square m n cull h =
    by_order m cull (λ k. k) (λ k. let l = mul-lt cull cull m m k k in absurd (omega arith))

within_touches : (x vx : ℤ) (cull : ℕ) → unsigned_abs (x -ℤ vx) ≤ cull → touches cull x vx ≡ true
within_touches x vx cull h =
    let near = near_enough (x -ℤ vx) cull h in
    let low : int_le (cell_of (x -ℤ pos cull)) (cell_of vx) ≡ true =
    cell_rises (x -ℤ pos cull) vx (omega (arith, ints)) in
    let high : int_le (cell_of vx) (cell_of (x +ℤ pos cull)) ≡ true =
    cell_rises vx (x +ℤ pos cull) (omega (arith, ints)) in
    rw (low, high) refl

-- where the distance's test holds, the square touches the viewer's cell
pub distance_touches : (x vx y vy : ℤ) (cull : ℕ)
    → int_le ((x -ℤ vx) *ℤ (x -ℤ vx) +ℤ (y -ℤ vy) *ℤ (y -ℤ vy)) (pos (cull * cull)) ≡ true
    → (touches cull x vx && touches cull y vy) ≡ true
distance_touches x vx y vy cull h =
    let m = unsigned_abs (x -ℤ vx) in
    let n = unsigned_abs (y -ℤ vy) in
    let sum : unsigned_abs (x -ℤ vx) * unsigned_abs (x -ℤ vx) + unsigned_abs (y -ℤ vy) * unsigned_abs (y -ℤ vy)
    ≤ cull * cull = small _ _ (rw (squared (x -ℤ vx), squared (y -ℤ vy)) at h) in
    let across =
    within_touches x vx cull (in_square (unsigned_abs (x -ℤ vx)) (unsigned_abs (y -ℤ vy)) cull sum) in
    let along =
    within_touches y vy cull (in_square (unsigned_abs (y -ℤ vy)) (unsigned_abs (x -ℤ vx)) cull (omega arith)) in
    rw (across, along) refl
  where
    small : (a b : ℕ) → int_le (pos a) (pos b) ≡ true → a ≤ b
    small a b h = grind (arith, ints, nat_tests)

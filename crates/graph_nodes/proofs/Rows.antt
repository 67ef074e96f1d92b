-- Tests of columns and rows, as a loop over them goes on.
use Rattle.std.proofs.Common.{◌≡◌, ℕ, ◌+◌, ◌-◌, nat_eq, if◌then◌else◌, Bool, refl, ℤ, pos, ◌+ℤ◌, ◌&&◌, ◌||◌, not, true, false, arith}
use Rattle.std.specs.Prelude.{int_le, int_lt, ◌≤ℤ◌, ◌<ℤ◌}
use Rattle.std.specs.Ordering.{int_eq}
use Rattle.std.proofs.lemmas.Int.{ints}
use Rattle.std.proofs.lemmas.Bool.Decides.{nat_tests}
use Rattle.graph_nodes.specs.declared.cells.Square.{Square}
use Rattle.graph_nodes.specs.Grid.{Cell, is_cell, is_within, covers}

and_false : (b : Bool) → (b && false) ≡ false
and_false true = refl
and_false false = refl

bools : (a b c : Bool) → (a && (b || c)) ≡ ((a && b) || (a && c))
bools true b c = refl
bools false b c = refl

pub up_to : (r high : ℤ) → int_lt r (high +ℤ pos 1) ≡ int_le r high
up_to r high = grind (arith, ints, nat_tests)

pub one_more : (low row r : ℤ) → low ≤ℤ row
    → (int_le low r && int_lt r (row +ℤ pos 1)) ≡ ((int_le low r && int_lt r row) || int_eq row r)
one_more low row r h = grind (arith, ints, nat_tests)

pub none_yet : (low r : ℤ) → (int_le low r && int_lt r low) ≡ false
none_yet low r = grind (arith, ints, nat_tests)

pub not_before : (row r : ℤ) → int_eq row r ≡ true → int_lt r row ≡ false
not_before row r h = grind (arith, ints, nat_tests)

-- the cell is of that column, from one row on, and below another
abbrev pub is_below : (column low row : ℤ) → Cell → Bool
is_below column low row c = int_eq column c.0 && (int_le low c.1 && int_lt c.1 row)

pub below_next : (column low row : ℤ) (c : Cell) → low ≤ℤ row
    → is_below column low (row +ℤ pos 1) c ≡ (is_below column low row c || is_cell (column, row) c)
below_next column low row c h =
    let o = one_more low row c.1 h in
    rw o (bools (int_eq column c.0) (int_le low c.1 && int_lt c.1 row) (int_eq row c.1))

pub below_apart : (column low row : ℤ) (c : Cell) → is_cell (column, row) c ≡ true → is_below column low row c ≡ false
below_apart column low row c h = grind (arith, ints, nat_tests, not_before row c.1)

pub below_end : (column low high : ℤ) (c : Cell) → is_below column low (high +ℤ pos 1) c ≡ is_within column low high c
below_end column low high c = rw (up_to c.1 high) refl

pub below_none : (column low : ℤ) (c : Cell) → is_below column low low c ≡ false
below_none column low c = rw (none_yet low c.1) (and_false (int_eq column c.0))

pub within_none : (column low high : ℤ) (c : Cell) → high <ℤ low → is_within column low high c ≡ false
within_none column low high c h =
    let n : (int_le low c.1 && int_le c.1 high) ≡ false = grind (arith, ints, nat_tests) in
    rw n (and_false (int_eq column c.0))

-- a count goes along with one more cell or column, where it goes along at all
pub filled_more : (old mid new actor a : ℕ) (before here next out : Bool) → next ≡ (before || here)
    → (here ≡ true → before ≡ false)
    → mid ≡ (if (before && out) && nat_eq actor a then 1 else 0) + old
    → new ≡ (if (here && out) && nat_eq actor a then 1 else 0) + mid
    → new ≡ (if (next && out) && nat_eq actor a then 1 else 0) + old
filled_more old mid new actor a true true next out e apart m n = absurd (cc (apart refl))
filled_more old mid new actor a true false next out e apart m n = rw e (omega arith)
filled_more old mid new actor a false true next out e apart m n = rw e (omega arith)
filled_more old mid new actor a false false next out e apart m n = rw e (omega arith)

pub cleared_more : (old mid new actor a : ℕ) (before here next out : Bool) → next ≡ (before || here)
    → (here ≡ true → before ≡ false)
    → mid ≡ old - (if (before && out) && nat_eq actor a then 1 else 0)
    → new ≡ mid - (if (here && out) && nat_eq actor a then 1 else 0)
    → new ≡ old - (if (next && out) && nat_eq actor a then 1 else 0)
cleared_more old mid new actor a true true next out e apart m n = absurd (cc (apart refl))
cleared_more old mid new actor a true false next out e apart m n = rw e (omega arith)
cleared_more old mid new actor a false true next out e apart m n = rw e (omega arith)
cleared_more old mid new actor a false false next out e apart m n = rw e (omega arith)

-- cells of one column and one row are covered alike
covered_alike : (s : Square) (c d : Cell) → is_cell c d ≡ true → covers s c ≡ covers s d
covered_alike s c d same = grind (arith, ints, nat_tests)

out_too : (here covered covered' : Bool) → (here ≡ true → covered ≡ covered') → covered ≡ false
    → (here && not covered') ≡ here
out_too true covered covered' alike out = let e = alike refl in rw (← e, out) refl
out_too false covered covered' alike out = refl

passed_over : (here covered covered' : Bool) → (here ≡ true → covered ≡ covered') → covered ≡ true
    → (here && not covered') ≡ false
passed_over true covered covered' alike in_it = let e = alike refl in rw (← e, in_it) refl
passed_over false covered covered' alike in_it = refl

-- a cell that is covered is passed over, and one that isn't isn't
pub is_passed : (but : Square) (cell c : Cell) → covers but cell ≡ true → (is_cell cell c && not (covers but c)) ≡ false
is_passed but cell c h = passed_over (is_cell cell c) (covers but cell) (covers but c) (covered_alike but cell c) h

pub is_changed : (but : Square) (cell c : Cell) → covers but cell ≡ false
    → (is_cell cell c && not (covers but c)) ≡ is_cell cell c
is_changed but cell c h = out_too (is_cell cell c) (covers but cell) (covers but c) (covered_alike but cell c) h

-- a loop that ends where it began
pub at_start : (low row high : ℤ) → low ≤ℤ row → (low <ℤ row → row ≤ℤ high) → int_le row high ≡ false → row ≡ low
at_start low row high from to past = grind (arith, ints, nat_tests)

pub past_end : (row high : ℤ) → int_le row high ≡ false → high <ℤ row
past_end row high past = grind (arith, ints, nat_tests)

-- the columns of a square from its first on, and below another
abbrev pub is_left : (left column low high : ℤ) → Cell → Bool
is_left left column low high c = (int_le left c.0 && int_lt c.0 column) && (int_le low c.1 && int_le c.1 high)

abbrev pub is_in : (left right low high : ℤ) → Cell → Bool
is_in left right low high c = (int_le left c.0 && int_le c.0 right) && (int_le low c.1 && int_le c.1 high)

swapped : (a b c : Bool) → ((a || b) && c) ≡ ((a && c) || (b && c))
swapped true b true = refl
swapped true true false = refl
swapped true false false = refl
swapped false b c = refl

pub left_next : (left column low high : ℤ) (c : Cell) → left ≤ℤ column
    → is_left left (column +ℤ pos 1) low high c ≡ (is_left left column low high c || is_within column low high c)
left_next left column low high c h =
    rw (one_more left column c.0 h) (swapped (int_le left c.0 && int_lt c.0 column) (int_eq column c.0)
    (int_le low c.1 && int_le c.1 high))

pub left_apart : (left column low high : ℤ) (c : Cell) → is_within column low high c ≡ true
    → is_left left column low high c ≡ false
left_apart left column low high c h = grind (arith, ints, nat_tests, not_before column c.0)

pub left_end : (left right low high : ℤ) (c : Cell)
    → is_left left (right +ℤ pos 1) low high c ≡ is_in left right low high c
left_end left right low high c = rw (up_to c.0 right) refl

pub left_none : (left low high : ℤ) (c : Cell) → is_left left left low high c ≡ false
left_none left low high c = rw (none_yet left c.0) refl

pub in_none : (left right low high : ℤ) (c : Cell) → right <ℤ left → is_in left right low high c ≡ false
in_none left right low high c h =
    let n : (int_le left c.0 && int_le c.0 right) ≡ false = grind (arith, ints, nat_tests) in
    rw n refl

-- An `&&` and its halves.
use Rattle.std.proofs.Common.{◌≡◌, Bool, true, false, ◌&&◌}
use Rattle.std.proofs.lemmas.Bool.{and_parts}

-- the left half of what holds
pub left_of : (x y : Bool) → (x && y) ≡ true → x ≡ true
left_of x y h = (and_parts x y h).0

-- the right half of what holds
pub right_of : (x y : Bool) → (x && y) ≡ true → y ≡ true
right_of x y h = (and_parts x y h).1

-- both halves together
pub both : (x y : Bool) → x ≡ true → y ≡ true → (x && y) ≡ true
both true y h k = k
both false y h k = absurd (cc)

-- What the grid keeps.
use Rattle.std.specs.Prelude.{◌≡◌, ◌≢◌, ◌&&◌, ℕ, ℤ, pos, ◌+ℤ◌, ◌-ℤ◌, int_le, Bool, true, false, List, Option, Some, None, nat_eq, option_map, if◌then◌else◌}
use Rattle.std.specs.Map.{lookup}
use Rattle.std.specs.Ordering.{int_eq}
use Rattle.protocol_model.specs.declared.Reach.{Reach}
use Rattle.protocol_model.specs.declared.Reach.TheVariants.{Always, Near, Owner}
use Rattle.graph_model.specs.Nodes.{Spot, Viewer, cell_of, is_near}
use Rattle.graph_nodes.specs.declared.cells.Square.{Square}
use Rattle.graph_nodes.specs.Held.{Spots}
use Rattle.actor_lists.specs.Shared.{count_of, list_at}

-- a cell, by its column and its row
abbrev pub Cell : Type 0
Cell = ℤ × ℤ

abbrev pub is_cell : Cell → Cell → Bool
is_cell c d = int_eq c.0 d.0 && int_eq c.1 d.1

-- the cells that are touched from so far around a place
abbrev pub square_of : (x y : ℤ) (cull : ℕ) → Square
square_of x y cull = record {
  left = cell_of (x -ℤ pos cull);
  right = cell_of (x +ℤ pos cull);
  low = cell_of (y -ℤ pos cull);
  high = cell_of (y +ℤ pos cull);
}

-- the cell is one of the square's
abbrev pub covers : Square → Cell → Bool
covers s c = (int_le s.left c.0 && int_le c.0 s.right) && (int_le s.low c.1 && int_le c.1 s.high)

-- the cell is one of the column's, between two rows, ends included
abbrev pub is_within : (column low high : ℤ) → Cell → Bool
is_within column low high c = int_eq column c.0 && (int_le low c.1 && int_le c.1 high)

-- each actor's square, and each cell's actors
pub record Floor : Type 0 where
  pub squares : List (ℕ × Square)
  pub cells : List (Cell × List ℕ)

pub record Kept : Type 0 where
  pub floor : Floor
  pub spent : Bool

-- the square of each actor that is held
abbrev pub Squares : Type 0
Squares = (actor : ℕ) → Option Square

abbrev pub no_squares : Squares
no_squares a = None

abbrev pub with_square : Squares → (actor : ℕ) → Square → Squares
with_square squares actor s a = if nat_eq actor a then Some s else squares a

abbrev pub without_square : Squares → (actor : ℕ) → Squares
without_square squares actor a = if nat_eq actor a then None else squares a

-- there is a square, and it has the cell
abbrev pub is_covered : Option Square → Cell → Bool
is_covered (Some s) c = covers s c
is_covered None c = false

-- each actor is in the lists of its square's cells alone, once in each
pub record Keeps (floor : Floor) (squares : Squares) : Type 0 where
  pub each : (a : ℕ) → lookup (nat_eq a) floor.squares ≡ squares a
  pub actors : (a : ℕ) (c : Cell)
      → count_of a (list_at is_cell floor.cells c) ≡ (if is_covered (squares a) c then 1 else 0)

-- how far a spot reaches; no matter for one that isn't relevant by distance
abbrev pub cull_of : Reach → ℕ
cull_of (Near cull) = cull
cull_of Always = 0
cull_of Owner = 0

abbrev pub square_in : Spot → Square
square_in s = square_of s.x s.y (cull_of s.reach)

abbrev pub squares_of : Spots → Squares
squares_of spots a = option_map square_in (spots a 0)

-- each cell's list has exactly the actors of the spots that touch it; no spot has a player
pub record Stands (node : Kept) (spots : Spots) : Type 0 where
  pub keeps : Keeps node.floor (squares_of spots)
  pub players : (a p : ℕ) → p ≢ 0 → spots a p ≡ None
  pub near : (a p : ℕ) (s : Spot) → spots a p ≡ Some s → is_near s.reach ≡ true

-- the viewer's cell
abbrev pub cell_in : Viewer → Cell
cell_in v = (cell_of v.x, cell_of v.y)

abbrev pub given_by : Kept → Viewer → List ℕ
given_by node v = list_at is_cell node.floor.cells (cell_in v)

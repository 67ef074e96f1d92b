use Rattle.std.proofs.Common.{◌≡◌, ◌+◌, ℕ, ◌&&◌, not, nat_eq, if◌then◌else◌}
use Rattle.std.specs.Prelude.{◌≤ℤ◌, ◌<ℤ◌}
use Rattle.actor_lists.specs.Shared.{count_of, list_at}
use Rattle.graph_nodes.specs.Grid.{Cell, is_cell, covers}
use Rattle.graph_nodes.proofs.Rows.{is_left}
use Rattle.graph_nodes.proofs.grid.fill.Given as goal

abbrev pub invariant-loop-column : goal.invariant-loop-column
invariant-loop-column l = record {
  from : l.square.left ≤ℤ l.column;
  to : l.square.left <ℤ l.column → l.column ≤ℤ l.square.right;
  done : (a : ℕ) (c : Cell) → count_of a (list_at is_cell l.cells c)
      ≡ (if (is_left l.square.left l.column l.square.low l.square.high c && not
      (covers l.but c)) && nat_eq l.actor a then 1 else 0)
      + count_of a (list_at is_cell l.fn.cells c);
}

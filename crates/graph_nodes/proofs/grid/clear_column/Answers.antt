use Rattle.std.proofs.Common.{◌≡◌, ℤ, pos, ◌+ℤ◌, arith, to_z, of_z, w32}
use Rattle.std.proofs.lemmas.Int.{ints, to_z-of_z}
use Rattle.graph_nodes.proofs.Rows.{below_next, below_apart, below_end, below_none, within_none, at_start, past_end, cleared_more}
use Rattle.graph_nodes.proofs.grid.clear_column.Goals as goal

pub loop-row-preserved : goal.loop-row-preserved
loop-row-preserved c =
    let row : ℤ = to_z w32 c.loop-row.row-bits in
    let column : to_z w32 (of_z w32 c.args.column) ≡ c.args.column = to_z-of_z w32 _ c.ranges.column in
    let low : to_z w32 (of_z w32 c.args.low) ≡ c.args.low = to_z-of_z w32 _ c.ranges.low in
    let high : to_z w32 (of_z w32 c.args.high) ≡ c.args.high = to_z-of_z w32 _ c.ranges.high in
    let up : to_z w32 (of_z w32 (row +ℤ pos 1)) ≡ row +ℤ pos 1 = omega (arith, ints) in
    rw (column, low, up, high) (record {
      from = omega (arith, ints, c.loop-row.invariant.from);
      to = λ h. omega (arith, ints);
      done = λ a cell.
          cleared_more _ _ _ c.args.actor a _ _ _ _
          (below_next c.args.column c.args.low row cell (omega (arith, ints, c.loop-row.invariant.from)))
          (below_apart c.args.column c.args.low row cell)
          (rw (column, low) at (c.loop-row.invariant.done a cell)) (rw column at (c.in_ok-clear_cell.ensures a cell));
    })

pub returns-in_ok-clear_cell : goal.returns-in_ok-clear_cell
returns-in_ok-clear_cell c = λ a cell.
    let row : ℤ = to_z w32 c.loop-row.row-bits in
    let column : to_z w32 (of_z w32 c.args.column) ≡ c.args.column = to_z-of_z w32 _ c.ranges.column in
    let low : to_z w32 (of_z w32 c.args.low) ≡ c.args.low = to_z-of_z w32 _ c.ranges.low in
    let last : row ≡ c.args.high = omega (arith, ints) in
    let next = below_next c.args.column c.args.low row cell (omega (arith, ints, c.loop-row.invariant.from)) in
    rw (← below_end c.args.column c.args.low c.args.high cell, ← last)
    (cleared_more _ _ _ c.args.actor a _ _ _ _ next (below_apart c.args.column c.args.low row cell)
    (rw (column, low) at (c.loop-row.invariant.done a cell)) (rw column at (c.in_ok-clear_cell.ensures a cell)))

pub returns : goal.returns
returns c = λ a cell.
    let column : to_z w32 (of_z w32 c.args.column) ≡ c.args.column = to_z-of_z w32 _ c.ranges.column in
    let low : to_z w32 (of_z w32 c.args.low) ≡ c.args.low = to_z-of_z w32 _ c.ranges.low in
    let high : to_z w32 (of_z w32 c.args.high) ≡ c.args.high = to_z-of_z w32 _ c.ranges.high in
    let past = rw high at c.loop-row-test.false in
    let start = at_start c.args.low _ c.args.high (rw low at c.loop-row.invariant.from)
    (rw (low, high) at c.loop-row.invariant.to) past in
    let before = rw (column, low, start, below_none c.args.column c.args.low cell) at
    (c.loop-row.invariant.done a cell) in
    rw (within_none c.args.column c.args.low c.args.high cell (past_end _ _ (rw start at past))) before

pub loop-row-init : goal.loop-row-init
loop-row-init c =
    let column : to_z w32 (of_z w32 c.args.column) ≡ c.args.column = to_z-of_z w32 _ c.ranges.column in
    let low : to_z w32 (of_z w32 c.args.low) ≡ c.args.low = to_z-of_z w32 _ c.ranges.low in
    rw (column, low) (record {
      from = omega (arith, ints);
      to = λ h. absurd (omega (arith, ints));
      done = λ a cell. rw (below_none c.args.column c.args.low cell) (omega arith);
    })

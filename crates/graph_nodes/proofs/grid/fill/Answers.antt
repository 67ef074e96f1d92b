use Rattle.std.proofs.Common.{◌≡◌, rules, ℤ, pos, ◌+ℤ◌, arith, to_z, of_z, w32}
use Rattle.std.proofs.lemmas.Int.{ints, to_z-of_z}
use Rattle.graph_nodes.proofs.Rows.{left_next, left_apart, left_end, left_none, in_none, at_start, past_end, filled_more}
use Rattle.graph_nodes.proofs.grid.fill.Goals as goal

pub loop-column-preserved : goal.loop-column-preserved
loop-column-preserved c =
    let low : to_z w32 (of_z w32 c.args.square.low) ≡ c.args.square.low =
    to_z-of_z w32 c.args.square.low (search rules) in
    let high : to_z w32 (of_z w32 c.args.square.high) ≡ c.args.square.high =
    to_z-of_z w32 c.args.square.high (search rules) in
    let column : ℤ = to_z w32 c.loop-column.column-bits in
    let up : to_z w32 (of_z w32 (column +ℤ pos 1)) ≡ column +ℤ pos 1 = omega (arith, ints) in
    let s = c.args.square in
    rw up (record {
      from = omega (arith, ints, c.loop-column.invariant.from);
      to = λ h. omega (arith, ints);
      done = λ a cell.
          filled_more _ _ _ c.args.actor a _ _ _ _
          (left_next s.left column s.low s.high cell c.loop-column.invariant.from)
          (left_apart s.left column s.low s.high cell)
          (c.loop-column.invariant.done a cell) (rw (low, high) at (c.in_ok-fill_column.ensures a cell));
    })

pub returns-in_ok-fill_column : goal.returns-in_ok-fill_column
returns-in_ok-fill_column c = λ a cell.
    let low : to_z w32 (of_z w32 c.args.square.low) ≡ c.args.square.low =
    to_z-of_z w32 c.args.square.low (search rules) in
    let high : to_z w32 (of_z w32 c.args.square.high) ≡ c.args.square.high =
    to_z-of_z w32 c.args.square.high (search rules) in
    let column : ℤ = to_z w32 c.loop-column.column-bits in
    let s = c.args.square in
    let last : column ≡ s.right = omega (arith, ints) in
    rw (← left_end s.left s.right s.low s.high cell, ← last)
    (filled_more _ _ _ c.args.actor a _ _ _ _ (left_next s.left column s.low s.high cell c.loop-column.invariant.from)
    (left_apart s.left column s.low s.high cell)
    (c.loop-column.invariant.done a cell) (rw (low, high) at (c.in_ok-fill_column.ensures a cell)))

pub returns : goal.returns
returns c = λ a cell.
    let s = c.args.square in
    let right : to_z w32 (of_z w32 c.args.square.right) ≡ c.args.square.right =
    to_z-of_z w32 c.args.square.right (search rules) in
    let past = rw right at c.loop-column-test.false in
    let start = at_start s.left _ s.right c.loop-column.invariant.from c.loop-column.invariant.to past in
    let before = rw (start, left_none s.left s.low s.high cell) at (c.loop-column.invariant.done a cell) in
    rw (in_none s.left s.right s.low s.high cell (past_end _ _ (rw start at past))) before

pub loop-column-init : goal.loop-column-init
loop-column-init c =
    let left : to_z w32 (of_z w32 c.args.square.left) ≡ c.args.square.left =
    to_z-of_z w32 c.args.square.left (search rules) in
    let s = c.args.square in
    rw left (record {
      from = omega (arith, ints);
      to = λ h. absurd (omega (arith, ints));
      done = λ a cell. rw (left_none s.left s.low s.high cell) (omega arith);
    })

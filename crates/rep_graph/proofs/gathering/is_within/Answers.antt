use Rattle.std.proofs.Common.{◌≡◌, ◌≤◌, ◌∙◌, ◌-ℤ◌, arith, to_z, of_z, w32}
use Rattle.std.specs.Prelude.{unsigned_abs}
use Rattle.std.proofs.lemmas.Int.{to_z-of_z}
use Rattle.rep_graph.proofs.Seeing.{near_is}
use Rattle.rep_graph.proofs.gathering.is_within.Goals as goal

pub returns : goal.returns
returns c =
    let x : to_z w32 (of_z w32 c.args.x) ≡ c.args.x = to_z-of_z w32 _ c.ranges.x in
    let y : to_z w32 (of_z w32 c.args.y) ≡ c.args.y = to_z-of_z w32 _ c.ranges.y in
    let from_x : to_z w32 (of_z w32 c.args.from_x) ≡ c.args.from_x = to_z-of_z w32 _ c.ranges.from_x in
    let from_y : to_z w32 (of_z w32 c.args.from_y) ≡ c.args.from_y = to_z-of_z w32 _ c.ranges.from_y in
    let dx : c.from-dx.result ≡ unsigned_abs (c.args.x -ℤ c.args.from_x) = c.from-dx.ensures
    ∙ rw (x, from_x) at c.abs_diff.ensures in
    let dy : c.from-dy.result ≡ unsigned_abs (c.args.y -ℤ c.args.from_y) = c.from-dy.ensures
    ∙ rw (y, from_y) at c.abs_diff-2.ensures in
    let most : c.args.cull ≤ 4294967295 = omega arith in
    rw c.from-cull.ensures
    (near_is c.args.x c.args.y c.args.from_x c.args.from_y c.args.cull c.from-dx.result c.from-dy.result
    c.saturating_add.result dx dy c.saturating_add.ensures most)

use Rattle.std.proofs.Common.{◌+◌, ◌≤◌, arith}
use Rattle.driver_tests.proofs.More.{more}
use Rattle.driver_tests.proofs.playing.spawns.Goals as goal

pub returns : goal.returns
returns c =
    let le : c.loop-before.before ≤ 65535 =
    omega (arith, c.loop-before.auto.before-end, c.from-before-end.ensures, c.ranges.count.fits) in
    more _ (c.args.edits + c.loop-before.before) _ (omega (arith, le)) c.loop-before.invariant

use Rattle.std.proofs.Common.{◌≡◌, ◌*◌, ◌^◌, ◌%◌, arith}
use Rattle.std.proofs.lemmas.Nat.{one_shl}
use Rattle.class_members.proofs.ArgKinds.{width_found}
use Rattle.class_members.proofs.call.longest_int.Goals as goal

pub returns-else-width-max-clause-exact : goal.returns-else-width-max-clause-exact
returns-else-width-max-clause-exact c =
    let below = c.loop-width-test.true in
    let power : 1 * 2 ^ c.loop-width.width % 4294967296 ≡ 2 ^ c.loop-width.width =
    one_shl c.loop-width.width 32 (omega (arith, below)) in
    width_found c.args.max c.loop-width.width c.requires c.loop-width.invariant.less
    (omega (arith, c.if-width-max.false, power))

pub returns-after-loop-width-clause-exact : goal.returns-after-loop-width-clause-exact
returns-after-loop-width-clause-exact c =
    let last : c.loop-width.width ≡ 16 = omega (arith, c.loop-width-test.false, c.loop-width.invariant.most) in
    width_found c.args.max c.loop-width.width c.requires c.loop-width.invariant.less (rw last c.requires)

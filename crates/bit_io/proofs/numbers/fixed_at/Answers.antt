use Rattle.std.proofs.Common.{arith}
use Rattle.bit_io.proofs.Places.{fixed-between, fixed-past}
use Rattle.bit_io.proofs.numbers.fixed_at.Goals as goal

pub returns-then-to-at-clause-exact : goal.returns-then-to-at-clause-exact
returns-then-to-at-clause-exact c = fixed-past c.args.bytes.now c.args.at c.args.to c.args.width c.requires.order (omega arith) c.requires.within

pub returns-clause-exact : goal.returns-clause-exact
returns-clause-exact c =
    rw c.bits_at.ensures (fixed-between c.args.bytes.now c.args.at c.args.to c.args.width (λ i. omega (arith, c.type_inv.bytes i)) (omega arith) c.requires.within)

use Rattle.std.proofs.Common.{arith, sym}
use Rattle.bit_io.proofs.Places.{get-between, get-past}
use Rattle.bit_io.proofs.slice.bit_at.Goals as goal

pub returns : goal.returns
returns c =
    rw c.bits_at.ensures (sym (get-between c.args.bytes.now c.args.from c.args.to c.args.index (λ i. omega (arith, c.type_inv.bytes i)) (omega arith) c.requires.within))

pub returns-then-index-to : goal.returns-then-index-to
returns-then-index-to c = sym (get-past c.args.bytes.now c.args.from c.args.to c.args.index c.requires.order (omega arith) c.requires.within)

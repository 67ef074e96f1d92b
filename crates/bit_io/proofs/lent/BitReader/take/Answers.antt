use Rattle.std.proofs.Common.{arith}
use Rattle.bit_io.proofs.Places.{bits-between, bits-past}
use Rattle.bit_io.proofs.lent.BitReader.take.Goals as goal

pub returns-then-self-count-clause-exact : goal.returns-then-self-count-clause-exact
returns-then-self-count-clause-exact c =
    let r = c.args.self.now in bits-past r.bytes.now r.place r.to c.args.count r.ordered (omega arith) r.within

pub returns-clause-exact : goal.returns-clause-exact
returns-clause-exact c =
    let r = c.args.self.now in bits-between r.bytes.now r.place r.to c.args.count (omega arith) r.within

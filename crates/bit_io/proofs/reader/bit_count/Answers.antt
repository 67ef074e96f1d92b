use Rattle.std.proofs.Common.{sym}
use Rattle.bit_io.proofs.Places.{length-between}
use Rattle.bit_io.proofs.reader.bit_count.Goals as goal

pub returns-clause-count : goal.returns-clause-count
returns-clause-count c = sym (length-between c.args.bytes.now c.args.from c.args.to c.requires.order c.requires.within)

use Rattle.std.proofs.Common.{arith}
use Rattle.ack_book.proofs.Words.{pushed_bit}
use Rattle.ack_book.proofs.history.push_number.Goals as goal

pub returns : goal.returns
returns c = λ i below. pushed_bit c.shift.new.words i _ (omega (arith, c.shift.array_long)) (c.shift.ensures i below)

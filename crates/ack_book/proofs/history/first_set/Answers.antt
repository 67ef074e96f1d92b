use Rattle.std.proofs.Common.{arith, rules}
use Rattle.ack_book.proofs.Histories.{first_bit}
use Rattle.ack_book.proofs.history.first_set.Goals as goal

pub returns-then-words-w-ne0-clause-some : goal.returns-then-words-w-ne0-clause-some
returns-then-words-w-ne0-clause-some c =
    first_bit c.args.words.now c.loop-w.w (omega arith) (omega arith) (search rules) c.loop-w.invariant

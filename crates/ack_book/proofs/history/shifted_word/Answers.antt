use Rattle.std.proofs.Common.{arith}
use Rattle.ack_book.proofs.Words.{shifted_bit}
use Rattle.ack_book.proofs.history.shifted_word.Goals as goal

pub returns : goal.returns
returns c = λ i below.
    shifted_bit c.args.words.now c.args.w c.args.by i c.word_before-high.result c.word_before-low.result c.upper_word.result below (omega arith)
    c.word_before-high.ensures c.word_before-low.ensures c.upper_word.ensures

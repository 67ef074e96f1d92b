use Rattle.std.proofs.Common.{w64, arith}
use Rattle.std.proofs.lemmas.Nat.Bits.{bit_at_set_same, bit_at_set_other, bit_at_clear_same, bit_at_clear_other}
use Rattle.outgoing_channels.proofs.index_set.with_bit.Goals as goal

pub returns-then-is_in-clause-here : goal.returns-then-is_in-clause-here
returns-then-is_in-clause-here c = rw c.if-is_in.true (bit_at_set_same w64 c.args.word c.args.place (omega arith))

pub returns-then-is_in-clause-others : goal.returns-then-is_in-clause-others
returns-then-is_in-clause-others c = λ i low other. bit_at_set_other w64 c.args.word c.args.place (omega arith) i other

pub returns-else-is_in-clause-here : goal.returns-else-is_in-clause-here
returns-else-is_in-clause-here c = rw c.if-is_in.false (bit_at_clear_same w64 c.args.word c.args.place (omega arith))

pub returns-else-is_in-clause-others : goal.returns-else-is_in-clause-others
returns-else-is_in-clause-others c =
    λ i low other. bit_at_clear_other w64 c.args.word c.args.place (omega arith) i low other

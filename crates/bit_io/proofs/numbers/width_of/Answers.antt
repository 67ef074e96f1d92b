use Rattle.std.proofs.Common.{◌-◌, refl, sym, arith}
use Rattle.protocol_laws.proofs.Widths.{int_width-is, width_none}
use Rattle.bit_io.proofs.WidthSteps.{width_fewer_is, width_most_is, is_zero}
use Rattle.bit_io.proofs.numbers.width_of.Goals as goal

pub returns-then-most-eq0-clause-width : goal.returns-then-most-eq0-clause-width
returns-then-most-eq0-clause-width c =
    let max = c.args.max in
    let none = is_zero (max - 1) (omega arith) c.if-most-eq0.true in
    sym (int_width-is max c.args.number 0 (omega arith) (width_none max c.args.number (omega arith)))

pub returns-then-low_bits-fewer-clause-width : goal.returns-then-low_bits-fewer-clause-width
returns-then-low_bits-fewer-clause-width c = width_fewer_is c.args.max c.args.number _ c.low_bits.result c.requires (omega arith) c.if-most-eq0.false refl c.low_bits.ensures c.if-low_bits-fewer.true

pub returns-else-low_bits-fewer-clause-width : goal.returns-else-low_bits-fewer-clause-width
returns-else-low_bits-fewer-clause-width c = width_most_is c.args.max c.args.number _ c.low_bits.result c.requires (omega arith) c.if-most-eq0.false refl c.low_bits.ensures c.if-low_bits-fewer.false

use Rattle.std.proofs.Common.{◌+◌, arith}
use Rattle.protocol_laws.proofs.Digits.{IsBytes}
use Rattle.bit_io.proofs.Steps.{byte_and_rest}
use Rattle.bit_io.proofs.EightBytes.{next_part, no_part}
use Rattle.bit_io.proofs.words.word_at.Goals as goal

pub returns-clause-number : goal.returns-clause-number
returns-clause-number c =
    let bs = c.args.bytes.now in
    let i = c.args.first in
    let h : IsBytes bs = λ j. omega (arith, c.type_inv.bytes j) in
    omega (
      arith,
      byte_and_rest bs i (i + 1) (omega arith) h,
      byte_and_rest bs (i + 1) (i + 2) (omega arith) h,
      byte_and_rest bs (i + 2) (i + 3) (omega arith) h,
      byte_and_rest bs (i + 3) (i + 4) (omega arith) h,
      byte_and_rest bs (i + 4) (i + 5) (omega arith) h,
      byte_and_rest bs (i + 5) (i + 6) (omega arith) h,
      byte_and_rest bs (i + 6) (i + 7) (omega arith) h,
      byte_and_rest bs (i + 7) (i + 8) (omega arith) h,
      h i,
      h (i + 1),
      h (i + 2),
      h (i + 3),
      h (i + 4),
      h (i + 5),
      h (i + 6),
      h (i + 7),
    )

pub returns-clause-part : goal.returns-clause-part
returns-clause-part c =
    let bs = c.args.bytes.now in
    let i = c.args.first in
    omega (
      arith,
      next_part bs i (i + 1) 7 (omega arith) (omega arith),
      next_part bs (i + 1) (i + 2) 6 (omega arith) (omega arith),
      next_part bs (i + 2) (i + 3) 5 (omega arith) (omega arith),
      next_part bs (i + 3) (i + 4) 4 (omega arith) (omega arith),
      next_part bs (i + 4) (i + 5) 3 (omega arith) (omega arith),
      next_part bs (i + 5) (i + 6) 2 (omega arith) (omega arith),
      next_part bs (i + 6) (i + 7) 1 (omega arith) (omega arith),
      next_part bs (i + 7) (i + 8) 0 (omega arith) (omega arith),
      no_part bs (i + 8),
    )

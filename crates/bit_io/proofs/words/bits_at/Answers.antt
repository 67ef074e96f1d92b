use Rattle.std.proofs.Common.{◌/◌, ◌%◌, ◌^◌, ap, ◌∙◌, arith}
use Rattle.protocol_laws.specs.Packed.{number_of_bytes}
use Rattle.bit_io.proofs.Steps.{word_part}
use Rattle.bit_io.proofs.words.bits_at.Goals as goal

pub returns-then-shift-width-le64 : goal.returns-then-shift-width-le64
returns-then-shift-width-le64 c =
    c.low_word.ensures
    ∙ ap (λ m. m / 2 ^ (c.args.at % 8) % 2 ^ c.args.width) c.word_at-word.ensures.number
    ∙ word_part (number_of_bytes c.args.bytes.now) (c.args.at / 8) (c.args.at % 8) c.args.width c.args.at (omega arith) (omega arith)

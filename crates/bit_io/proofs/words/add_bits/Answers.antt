use Rattle.std.proofs.Common.{◌+◌, ◌%◌, ap, ◌∙◌, arith}
use Rattle.protocol_laws.specs.Packed.{number_of_bytes}
use Rattle.bit_io.proofs.Steps.{shifted_fits, shifted_is, word_room}
use Rattle.bit_io.proofs.words.add_bits.Goals as goal

pub add_word-requires-clause-fits : goal.add_word-requires-clause-fits
add_word-requires-clause-fits c =
    let r = c.requires in
    let is = shifted_is c.args.at c.args.value (shifted_fits c.args.value c.args.width (c.args.at % 8) r.fits (omega arith)) in
    rw is (word_room (number_of_bytes c.args.bytes.now.items) c.args.at c.args.value c.args.width r.clear r.fits (omega arith))

pub returns-then-shift-width-le64-clause-number : goal.returns-then-shift-width-le64-clause-number
returns-then-shift-width-le64-clause-number c =
    let r = c.requires in
    let is = shifted_is c.args.at c.args.value (shifted_fits c.args.value c.args.width (c.args.at % 8) r.fits (omega arith)) in
    c.add_word.ensures.number ∙ ap (λ m. number_of_bytes c.args.bytes.now.items + m) is

use Rattle.std.proofs.Common.{sym, ◌∙◌, arith, length, ◌<◌}
use Rattle.std.proofs.lemmas.Bool.Decides.{nat_tests}
use Rattle.script_spelling.proofs.HexBytes.{datagram-is, datagram-long, octets-digits}
use Rattle.script_spelling.proofs.hex_text.is_datagram.Goals as goal

pub returns-then-text-gt4096 : goal.returns-then-text-gt4096
returns-then-text-gt4096 c =
    let text = c.args.text.now in
    let long : 4096 < length text = omega (arith, c.if-text-gt4096.true) in
    sym (datagram-long text (octets-digits text (sym c.are_same.ensures
    ∙ c.if-are_same.false) (omega (arith, long))) long)

pub returns : goal.returns
returns c =
    let text = c.args.text.now in
    let some : 0 < length text = grind (arith, nat_tests) in
    c.are_pairs.ensures
    ∙ sym (datagram-is text (octets-digits text (sym c.are_same.ensures
    ∙ c.if-are_same.false) some) c.if-text-gt4096.false)

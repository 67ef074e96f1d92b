use Rattle.std.proofs.Common.{◌∙◌, arith}
use Rattle.std.proofs.lemmas.Bool.Decides.{nat_tests}
use Rattle.event_text.proofs.HexText.{hex_of-is}
use Rattle.event_text.proofs.words.bytes_text.Goals as goal

pub returns-in_ok-encode : goal.returns-in_ok-encode
returns-in_ok-encode c =
    let bytes = c.args.bytes.now in
    c.in_ok-encode.ensures ∙ hex_of-is bytes (λ i. omega (arith, c.type_inv.bytes i)) (grind (arith, nat_tests))

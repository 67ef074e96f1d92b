use Rattle.std.proofs.Common.{Some, ap, ◌∙◌}
use Rattle.script_spelling.proofs.HexBytes.{decoded-some, decoded-none}
use Rattle.script_spelling.proofs.hex_text.hex_bytes.Goals as goal

pub returns-in-Ok : goal.returns-in-Ok
returns-in-Ok c = ap (λ bytes. Some bytes) c.from_vec.ensures ∙ decoded-some c.args.text.now _ c.in-Ok.ensures.ok

pub returns-in-Err-InvalidHexCharacter : goal.returns-in-Err-InvalidHexCharacter
returns-in-Err-InvalidHexCharacter c =
    decoded-none c.args.text.now c.in-Err-InvalidHexCharacter.field-0 c.in-Err-InvalidHexCharacter.ensures.err (λ e. cc)

pub returns-in-Err-OddLength : goal.returns-in-Err-OddLength
returns-in-Err-OddLength c =
    decoded-none c.args.text.now c.in-Err-OddLength.field-0 c.in-Err-OddLength.ensures.err (λ e. cc)

pub returns-in-Err-InvalidStringLength : goal.returns-in-Err-InvalidStringLength
returns-in-Err-InvalidStringLength c =
    decoded-none c.args.text.now c.in-Err-InvalidStringLength.field-0 c.in-Err-InvalidStringLength.ensures.err (λ e. cc)

use Rattle.std.proofs.Common.{[], ◌∷◌, ◌++◌, refl, append_assoc, codes, decimal}
use Rattle.program_model.specs.Refused.{line_word}
use Rattle.unet.proofs.replay.refused_script.Goals as goal

pub returns : goal.returns
returns c =
    let number = decimal c.args.line in
    let why = line_word c.args.why in
    rw (
      c.in_ok-text.ensures.ok,
      c.why_word-why.ensures,
      append_assoc (number ++ codes ": ") why (10 ∷ []),
      append_assoc number (codes ": ") (why ++ 10 ∷ []),
    ) refl

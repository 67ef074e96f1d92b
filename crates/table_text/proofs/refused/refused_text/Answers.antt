use Rattle.std.proofs.Common.{[], ◌∷◌, ◌++◌, refl, append_assoc, codes}
use Rattle.script_model.specs.Reports.{words}
use Rattle.program_model.specs.Refused.{place_words, table_word}
use Rattle.table_text.proofs.refused.refused_text.Goals as goal

pub returns : goal.returns
returns c =
    let place = words (place_words c.args.place) in
    let why = table_word c.args.why in
    rw (
      c.in_ok-format.ensures.ok,
      c.in_ok-place.ensures,
      c.why_word-why.ensures,
      append_assoc (place ++ codes ": ") why (10 ∷ []),
      append_assoc place (codes ": ") (why ++ 10 ∷ []),
    ) refl

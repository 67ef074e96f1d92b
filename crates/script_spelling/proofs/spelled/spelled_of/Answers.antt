use Rattle.std.proofs.Common.{◌≡◌, Option, Some, None, sym, ◌∙◌, ap, option_map}
use Rattle.script_model.specs.Script.{◌>>=◌}
use Rattle.script_spelling.specs.Fields.{pieces_after}
use Rattle.script_spelling.specs.Reading.{spelled_as}
use Rattle.script_spelling.specs.SpelledBy.{spelled_by}
use Rattle.script_spelling.specs.Words.{word_of}
use Rattle.script_spelling.specs.declared.word.Word.{Word}
use Rattle.script_spelling.proofs.Spelling.{spelled_text}
use Rattle.script_spelling.proofs.spelled.spelled_of.Goals as goal

pub returns-in_err-word_of : goal.returns-in_err-word_of
returns-in_err-word_of c =
    let fields = pieces_after 32 c.first_piece.result.1 in
    let word : word_of c.first_piece.result.0.now ≡ None = sym c.word_of.ensures ∙ c.in_err-word_of.was in
    ap (option_map spelled_by) c.from_residual.ensures
    ∙ sym (spelled_text c.args.text.now c.first_piece.result.0.now fields c.first_piece.ensures.exact
    ∙ ap (λ (o : Option Word). o >>= (λ w. spelled_as w fields)) word)

pub returns : goal.returns
returns c =
    let fields = pieces_after 32 c.first_piece.result.1 in
    let word : word_of c.first_piece.result.0.now ≡ Some c.in_ok-word_of.field-0 =
    sym c.word_of.ensures ∙ c.in_ok-word_of.was in
    c.spelled_as.ensures
    ∙ sym (spelled_text c.args.text.now c.first_piece.result.0.now fields c.first_piece.ensures.exact
    ∙ ap (λ (o : Option Word). o >>= (λ w. spelled_as w fields)) word)

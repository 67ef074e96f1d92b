use Rattle.std.proofs.Common.{sym, ◌∙◌, ap, ◌+◌, length}
use Rattle.script_spelling.specs.Fields.{pieces_after}
use Rattle.script_spelling.proofs.Pieces.{pieces-count}
use Rattle.script_spelling.proofs.fields.field_count.Goals as goal

pub returns-in-Some : goal.returns-in-Some
returns-in-Some c =
    ap (λ n. n + 1) c.separators.ensures ∙ sym (pieces-count 32 c.in-Some.text.now)
    ∙ ap (λ fields. length (pieces_after 32 fields)) (sym c.in-Some.is)

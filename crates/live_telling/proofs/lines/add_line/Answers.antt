use Rattle.std.proofs.Common.{◌∙◌}
use Rattle.live_telling.proofs.Adding.{adds_text, on_ok_then}
use Rattle.live_telling.proofs.lines.add_line.Goals as goal

pub returns : goal.returns
returns c =
    on_ok_then c.push.result _ _ c.push.ensures.ok
    (λ pushed. adds_text _ _ _ _ (c.from_vec-text.ensures ∙ c.in_ok-from_slice.ensures.items
    ∙ c.as_bytes.ensures.value) pushed)

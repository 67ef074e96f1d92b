use Rattle.live_telling.proofs.Adding.{adds_printed, on_ok_then}
use Rattle.live_telling.proofs.lines.tell_one.Goals as goal

pub returns : goal.returns
returns c =
    on_ok_then c.push.result _ _ c.push.ensures.ok
    (λ pushed. adds_printed _ _ _ _ _ c.new-text.ensures c.in_ok-print.ensures.ok pushed)

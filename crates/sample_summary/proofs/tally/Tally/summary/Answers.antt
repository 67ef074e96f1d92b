use Rattle.std.proofs.Common.{ap, ◌∙◌}
use Rattle.script_model.specs.Lines.{Text}
use Rattle.sample_summary.specs.Tallied.{summary_lines}
use Rattle.sample_summary.proofs.Counting.{summary_is}
use Rattle.sample_summary.proofs.tally.Tally.summary.Goals as goal

pub returns : goal.returns
returns c = λ table story told h settled.
    let digest = c.deref.ensures ∙ c.in_ok-digest.ensures in
    summary_is c.args.ticks c.args.self c.args.settled c.finalize.result table story told _ h settled c.finalize.ensures
    (c.in_ok-text.ensures ∙ ap (λ (d : Text). summary_lines c.args.ticks c.args.self.counts c.args.settled d) digest)

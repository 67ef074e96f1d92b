use Rattle.std.proofs.Common.{◌++◌, List, ℕ, ap, ◌∙◌}
use Rattle.script_model.specs.Reports.{report_text}
use Rattle.class_layout.specs.Tables.{table_in}
use Rattle.script_lines.specs.ReportOf.{report_of}
use Rattle.sample_summary.proofs.Counting.{tally_more}
use Rattle.sample_summary.proofs.tally.Tally.add.Goals as goal

pub returns : goal.returns
returns c = λ told h.
    let report = report_of (table_in c.args.classes.now) c.args.event.now in
    let text = c.as_slice.ensures ∙ c.in_ok-print.ensures.ok ∙ ap (λ (t : List ℕ). t ++ report_text report) c.new-text.ensures in
    tally_more c.args.self.now _ told report c.as_slice.result.now text (c.in_ok-add.ensures (table_in c.args.classes.now) told) c.update.ensures h

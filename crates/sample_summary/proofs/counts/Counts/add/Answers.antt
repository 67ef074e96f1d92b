use Rattle.script_lines.specs.ReportOf.{report_of}
use Rattle.sample_summary.proofs.Counting.{counts_more}
use Rattle.sample_summary.proofs.counts.Counts.add.Goals as goal

pub returns : goal.returns
returns c = λ table told h.
    counts_more c.args.self.now _ told (report_of table c.args.event.now) _ _ _ (c.packet_down.ensures table) (c.packet_up.ensures table)
    (c.tells_refusal.ensures table) c.in_ok-add.ensures c.in_ok-add-2.ensures c.in_ok-self.ensures h

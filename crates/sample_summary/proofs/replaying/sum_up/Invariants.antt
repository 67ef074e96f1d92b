use Rattle.std.proofs.Common.{drop}
use Rattle.sample_summary.proofs.Replayed.{IsReplayed}
use Rattle.sample_summary.proofs.replaying.sum_up.Given as goal

abbrev pub invariant-loop-line : goal.invariant-loop-line
invariant-loop-line l = IsReplayed l.replay l.tally l.classes (drop l.line-index l.lines) l.lines

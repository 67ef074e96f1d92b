use Rattle.sample_summary.proofs.Counting.{packet_same}
use Rattle.sample_summary.proofs.counts.Traffic.add.Goals as goal

pub returns-in-None : goal.returns-in-None
returns-in-None c = λ packets is. rw c.in-None.is (packet_same c.args.self.now packets is)

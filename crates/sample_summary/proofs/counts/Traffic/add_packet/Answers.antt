use Rattle.sample_summary.proofs.Counting.{packet_more}
use Rattle.sample_summary.proofs.counts.Traffic.add_packet.Goals as goal

pub returns : goal.returns
returns c = λ packets is.
    packet_more c.args.self.now _ c.args.packet.now packets c.in_ok-self.ensures c.in_ok-self-2.ensures is

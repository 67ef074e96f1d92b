use Rattle.protocol_laws.proofs.FieldLengths.{ack_length}
use Rattle.packet_codec.proofs.sizes.entry_bits.Goals as goal

pub returns-in-Ack : goal.returns-in-Ack
returns-in-Ack c = rw c.in-Ack.is (ack_length c.args.version _ (rw c.in-Ack.is at c.requires))

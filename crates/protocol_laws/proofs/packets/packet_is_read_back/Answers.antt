use Rattle.protocol_laws.proofs.PacketLaws.{packet_back}
use Rattle.protocol_laws.proofs.packets.packet_is_read_back.Goals as goal

pub returns : goal.returns
returns c = packet_back

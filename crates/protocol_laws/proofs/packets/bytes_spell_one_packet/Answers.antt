use Rattle.protocol_laws.proofs.PacketLaws.{one_packet}
use Rattle.protocol_laws.proofs.packets.bytes_spell_one_packet.Goals as goal

pub returns : goal.returns
returns c = one_packet

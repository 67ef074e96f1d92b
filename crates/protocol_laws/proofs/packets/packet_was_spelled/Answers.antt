use Rattle.protocol_laws.proofs.BytesSpelled.{packet_spelled}
use Rattle.protocol_laws.proofs.packets.packet_was_spelled.Goals as goal

pub returns : goal.returns
returns c = packet_spelled

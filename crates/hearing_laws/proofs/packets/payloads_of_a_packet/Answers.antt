use Rattle.hearing_laws.proofs.Unseen.{handed_is}
use Rattle.hearing_laws.proofs.packets.payloads_of_a_packet.Goals as goal

pub returns : goal.returns
returns c = handed_is

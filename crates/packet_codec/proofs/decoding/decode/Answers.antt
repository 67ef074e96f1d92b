use Rattle.std.proofs.Common.{◌≡◌, Err}
use Rattle.protocol_model.specs.PacketReading.{packet_at}
use Rattle.bit_io.specs.Lent.{bits_left}
use Rattle.packet_codec.specs.Values.{packet_value}
use Rattle.packet_codec.specs.Reads.{fault_of}
use Rattle.packet_codec.proofs.Stopping.{reads_packet, refuses}
use Rattle.packet_codec.proofs.decoding.decode.Goals as goal

pub returns-in-Ok-clause-exact : goal.returns-in-Ok-clause-exact
returns-in-Ok-clause-exact c =
    reads_packet c.args.version c.args.bytes.now c.in_ok-end.end (bits_left c.new-reader.result) (bits_left c.content.new.reader) (packet_value c.in-Ok.packet) c.in_ok-end.ensures.exact c.new-reader.ensures.left c.in-Ok.ensures.exact

pub returns-in-Err-Fault-clause-exact : goal.returns-in-Err-Fault-clause-exact
returns-in-Err-Fault-clause-exact c =
    let fault : packet_at c.args.version (bits_left c.new-reader.result) ≡ Err (fault_of c.in-Err-Fault.fault) = rw c.in-Err-Fault.field-0-is at c.in-Err-Fault.ensures.exact in
    refuses c.args.version c.args.bytes.now c.in_ok-end.end (bits_left c.new-reader.result) (fault_of c.in-Err-Fault.fault) c.refusal.result c.in_ok-end.ensures.exact c.new-reader.ensures.left fault c.refusal.ensures

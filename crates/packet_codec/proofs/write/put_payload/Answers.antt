use Rattle.std.proofs.Common.{arith}
use Rattle.protocol_laws.proofs.FieldLengths.{power_width}
use Rattle.packet_codec.proofs.write.put_payload.Goals as goal

pub put_slice-requires : goal.put_slice-requires
put_slice-requires c = let put = c.put_int.ensures.spare in omega (arith, put, power_width 13 c.len.result (omega arith))

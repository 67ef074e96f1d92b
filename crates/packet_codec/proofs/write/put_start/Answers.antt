use Rattle.std.proofs.Common.{arith}
use Rattle.protocol_laws.proofs.FieldLengths.{power_width}
use Rattle.packet_codec.proofs.write.put_start.Goals as goal

pub put_head-requires-clause-room : goal.put_head-requires-clause-room
put_head-requires-clause-room c = let put = c.put_int.ensures.spare in omega (arith, put, power_width 14 c.args.number (omega arith))

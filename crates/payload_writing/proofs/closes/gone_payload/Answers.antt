use Rattle.std.proofs.Common.{arith}
use Rattle.payload_writing.proofs.Lengths.{packed_takes}
use Rattle.payload_writing.proofs.closes.gone_payload.Goals as goal

pub put_guid-requires : goal.put_guid-requires
put_guid-requires c = omega (arith, c.in_ok-w.ensures.room, packed_takes _ c.put_packed.ensures)

use Rattle.std.proofs.Common.{arith}
use Rattle.payload_writing.proofs.Lengths.{int_takes}
use Rattle.payload_writing.proofs.calls.put_bytes.Goals as goal

pub put_octets-requires : goal.put_octets-requires
put_octets-requires c = omega (arith, c.requires.room, int_takes _ _ c.put_int.ensures)

pub returns-in-Bytes-clause-room : goal.returns-in-Bytes-clause-room
returns-in-Bytes-clause-room c = omega (arith, int_takes _ _ c.put_int.ensures, c.put_octets.ensures.room)

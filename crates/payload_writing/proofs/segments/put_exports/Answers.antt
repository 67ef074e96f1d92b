use Rattle.std.proofs.Common.{arith}
use Rattle.payload_writing.proofs.Lengths.{packed_takes}
use Rattle.payload_writing.proofs.segments.put_exports.Goals as goal

pub put_segments-requires-clause-room : goal.put_segments-requires-clause-room
put_segments-requires-clause-room c = omega (arith, c.requires.room, packed_takes _ c.put_packed.ensures)

pub returns-clause-room : goal.returns-clause-room
returns-clause-room c = omega (arith, packed_takes _ c.put_packed.ensures, c.put_segments.ensures.room)

use Rattle.std.proofs.Common.{arith}
use Rattle.payload_writing.proofs.Lengths.{packed_takes, value_takes}
use Rattle.payload_writing.proofs.pairs.put_pair.Goals as goal

pub put_value-requires-clause-room : goal.put_value-requires-clause-room
put_value-requires-clause-room c = omega (arith, c.requires.room, packed_takes _ c.put_packed.ensures)

pub returns-clause-room : goal.returns-clause-room
returns-clause-room c = omega (arith, packed_takes _ c.put_packed.ensures, value_takes _ _ c.put_value.ensures)

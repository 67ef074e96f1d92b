use Rattle.std.proofs.Common.{◌≤◌, length, arith, rules}
use Rattle.protocol_model.specs.Limits.{name_bytes}
use Rattle.payload_writing.proofs.Lengths.{int_takes, packed_takes}
use Rattle.payload_writing.proofs.segments.put_segment.Goals as goal

pub put_guid-requires-2 : goal.put_guid-requires-2
put_guid-requires-2 c = omega (arith, c.requires.room, packed_takes _ c.put_guid.ensures)

pub put_int-requires-clause-room : goal.put_int-requires-clause-room
put_int-requires-clause-room c =
    omega (arith, c.requires.room, packed_takes _ c.put_guid.ensures, packed_takes _ c.put_guid-2.ensures)

pub put_octets-requires : goal.put_octets-requires
put_octets-requires c =
    let short : length c.as_bytes-name.result.now ≤ name_bytes = search (rules, arith) in
    omega (
      arith,
      short,
      c.requires.room,
      packed_takes _ c.put_guid.ensures,
      packed_takes _ c.put_guid-2.ensures,
      int_takes _ _ c.put_int.ensures,
    )

pub returns-clause-room : goal.returns-clause-room
returns-clause-room c =
    let short : length c.as_bytes-name.result.now ≤ name_bytes = search (rules, arith) in
    omega (
      arith,
      short,
      packed_takes _ c.put_guid.ensures,
      packed_takes _ c.put_guid-2.ensures,
      int_takes _ _ c.put_int.ensures,
      c.put_octets.ensures.room,
    )

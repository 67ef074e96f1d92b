use Rattle.std.proofs.Common.{arith}
use Rattle.payload_writing.proofs.Lengths.{packed_takes}
use Rattle.payload_writing.proofs.calls.call_payload.Goals as goal

pub put_packed-requires : goal.put_packed-requires
put_packed-requires c = record {
  room = omega (arith, c.in_ok-w.ensures.room, c.put_bit.ensures.spare, packed_takes _ c.put_guid.ensures);
}

pub put_args-requires-clause-room : goal.put_args-requires-clause-room
put_args-requires-clause-room c =
    omega (
      arith,
      c.in_ok-w.ensures.room,
      c.room_for.ensures.room,
      c.put_bit.ensures.spare,
      packed_takes _ c.put_guid.ensures,
      packed_takes _ c.put_packed.ensures,
    )

use Rattle.std.proofs.Common.{◌≡◌, ap, arith}
use Rattle.payload_writing.specs.Room.{arg_room}
use Rattle.payload_writing.proofs.Lengths.{value_takes}
use Rattle.payload_writing.proofs.calls.put_arg.Goals as goal

pub returns-in-Scalar-clause-room : goal.returns-in-Scalar-clause-room
returns-in-Scalar-clause-room c =
    let room : arg_room c.args.arg.now ≡ 64 = ap arg_room c.in-Scalar.is in
    omega (arith, room, value_takes _ _ c.put_value.ensures)

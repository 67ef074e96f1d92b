use Rattle.std.proofs.Common.{◌≡◌, inl, inr, ap, arith}
use Rattle.payload_writing.specs.Room.{args_room}
use Rattle.payload_writing.proofs.Arguments.{have_ended}
use Rattle.payload_writing.proofs.calls.room_for.Goals as goal

pub returns-clause-room : goal.returns-clause-room
returns-clause-room c =
    let kinds = c.loop-kind.kind-iterator.a.rest.now in
    let args = c.loop-kind.kind-iterator.b.rest.now in
    let ended = have_ended kinds args c.loop-kind.invariant.fit
    (elim c.in-None.ensures.steps [ inl e ↦ inl e.1.0 | inr e ↦ inr e.1.0 ]) in
    let none : args_room args ≡ 0 = ap args_room ended.no_arg in
    omega (arith, none, c.loop-kind.invariant.room)

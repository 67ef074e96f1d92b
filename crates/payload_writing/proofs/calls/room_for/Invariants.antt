use Rattle.std.proofs.Common.{◌≡◌, ◌≤◌, ◌+◌, ◌*◌, ◌^◌, IsTrue, length}
use Rattle.value_codec.specs.Values.{arguments_fit}
use Rattle.payload_writing.specs.Room.{args_room}
use Rattle.payload_writing.proofs.calls.room_for.Given as goal

abbrev pub invariant-loop-kind : goal.invariant-loop-kind
invariant-loop-kind l = record {
  room : l.room + args_room l.kind-iterator.b.rest.now ≡ args_room l.args;
  fit : IsTrue (arguments_fit l.kind-iterator.a.rest.now l.kind-iterator.b.rest.now);
  most : l.room + 2 ^ 20 * length l.kind-iterator.a.rest.now ≤ 2 ^ 20 * length l.kinds;
}

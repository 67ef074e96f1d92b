use Rattle.std.proofs.Common.{◌≤◌, IsTrue, map}
use Rattle.protocol_model.specs.Payload.{args_bits}
use Rattle.value_codec.specs.Values.{arg_of, arguments_fit}
use Rattle.payload_writing.specs.Room.{args_room}
use Rattle.payload_writing.proofs.Loops.{IsLeft}
use Rattle.payload_writing.proofs.calls.put_args.Given as goal

abbrev pub invariant-loop-kind : goal.invariant-loop-kind
invariant-loop-kind l = record {
  left : IsLeft l.fn.w l.w (args_bits l.kinds (map arg_of l.args))
      (args_bits l.kind-iterator.a.rest.now (map arg_of l.kind-iterator.b.rest.now));
  fit : IsTrue (arguments_fit l.kind-iterator.a.rest.now l.kind-iterator.b.rest.now);
  room : args_room l.kind-iterator.b.rest.now ≤ l.w.spare;
}

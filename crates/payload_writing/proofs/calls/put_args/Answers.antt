use Rattle.std.proofs.Common.{◌≡◌, ◌+◌, inl, inr, ap, arith, map}
use Rattle.protocol_model.specs.Payload.{args_bits}
use Rattle.payload_writing.specs.Room.{arg_room, args_room}
use Rattle.value_codec.specs.Values.{arg_of}
use Rattle.payload_writing.proofs.Arguments.{later_fit, arg_put, args_put, have_ended}
use Rattle.payload_writing.proofs.calls.put_args.Goals as goal

pub loop-kind-preserved : goal.loop-kind-preserved
loop-kind-preserved c =
    let kinds = c.loop-kind.kind-iterator.a.rest.now in
    let args = c.loop-kind.kind-iterator.b.rest.now in
    let behind = c.next.new.self.a.rest.now in
    let after = c.next.new.self.b.rest.now in
    let kind = c.in-Some.kind.now in
    let arg = c.in-Some.arg.now in
    let whole = args_bits c.args.kinds.now (map arg_of c.args.args.now) in
    let steps = c.in-Some.ensures.steps in
    let room : args_room args ≡ arg_room arg + args_room after = ap args_room steps.1 in
    record {
      left = arg_put c.args.w.now c.loop-kind.w c.put_arg.new.w whole kinds behind args after kind arg steps.0 steps.1
          c.loop-kind.invariant.left c.put_arg.ensures.bits;
      fit = later_fit kinds behind args after kind arg steps.0 steps.1 c.loop-kind.invariant.fit;
      room = omega (arith, room, c.loop-kind.invariant.room, c.put_arg.ensures.room);
    }

pub returns : goal.returns
returns c =
    let kinds = c.loop-kind.kind-iterator.a.rest.now in
    let args = c.loop-kind.kind-iterator.b.rest.now in
    let ended = have_ended kinds args c.loop-kind.invariant.fit
    (elim c.in-None.ensures.steps [ inl e ↦ inl e.1.0 | inr e ↦ inr e.1.0 ]) in
    args_put c.args.w.now c.loop-kind.w (args_bits c.args.kinds.now (map arg_of c.args.args.now)) kinds args ended
    c.loop-kind.invariant.left

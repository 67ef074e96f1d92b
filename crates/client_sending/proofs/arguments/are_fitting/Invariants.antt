use Rattle.std.proofs.Common.{length, map, ◌≡◌, drop}
use Rattle.protocol_model.specs.Value.{args_fit}
use Rattle.value_codec.specs.Values.{arg_of}
use Rattle.client_sending.proofs.arguments.are_fitting.Given as goal

abbrev pub invariant-loop-kind : goal.invariant-loop-kind
invariant-loop-kind l = record {
  same : length l.kinds ≡ length l.args;
  left : args_fit (drop (length l.yielded) l.kinds) (map arg_of (drop (length l.yielded) l.args))
      ≡ args_fit l.kinds (map arg_of l.args);
}

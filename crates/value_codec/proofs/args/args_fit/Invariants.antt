use Rattle.std.proofs.Common.{length, ◌≡◌, ◌≤◌, drop}
use Rattle.value_codec.specs.Values.{arguments_fit}
use Rattle.value_codec.proofs.args.args_fit.Given as goal

abbrev pub invariant-loop-kind : goal.invariant-loop-kind
invariant-loop-kind l = record {
  same : length l.kinds ≡ length l.args;
  left : arguments_fit (drop (length l.yielded) l.kinds) (drop (length l.yielded) l.args)
      ≡ arguments_fit l.kinds l.args;
}

use Rattle.std.proofs.Common.{◌≡◌, ◌+◌, ◌*◌, ◌≤◌, drop}
use Rattle.table_model.specs.Rules.{largest_args}
use Rattle.class_members.proofs.call.largest_args.Given as goal

abbrev pub invariant-loop-kind : goal.invariant-loop-kind
invariant-loop-kind l = record {
  short : l.sum ≤ 600000 * l.kind-index;
  left : l.sum + largest_args (drop l.kind-index l.kinds) ≡ largest_args l.kinds;
}

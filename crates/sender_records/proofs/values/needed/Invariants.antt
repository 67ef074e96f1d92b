use Rattle.std.proofs.Common.{◌≡◌, ℕ, ◌<◌, ◌≤◌, ◌^◌, Some, slice_get}
use Rattle.value_codec.specs.declared.pair.Pair.{Pair}
use Rattle.sender_records.specs.Handles.{AllBelow}
use Rattle.sender_records.proofs.values.needed.Given as goal

abbrev pub invariant-loop-p : goal.invariant-loop-p
invariant-loop-p l = record {
  below : (i : ℕ) (p : Pair) → i < l.p-index → slice_get l.values i ≡ Some p → p.prop < l.needed;
  least : (n : ℕ) → AllBelow n l.values → l.needed ≤ n;
  most : l.needed ≤ 2 ^ 16;
}

use Rattle.std.proofs.Common.{◌≡◌, ℕ, map, take, length}
use Rattle.protocol_model.specs.Value.{value_among}
use Rattle.sender_records.specs.Handles.{handle_in, by_value, pair_value, AreApart, handle_carried}
use Rattle.sender_records.proofs.values.carry_all.Given as goal

abbrev pub invariant-loop-p : goal.invariant-loop-p
invariant-loop-p l = record {
  len : length l.handles.items ≡ length l.initial.handles.items;
  each : (h : ℕ) → AreApart (map pair_value l.values)
      → handle_in l.handles.items h
      ≡ by_value (handle_carried l.packet) (handle_in l.initial.handles.items h)
      (value_among (map pair_value (take l.p-index l.values)) h);
}

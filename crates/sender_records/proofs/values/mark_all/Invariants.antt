use Rattle.std.proofs.Common.{◌≡◌, ℕ, ◌<◌, take, length}
use Rattle.sender_records.specs.Handles.{handle_in, handle_changed, names_change}
use Rattle.sender_records.proofs.values.mark_all.Given as goal

abbrev pub invariant-loop-change : goal.invariant-loop-change
invariant-loop-change l = record {
  len : length l.handles.items ≡ length l.initial.handles.items;
  each : (h : ℕ) → h < length l.initial.handles.items
      → handle_in l.handles.items h
      ≡ handle_changed (names_change (take l.change-index l.changes) h) (handle_in l.initial.handles.items h);
}

use Rattle.std.proofs.Common.{◌≡◌, ℕ, ◌<◌, ◌≤◌, length}
use Rattle.sender_records.specs.Handles.{handle_in, handle_moved}
use Rattle.sender_records.proofs.values.move_all.Given as goal

abbrev pub invariant-loop-i : goal.invariant-loop-i
invariant-loop-i l = record {
  len : length l.handles.items ≡ length l.initial.handles.items;
  done : (h : ℕ) → h < l.i
      → handle_in l.handles.items h ≡ handle_moved l.from l.to (handle_in l.initial.handles.items h);
  left : (h : ℕ) → l.i ≤ h → handle_in l.handles.items h ≡ handle_in l.initial.handles.items h;
}

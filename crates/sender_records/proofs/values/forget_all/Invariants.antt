use Rattle.std.proofs.Common.{◌≡◌, ℕ, ◌<◌, length}
use Rattle.sender_records.specs.Handles.{handle_in, no_handle}
use Rattle.sender_records.proofs.values.forget_all.Given as goal

abbrev pub invariant-loop-i : goal.invariant-loop-i
invariant-loop-i l = record {
  len : length l.handles.items ≡ length l.initial.handles.items;
  done : (h : ℕ) → h < l.i → handle_in l.handles.items h ≡ no_handle;
}

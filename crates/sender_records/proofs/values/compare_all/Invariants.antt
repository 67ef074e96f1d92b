use Rattle.std.proofs.Common.{◌≡◌, ℕ, ◌==◌, List, map, take, length}
use Rattle.protocol_model.specs.Value.{value_among}
use Rattle.class_layout.specs.Tables.{class_of}
use Rattle.class_layout.specs.declared.class.Segment.{Segment}
use Rattle.sender_records.specs.Handles.{handle_in, by_value, pair_value, AreApart, handle_compared, is_updatable_in}
use Rattle.sender_records.proofs.values.compare_all.Given as goal

abbrev pub invariant-loop-p : goal.invariant-loop-p
invariant-loop-p l = record {
  len : length l.handles.items ≡ length l.initial.handles.items;
  each : (segments : List Segment) (h : ℕ) → AreApart (map pair_value l.values)
      → handle_in l.handles.items h
      ≡ by_value (handle_compared l.last l.tick (is_updatable_in (class_of segments l.class) l.owns h) (h == 3))
      (handle_in l.initial.handles.items h) (value_among (map pair_value (take l.p-index l.values)) h);
}

use Rattle.std.proofs.Common.{◌+◌, ◌≤◌, List, length, IsTrue}
use Rattle.protocol_model.specs.Value as Model
use Rattle.class_layout.specs.Tables.{AreOf, Extends, stand_within}
use Rattle.class_layout.proofs.PathSteps.{Grown}
use Rattle.class_layout.proofs.paths.add_path.Given as goal

abbrev pub invariant-loop-name : goal.invariant-loop-name
invariant-loop-name l = record {
  count : length l.segments ≤ length l.initial.segments + l.name-index;
  extends : Extends l.initial.segments l.segments;
  within : IsTrue (stand_within (length l.segments) l.path.items);
  grown : (known : List Model.Segment) → AreOf l.initial.segments known
      → Grown known l.names l.segments l.path.items l.outer l.name-index;
}

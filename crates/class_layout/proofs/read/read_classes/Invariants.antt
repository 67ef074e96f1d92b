use Rattle.std.proofs.Common.{◌≡◌, [], map, drop, length}
use Rattle.serde_json.specs.View.{view}
use Rattle.table_model.specs.Grammar.{classes_after}
use Rattle.class_layout.specs.Growing.{IsSoFar}
use Rattle.class_layout.specs.Tables.{entry_of}
use Rattle.class_layout.proofs.read.read_classes.Given as goal

abbrev pub invariant-loop-element : goal.invariant-loop-element
invariant-loop-element l = record {
  count : length l.classes ≡ l.element-index;
  so_far : IsSoFar l.classes l.segments;
  left : classes_after (map (entry_of l.segments) l.classes) (map view (drop l.element-index l.elements))
      ≡ classes_after [] (map view l.elements);
}

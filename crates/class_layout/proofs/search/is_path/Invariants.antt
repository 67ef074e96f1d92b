use Rattle.std.proofs.Common.{length, ◌≡◌, map, drop}
use Rattle.table_model.specs.Rules.{path_names, same_names}
use Rattle.class_layout.specs.Tables.{segment_at}
use Rattle.class_layout.proofs.search.is_path.Given as goal

abbrev pub invariant-loop-name : goal.invariant-loop-name
invariant-loop-name l = record {
  same : length l.names ≡ length l.path;
  left : same_names (drop (length l.yielded) l.names)
      (path_names (map (segment_at l.segments) (drop (length l.yielded) l.path)))
      ≡ same_names l.names (path_names (map (segment_at l.segments) l.path));
}

-- A step of the proof of `Classes::read`, not a promise: the classes that were read so far, and the
-- segments of their paths.
use Rattle.std.specs.Prelude.{◌≡◌, ℕ, ◌≤◌, List, map, length, IsTrue, Some, slice_get}
use Rattle.table_model.specs.Rules.{segments_of}
use Rattle.class_layout.specs.Tables.{AreOf, HaveTags, entry_of, stand_within}
use Rattle.class_layout.specs.declared.class.Class.{Class}
use Rattle.class_layout.specs.declared.class.Segment.{Segment}

-- initial values are tagged, each guid of a path is a segment's, and the segments are those of the paths
pub record IsSoFar (classes : List Class) (segments : List Segment) : Type 0 where
  pub tags : HaveTags classes
  pub within : (i : ℕ) (c : Class) → slice_get classes i ≡ Some c → IsTrue (stand_within (length segments) c.path)
  pub are : AreOf segments (segments_of (map (entry_of segments) classes))
  pub few : length segments ≤ 1024

-- Segments that an open may export.
use Rattle.std.specs.Prelude.{ℕ, ◌≤◌, List, length}
use Rattle.protocol_model.specs.Limits.{depth_limit}
use Rattle.class_layout.specs.declared.class.Segment.{Segment}
use Rattle.netguid_map.specs.Chains.{AreThere}

-- a segment of the table stands under each of these guids, of which there are at most as many as a
-- path may have
pub record MayExport (segments : List Segment) (guids : List ℕ) : Type 0 where
  pub there : AreThere segments guids
  pub few : length guids ≤ depth_limit

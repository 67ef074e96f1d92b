-- A step of the proof of `Classes::read`, not a promise: a class's heading in memory as that of the
-- definitions.
use Rattle.std.specs.Prelude.{◌≡◌, ℕ, ◌<◌, ◌^◌, List, map, length, slice_get, Some, IfSome}
use Rattle.serde_json.specs.Data.{Data}
use Rattle.table_model.specs.Objects.{class_object}
use Rattle.serde_json.specs.View.{view}
use Rattle.table_model.specs.Rules as Rules
use Rattle.class_layout.specs.declared.heading.Heading.{Heading}

-- a heading
abbrev pub heading_of : Heading → Rules.Heading
heading_of h = record {
  name = h.name;
  path = h.path;
  parent = h.parent;
  reach = h.reach;
  priority = h.priority;
  properties = map view h.properties.now;
  calls = map view h.calls.now;
}

-- a class's properties and calls can be numbered
abbrev pub HasFew : Data → Type 0
HasFew d = IfSome (class_object d) (λ c. (length c.properties < 2 ^ 30) × (length c.calls < 2 ^ 30))

-- and those of each class
abbrev pub AllHaveFew : List Data → Type 0
AllHaveFew ds = (i : ℕ) (d : Data) → slice_get ds i ≡ Some d → HasFew d

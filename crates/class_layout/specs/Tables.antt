-- A class table in memory as the table that the definitions speak of.
use Rattle.std.specs.Prelude.{◌≡◌, ℕ, ◌+◌, ◌*◌, ◌-◌, ◌/◌, List, [], map, length, Bool, IsTrue, nat_lt, ◌++◌, Option, Some, None, slice_get}
use Rattle.std.specs.List.{list_all, position}
use Rattle.protocol_model.specs.Value as Model
use Rattle.table_model.specs.Facts.{IsTable}
use Rattle.table_model.specs.Rules.{Entry, segments_of, guid_in, next_guid, same_names, path_names}
use Rattle.table_model.specs.Grammar.{table_of}
use Rattle.class_members.specs.Members.{prop_of, call_of, are_tagged}
use Rattle.class_layout.specs.declared.class.Class.{Class}
use Rattle.class_layout.specs.declared.class.Segment.{Segment}

-- what a class table is seen as: its classes, its segments, of which the i-th from 0 has guid 2i + 3, and the
-- SHA-1 of its file
pub record Layout : Type 0 where
  pub classes : List Class
  pub segments : List Segment
  pub digest : List ℕ

-- the segment of a guid, with nothing in place of one that isn't there
abbrev pub segment_at : List Segment → ℕ → Model.Segment
segment_at segments guid = of (slice_get segments ((guid - 3) / 2))
  where
    of : Option Segment → Model.Segment
    of None = record { guid = guid; outer = 0; name = [] }
    of (Some s) = record { guid = guid; outer = s.outer; name = s.name }

-- a class, its path by these segments
abbrev pub class_of : List Segment → Class → Model.Class
class_of segments c = record {
  name = c.name;
  path = map (segment_at segments) c.path;
  reach = c.reach;
  priority = c.priority;
  props = map prop_of c.props;
  calls = map call_of c.calls;
}

-- a class with its parent
abbrev pub entry_of : List Segment → Class → Entry
entry_of segments c = record { parent = c.parent; class = class_of segments c }

-- the classes with their parents
abbrev pub entries_in : Layout → List Entry
entries_in layout = map (entry_of layout.segments) layout.classes

-- the classes
abbrev pub table_in : Layout → Model.Table
table_in layout = table_of (entries_in layout)

-- the class's path has these names
abbrev pub has_names : List Segment → List (List ℕ) → Class → Bool
has_names segments names c = same_names names (path_names (map (segment_at segments) c.path))

-- the place of the class that has this path, counted from 0
abbrev pub place_of_path : List Entry → List (List ℕ) → Option ℕ
place_of_path entries names = position (λ (e : Entry). same_names names (path_names e.class.path)) entries

-- the initial values of each class have their kinds' tags
abbrev pub HaveTags : List Class → Type 0
HaveTags classes = (i : ℕ) (c : Class) → slice_get classes i ≡ Some c → IsTrue (are_tagged c.props)

-- the guids are those of the first so many segments
abbrev pub stand_within : ℕ → List ℕ → Bool
stand_within count path = list_all (λ guid. nat_lt ((guid - 3) / 2) count) path

-- the items, with more behind them
abbrev pub Extends : {A : Type 0} → List A → List A → Type 0
Extends {A} old new = (more : List A) × (new ≡ old ++ more)

-- the segments in memory are those of the paths: each is found under its guid, and none besides
pub record AreOf (segments : List Segment) (known : List Model.Segment) : Type 0 where
  pub next : next_guid known ≡ 2 * length segments + 3
  pub each : (i : ℕ) (s : Segment) → slice_get segments i ≡ Some s
      → guid_in known s.outer s.name ≡ Some (2 * i + 3)
  pub back : (outer guid : ℕ) (name : List ℕ) → guid_in known outer name ≡ Some guid
      → (i : ℕ) × (guid ≡ 2 * i + 3) × (slice_get segments i ≡ Some (record { outer = outer; name = name }))

-- a layout of an accepted table
pub record IsLayout (layout : Layout) : Type 0 where
  pub table : IsTable (entries_in layout)
  pub tags : HaveTags layout.classes
  pub segments : AreOf layout.segments (segments_of (entries_in layout))

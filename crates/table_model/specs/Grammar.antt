-- Class tables: which bytes are one, the classes of each, and the first rule that other bytes break.
use Rattle.std.specs.Prelude.{ℕ, ◌+◌, ◌*◌, List, [], ◌∷◌, ◌++◌, map, length, Bool, ◌&&◌, nat_le, Option, Some, None, Result, Ok, if◌then◌else◌, slice_index_or}
use Rattle.std.specs.Option.{ok_or}
use Rattle.std.specs.Str.{is_utf8}
use Rattle.protocol_model.specs.Limits.{call_limit, class_limit, handle_limit, table_bytes, segment_limit}
use Rattle.serde_json.specs.Data.{Data}
use Rattle.serde_json.specs.Read.{read}
use Rattle.protocol_model.specs.Value.{Prop, Call, Class, Table, handle_count}
use Rattle.protocol_model.specs.World.{no_class}
use Rattle.table_model.specs.Checked.{Refusal, ◌>>=◌, must, at, each_after}
use Rattle.table_model.specs.Objects.{classes_of}
use Rattle.table_model.specs.Rules.{Entry, Heading, heading_after, property_after, call_after, segments_of, path_under, next_guid}
use Rattle.table_model.specs.declared.Place.{Place}
use Rattle.table_model.specs.declared.TableWhy.TheVariants.{TooLong, Json, Shape, Range, TooMany}

-- what a class inherits: the properties and calls of its parent, and nothing else
abbrev pub parent_in : List Entry → Option ℕ → Class
parent_in before None = no_class
parent_in before (Some n) = (slice_index_or before n (record { parent = None; class = no_class })).class

-- at most 200 handles and 64 calls, and in the table so far at most 1,024 segments
abbrev pub sizes_fit : List Entry → Class → Bool
sizes_fit before class =
    nat_le (handle_count class) handle_limit && nat_le (length class.calls) call_limit
    && nat_le (next_guid (segments_of before ++ class.path)) (2 * segment_limit + 3)

-- the class with its heading, its properties and its calls, the inherited ones first
abbrev pub class_with : List Entry → Heading → List Prop → List Call → Class
class_with before h props calls = record {
  name = h.name;
  path = path_under (segments_of before) 0 h.path;
  reach = h.reach;
  priority = h.priority;
  props = props;
  calls = calls;
}

-- the k-th class after those before it: its keys, then its properties, then its calls, then its sizes
abbrev pub class_after : (k : ℕ) → List Entry → Data → Result Entry Refusal
class_after k before d = do
  h ← at (Place.Class k) (heading_after before d)
  props ← each_after property_after (Place.Property k) (parent_in before h.parent).props 1 h.properties
  calls ← each_after call_after (Place.Call k) (parent_in before h.parent).calls 1 h.calls
  _ ← at (Place.Class k) (must (sizes_fit before (class_with before h props calls)) TooMany)
  Ok (record { parent = h.parent; class = class_with before h props calls })

-- the classes one by one
abbrev pub classes_after : List Entry → List Data → Result (List Entry) Refusal
classes_after before [] = Ok before
classes_after before (d ∷ ds) = do
  entry ← class_after (length before + 1) before d
  classes_after (before ++ entry ∷ []) ds

-- the value of the bytes, where they are JSON
abbrev pub json_of : List ℕ → Option Data
json_of bytes = if is_utf8 bytes then read bytes else None

-- the top, and then the classes
abbrev pub entries_of : List ℕ → Result (List Entry) Refusal
entries_of bytes = do
  _ ← at Place.Table (must (nat_le (length bytes) table_bytes) TooLong)
  d ← at Place.Table (ok_or (json_of bytes) Json)
  classes ← at Place.Table (ok_or (classes_of d) Shape)
  _ ← at Place.Table (must (nat_le 1 (length classes) && nat_le (length classes) class_limit) Range)
  classes_after [] classes

-- the classes without their parents
abbrev pub table_of : List Entry → Table
table_of entries = map (λ (e : Entry). e.class) entries

-- the table of the bytes, or the first rule that they break
abbrev pub table_in : List ℕ → Result Table Refusal
table_in bytes = do
  entries ← entries_of bytes
  Ok (table_of entries)

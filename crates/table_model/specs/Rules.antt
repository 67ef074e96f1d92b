-- The rules of a property, of a call and of a class, each after those that stand before it.
use Rattle.std.specs.Prelude.{ℕ, ◌+◌, ◌*◌, ◌==◌, ℤ, pos, negsuc, unsigned_abs, List, [], ◌∷◌, ◌++◌, map, length, sum, Bool, true, false, not, ◌&&◌, nat_le, Option, Some, None, option_map, unwrap_or, Result, Ok, Err, if◌then◌else◌, codes}
use Rattle.std.specs.List.{list_any}
use Rattle.std.specs.Option.{ok_or}
use Rattle.std.specs.Str.{bytes_eq}
use Rattle.protocol_model.specs.Limits.{argument_limit, cull_limit, priority_limit, reliable_call_bits, unreliable_call_bits}
use Rattle.serde_json.specs.Data.{Data}
use Rattle.protocol_model.specs.Bits.{int_width}
use Rattle.protocol_model.specs.declared.Kind.{Kind}
use Rattle.protocol_model.specs.declared.Reach.{Reach}
use Rattle.protocol_model.specs.declared.Reach.TheVariants.{Always, Near, Owner}
use Rattle.protocol_model.specs.Search.{greatest_of}
use Rattle.protocol_model.specs.Value.{Prop, Call, Segment, Class, fits, built_in}
use Rattle.table_model.specs.Checked.{◌>>=◌, must}
use Rattle.table_model.specs.Objects.{class_object, property_object, call_object}
use Rattle.table_model.specs.Words.{meaning_in, is_name, path_of, type_of, conditions, ways}
use Rattle.table_model.specs.declared.TableWhy.{TableWhy}
use Rattle.table_model.specs.declared.TableWhy.TheVariants.{Shape, Range, Name, Twice, Parent, BadType, TooBig}

-- the name is one of these
abbrev pub is_there : List (List ℕ) → List ℕ → Bool
is_there names name = list_any (bytes_eq name) names

-- a whole number from low to high
abbrev pub is_from_to : (low high : ℕ) → ℤ → Bool
is_from_to low high (pos n) = nat_le low n && nat_le n high
is_from_to low high (negsuc n) = false

-- ---- properties

-- the names of properties; those of x, y and role count as there already
abbrev pub prop_names : List Prop → List (List ℕ)
prop_names props = map (λ (p : Prop). p.name) (built_in ++ props)

-- a property after those before it
abbrev pub property_after : List Prop → Data → Result Prop TableWhy
property_after before d = do
  p ← ok_or (property_object d) Shape
  _ ← must (is_name p.name) Name
  _ ← must (not (is_there (prop_names before) p.name)) Twice
  kind ← type_of false p.type
  cond ← ok_or (meaning_in conditions p.cond) BadType
  _ ← must (fits kind p.init) Range
  Ok (record { name = p.name; kind = kind; cond = cond; init = p.init })

-- ---- calls

-- how many bits the longest argument of the kind takes
abbrev pub most_bits : Kind → ℕ
most_bits Kind.Bool = 1
most_bits Kind.U8 = 8
most_bits Kind.I32 = 32
most_bits Kind.U32 = 32
most_bits Kind.I64 = 64
most_bits Kind.Packed = 40
most_bits Kind.Guid = 40
most_bits (Kind.Enum count) = int_width count 0
most_bits (Kind.Bytes most) = int_width (most + 1) 0 + 8 * most

-- and the largest arguments of these kinds
abbrev pub largest_args : List Kind → ℕ
largest_args kinds = sum (map most_bits kinds)

-- how many bits the arguments of a call may take
abbrev pub args_limit : (reliable : Bool) → ℕ
args_limit reliable = if reliable then reliable_call_bits else unreliable_call_bits

-- the kinds of the arguments, one by one
abbrev pub arg_kinds : List (List ℕ) → Result (List Kind) TableWhy
arg_kinds [] = Ok []
arg_kinds (type ∷ types) = do
  kind ← type_of true type
  kinds ← arg_kinds types
  Ok (kind ∷ kinds)

-- the names of calls
abbrev pub call_names : List Call → List (List ℕ)
call_names calls = map (λ (c : Call). c.name) calls

-- a call after those before it
abbrev pub call_after : List Call → Data → Result Call TableWhy
call_after before d = do
  c ← ok_or (call_object d) Shape
  _ ← must (is_name c.name) Name
  _ ← must (not (is_there (call_names before) c.name)) Twice
  way ← ok_or (meaning_in ways c.kind) BadType
  kinds ← arg_kinds c.args
  _ ← must (nat_le (length kinds) argument_limit) Range
  _ ← must (nat_le (largest_args kinds) (args_limit c.reliable)) TooBig
  Ok (record { name = c.name; way = way; reliable = c.reliable; args = kinds })

-- ---- classes

-- a class of a table, with its parent's place in it, counted from 0
pub record Entry : Type 0 where
  pub parent : Option ℕ
  pub class : Class

-- the names of classes
abbrev pub class_names : List Entry → List (List ℕ)
class_names entries = map (λ (e : Entry). e.class.name) entries

-- the names of a path
abbrev pub path_names : List Segment → List (List ℕ)
path_names path = map (λ (s : Segment). s.name) path

-- the same names in the same order
abbrev pub same_names : List (List ℕ) → List (List ℕ) → Bool
same_names [] [] = true
same_names (m ∷ ms) (n ∷ ns) = bytes_eq m n && same_names ms ns
same_names [] (n ∷ ns) = false
same_names (m ∷ ms) [] = false

-- a class has this path
abbrev pub has_path : List Entry → List (List ℕ) → Bool
has_path entries names = list_any (λ (e : Entry). same_names names (path_names e.class.path)) entries

-- the place of the class of that name, counted from 0
abbrev pub place_of : List Entry → List ℕ → Option ℕ
place_of [] name = None
place_of (e ∷ entries) name =
    if bytes_eq e.class.name name then Some 0 else option_map (λ n. n + 1) (place_of entries name)

-- the parent of that name, or no parent
abbrev pub parent_of : List Entry → Option (List ℕ) → Result (Option ℕ) TableWhy
parent_of before None = Ok None
parent_of before (Some name) = ok_or (option_map (λ n. Some n) (place_of before name)) Parent

-- near with a cull distance from 1 to 50,000; always and owner with one of 0
abbrev pub reach_of : List ℕ → (cull : ℤ) → Result Reach TableWhy
reach_of relevancy cull =
    if bytes_eq relevancy (codes "always") then only (is_from_to 0 0 cull) Always
    else if bytes_eq relevancy (codes "near") then only (is_from_to 1 cull_limit cull) (Near (unsigned_abs cull))
    else if bytes_eq relevancy (codes "owner") then only (is_from_to 0 0 cull) Owner
    else Err BadType
  where
    only : Bool → Reach → Result Reach TableWhy
    only in_range reach = if in_range then Ok reach else Err Range

-- what a class says before its properties
pub record Heading : Type 0 where
  pub name : List ℕ
  pub path : List (List ℕ)
  pub parent : Option ℕ
  pub reach : Reach
  pub priority : ℕ
  pub properties : List Data
  pub calls : List Data

-- the keys of a class after those before it
abbrev pub heading_after : List Entry → Data → Result Heading TableWhy
heading_after before d = do
  c ← ok_or (class_object d) Shape
  _ ← must (is_name c.name) Name
  _ ← must (not (is_there (class_names before) c.name)) Twice
  path ← ok_or (path_of c.path) Name
  _ ← must (not (has_path before path)) Twice
  parent ← parent_of before c.parent
  reach ← reach_of c.relevancy c.cull
  _ ← must (is_from_to 1 priority_limit c.priority) Range
  Ok (record {
    name = c.name;
    path = path;
    parent = parent;
    reach = reach;
    priority = unsigned_abs c.priority;
    properties = c.properties;
    calls = c.calls;
  })

-- ---- segments

-- the segments of these classes' paths, as often as they stand there
abbrev pub segments_of : List Entry → List Segment
segments_of [] = []
segments_of (e ∷ entries) = e.class.path ++ segments_of entries

-- the guid of the segment of that name under an outer
abbrev pub guid_in : List Segment → (outer : ℕ) → List ℕ → Option ℕ
guid_in [] outer name = None
guid_in (s ∷ segments) outer name =
    if s.outer == outer && bytes_eq s.name name then Some s.guid else guid_in segments outer name

-- the guid of the next new segment; they are 3, 5, 7 and so on
abbrev pub next_guid : List Segment → ℕ
next_guid segments = greatest_of (1 ∷ map (λ (s : Segment). s.guid) segments) + 2

-- the segment of that name under an outer: the one that there is, or a new one
abbrev pub segment_under : List Segment → (outer : ℕ) → List ℕ → Segment
segment_under known outer name =
    record { guid = unwrap_or (guid_in known outer name) (next_guid known); outer = outer; name = name }

-- the segments of a path under an outer, from its outermost
abbrev pub path_under : List Segment → (outer : ℕ) → List (List ℕ) → List Segment
path_under known outer [] = []
path_under known outer (name ∷ names) =
    let s = segment_under known outer name in s ∷ path_under (known ++ s ∷ []) s.guid names

-- What holds of every class table that is accepted, in the words of its classes.
use Rattle.std.specs.Prelude.{◌≡◌, ℕ, ◌+◌, ◌*◌, ◌≤◌, ◌<◌, ◌==◌, List, [], ◌∷◌, ◌++◌, map, length, Bool, true, false, not, ◌&&◌, nat_le, IsTrue, Some, slice_get}
use Rattle.std.specs.List.{list_all}
use Rattle.std.specs.Option.{IfSome}
use Rattle.std.specs.Str.{bytes_eq}
use Rattle.protocol_model.specs.Limits.{argument_limit, priority_limit, segment_limit}
use Rattle.protocol_model.specs.declared.Kind.{Kind}
use Rattle.protocol_model.specs.declared.Kind.TheVariants.{Enum, Bytes}
use Rattle.protocol_model.specs.declared.Reach.{Reach}
use Rattle.protocol_model.specs.declared.Reach.TheVariants.{Always, Near, Owner}
use Rattle.protocol_model.specs.Value.{Prop, Call, Segment, fits, handle_count}
use Rattle.table_model.specs.Words.{is_name}
use Rattle.table_model.specs.Rules.{Entry, is_there, same_names, prop_names, call_names, class_names, path_names, largest_args, args_limit, segments_of}
use Rattle.table_model.specs.Grammar.{parent_in}

-- no name stands twice
abbrev pub are_distinct : List (List ℕ) → Bool
are_distinct [] = true
are_distinct (name ∷ names) = not (is_there names name) && are_distinct names

-- no path stands twice
abbrev pub paths_differ : List (List (List ℕ)) → Bool
paths_differ [] = true
paths_differ (path ∷ paths) = list_all (λ other. not (same_names path other)) paths && paths_differ paths

-- a kind that a table may name: an enum has 2 to 65,535 values, and bytes, of arguments alone, are 1 to 2,048
abbrev pub is_type : (argument : Bool) → Kind → Bool
is_type argument (Enum count) = nat_le 2 count && nat_le count 65535
is_type argument (Bytes most) = argument && nat_le 1 most && nat_le most 2048
is_type argument kind = true

-- a property is named, and its initial value is one of its kind
abbrev pub is_prop : Prop → Bool
is_prop p = is_name p.name && is_type false p.kind && fits p.kind p.init

-- a call is named, has at most 16 arguments, and they fit their limit
abbrev pub is_call : Call → Bool
is_call c =
    is_name c.name && list_all (is_type true) c.args && nat_le (length c.args) argument_limit
    && nat_le (largest_args c.args) (args_limit c.reliable)

-- a cull distance is 1 to 50,000
abbrev pub is_reach : Reach → Bool
is_reach (Near cull) = nat_le 1 cull && nat_le cull 50000
is_reach Always = true
is_reach Owner = true

-- each segment is named and stands under the one before it, the first under 0
abbrev pub is_chain : (outer : ℕ) → List Segment → Bool
is_chain outer [] = true
is_chain outer (s ∷ path) = s.outer == outer && is_name s.name && is_chain s.guid path

-- a class after those before it
pub record IsClass (before : List Entry) (e : Entry) : Type 0 where
  pub name : IsTrue (is_name e.class.name)
  -- its parent stands before it, and what it inherits stands before its own
  pub parent : IfSome e.parent (λ n. n < length before)
  pub inherits_props : (own : List Prop) × (e.class.props ≡ (parent_in before e.parent).props ++ own)
  pub inherits_calls : (own : List Call) × (e.class.calls ≡ (parent_in before e.parent).calls ++ own)
  -- its properties and calls have names of their own, and so are x, y and role
  pub prop_names : IsTrue (are_distinct (prop_names e.class.props))
  pub call_names : IsTrue (are_distinct (call_names e.class.calls))
  pub props : IsTrue (list_all is_prop e.class.props)
  pub calls : IsTrue (list_all is_call e.class.calls)
  -- its sizes
  pub handles : handle_count e.class ≤ 200
  pub calls_most : length e.class.calls ≤ 64
  pub priority_least : 1 ≤ e.class.priority
  pub priority_most : e.class.priority ≤ priority_limit
  pub reach : IsTrue (is_reach e.class.reach)
  -- its path
  pub path_least : 1 ≤ length e.class.path
  pub path_most : length e.class.path ≤ 8
  pub path : IsTrue (is_chain 0 e.class.path)

-- segments of one guid are one segment, and one segment has one guid
pub record AreSegments (segments : List Segment) : Type 0 where
  pub same : (m n : ℕ) (s t : Segment) → slice_get segments m ≡ Some s → slice_get segments n ≡ Some t
      → (s.guid == t.guid) ≡ (s.outer == t.outer && bytes_eq s.name t.name)
  -- guids are 3, 5 and on, of at most 1,024 segments
  pub guid : (n : ℕ) (s : Segment) → slice_get segments n ≡ Some s
      → (i : ℕ) × (i < segment_limit) × (s.guid ≡ 2 * i + 3)

-- the classes of an accepted table
pub record IsTable (entries : List Entry) : Type 0 where
  pub least : 1 ≤ length entries
  pub most : length entries ≤ 256
  pub names : IsTrue (are_distinct (class_names entries))
  pub paths : IsTrue (paths_differ (map (λ (e : Entry). path_names e.class.path) entries))
  pub classes : (before : List Entry) (e : Entry) (after : List Entry) → entries ≡ before ++ e ∷ after
      → IsClass before e
  pub segments : AreSegments (segments_of entries)

-- and those of a table so far, of which there may be none
pub record IsTableSoFar (entries : List Entry) : Type 0 where
  pub most : length entries ≤ 256
  pub names : IsTrue (are_distinct (class_names entries))
  pub paths : IsTrue (paths_differ (map (λ (e : Entry). path_names e.class.path) entries))
  pub classes : (before : List Entry) (e : Entry) (after : List Entry) → entries ≡ before ++ e ∷ after
      → IsClass before e
  pub segments : AreSegments (segments_of entries)

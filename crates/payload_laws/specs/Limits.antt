-- Classes, actors, values and segments that keep the limits of a table, as far as payloads go.
use Rattle.std.specs.Prelude.{◌≡◌, ℕ, ◌%◌, ◌^◌, ◌<◌, ◌≤◌, List, [], ◌∷◌, length, false, IsTrue, ⊤}
use Rattle.std.specs.List.{list_all}
use Rattle.protocol_model.specs.Limits.{handle_limit, call_limit, name_bytes}
use Rattle.protocol_model.specs.Value.{Prop, Segment, Class, Pair, fits, handle_count}
use Rattle.protocol_model.specs.Payload.{kind_at}
use Rattle.table_model.specs.Facts.{is_type, is_call}
use Rattle.connection_model.specs.Names.{is_segment_name}

-- a class has kinds, calls and counts that a table may have
pub record HasLimits (class : Class) : Type 0 where
  pub props : IsTrue (list_all (λ (p : Prop). is_type false p.kind) class.props)
  pub calls : IsTrue (list_all is_call class.calls)
  pub handles : handle_count class ≤ handle_limit
  pub call_count : length class.calls ≤ call_limit

-- an actor's guid is even, at least 2 and of 32 bits
pub record IsActor (actor : ℕ) : Type 0 where
  pub even : actor % 2 ≡ 0
  pub least : 2 ≤ actor
  pub below : actor < 2 ^ 32

-- handles ascend from above the last one and are in the class, and each value fits its kind
abbrev pub AreValues : Class → (last : ℕ) → List Pair → Type 0
AreValues class last [] = ⊤
AreValues class last (p ∷ pairs) =
    (last < p.handle)
    × (p.handle ≤ handle_count class)
    × IsTrue (fits (kind_at class p.handle) p.value)
    × AreValues class p.handle pairs

-- a segment can be exported: it has an odd guid of at least 3, and a name of at most 31 characters
pub record IsSegment (s : Segment) : Type 0 where
  pub odd : s.guid % 2 ≡ 1
  pub least : 3 ≤ s.guid
  pub guid : s.guid < 2 ^ 32
  pub outer : s.outer < 2 ^ 32
  pub name : IsTrue (is_segment_name s.name)
  pub short : length s.name ≤ name_bytes

-- each segment can be exported
abbrev pub AreSegments : List Segment → Type 0
AreSegments [] = ⊤
AreSegments (s ∷ segments) = IsSegment s × AreSegments segments

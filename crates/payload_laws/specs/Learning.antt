-- Names of a table, as a client learns them from exported segments.
use Rattle.std.specs.Prelude.{◌≡◌, ℕ, ◌+◌, ◌≤◌, List, [], ◌∷◌, length, Bool, false, Some, slice_get, ⊤}
use Rattle.protocol_model.specs.Limits.{depth_limit, name_limit}
use Rattle.protocol_model.specs.Value.{Segment, Class}
use Rattle.table_model.specs.Facts.{IsTable}
use Rattle.table_model.specs.Rules.{Entry, segments_of}
use Rattle.connection_model.specs.Names.{name_known}
use Rattle.payload_laws.specs.Accepted.{StandsIn}

-- each segment of the path is one of `segments`
abbrev pub StandAmong : (segments path : List Segment) → Type 0
StandAmong segments [] = ⊤
StandAmong segments (s ∷ path) =
    ((n : ℕ) × (slice_get segments n ≡ Some s)) × StandAmong segments path

-- each name that is known is one of `segments`
abbrev pub AreAmong : (segments names : List Segment) → Type 0
AreAmong segments names =
    (guid : ℕ) (s : Segment) → name_known names guid ≡ Some s
    → (n : ℕ) × (slice_get segments n ≡ Some s)

-- the segment is known under its guid
abbrev pub Knows : (names : List Segment) → Segment → Type 0
Knows names s = name_known names s.guid ≡ Some s

-- each segment of the path is known under its guid
abbrev pub KnowsAll : (names path : List Segment) → Type 0
KnowsAll names [] = ⊤
KnowsAll names (s ∷ path) = Knows names s × KnowsAll names path

-- each segment of the path that isn't exported is known under its guid
abbrev pub KnowsOthers : (names : List Segment) → (is_exported : Segment → Bool)
    → (path : List Segment) → Type 0
KnowsOthers names is_exported [] = ⊤
KnowsOthers names is_exported (s ∷ path) =
    (is_exported s ≡ false → Knows names s) × KnowsOthers names is_exported path

-- a client with these names of an accepted table may learn the class from an open: it knows what
-- the open leaves out of the path, and has room for a whole path
pub record MayLearn (entries : List Entry) (names : List Segment) (is_exported : Segment → Bool)
    (class : Class) : Type 0 where
  pub is_table : IsTable entries
  pub stands : StandsIn entries class
  pub among : AreAmong (segments_of entries) names
  pub others : KnowsOthers names is_exported class.path
  pub room : length names + depth_limit ≤ name_limit

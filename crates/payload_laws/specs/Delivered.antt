-- What the opens that a client applied have exported.
use Rattle.std.specs.Prelude.{List, [], ◌∷◌, ⊤}
use Rattle.protocol_model.specs.Value.{Segment}
use Rattle.connection_model.specs.Feed.{Delivered}
use Rattle.connection_model.specs.Names.{names_in}
use Rattle.payload_laws.specs.Learning.{StandAmong, KnowsAll}

-- each segment that these payloads exported is one of `segments`
abbrev pub ExportsStand : (segments : List Segment) → List Delivered → Type 0
ExportsStand segments [] = ⊤
ExportsStand segments (d ∷ delivered) =
    StandAmong segments (names_in d) × ExportsStand segments delivered

-- each segment that these payloads exported is known under its guid
abbrev pub ExportsKnown : (names : List Segment) → List Delivered → Type 0
ExportsKnown names [] = ⊤
ExportsKnown names (d ∷ delivered) = KnowsAll names (names_in d) × ExportsKnown names delivered

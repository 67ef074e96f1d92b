-- From which bits an end reads a message.
use Rattle.std.specs.Prelude.{◌≡◌, ℕ, ◌++◌, List, [], Bool, true, false, Some, unwrap_or}
use Rattle.protocol_model.specs.Side.{Side}
use Rattle.protocol_model.specs.Bits.{packed_bits}
use Rattle.protocol_model.specs.Value.{Segment, Class, Pair, Table}
use Rattle.protocol_model.specs.Packet.{Bunch}
use Rattle.protocol_model.specs.Payload.{Message, Opens, Closes, Updates, Calls, Gone, exports_bits, list_bits, message_bits}
use Rattle.connection_model.specs.Feed.{Past}
use Rattle.connection_model.specs.CallAnswers.{call_class}
use Rattle.connection_model.specs.Bunches.{has_exports}
use Rattle.connection_model.specs.Names.{class_named}
use Rattle.connection_model.specs.Copies.{copy_on}
use Rattle.connection_model.specs.PayloadReading.{is_sleeping_copy}
use Rattle.payload_laws.specs.Limits.{HasLimits, IsActor}
use Rattle.payload_laws.specs.Passing.{OpenPasses, UpdatePasses, CallPasses}

-- an open that names its class by this guid
abbrev pub open_bits : (exports : List Segment) (actor guid : ℕ) → Class → List Pair → List Bool
open_bits exports actor guid class values =
    exports_bits exports ++ packed_bits actor ++ packed_bits guid ++ list_bits class values

-- each class by which the end may read has kinds and sizes that a table may have
pub record KnowsLimits (side : Side) (table : Table) (past : Past) : Type 0 where
  pub named : (names : List Segment) (guid : ℕ) (class : Class)
      → class_named table names guid ≡ Some class → HasLimits class
  pub known : (actor : ℕ) (class : Class)
      → call_class side past actor ≡ Some class → HasLimits class

-- the bits are the message's spelling, and the rules let it through; an open may name its class by
-- any guid that the reader knows it by, and a close is of whichever copy holds the channel
abbrev pub Spells : Side → Table → Past → (first : Bunch) → List Bool → Message → Type 0
Spells side table past first bits (Opens exports actor class values) =
    (first.exports ≡ has_exports (Opens exports actor class values))
    × ((guid : ℕ) × (bits ≡ open_bits exports actor guid class values)
    × OpenPasses table past first.channel exports actor guid class values)
Spells side table past first bits (Closes actor sleeps) =
    (bits ≡ [])
    × (actor ≡ unwrap_or (copy_on past first.channel) 0)
    × (sleeps ≡ first.sleeps)
Spells side table past first bits (Updates actor class values) =
    (bits ≡ message_bits (Updates actor class values))
    × (first.reliable ≡ false)
    × UpdatePasses past first.channel actor class values
Spells side table past first bits (Calls actor number call args) =
    (bits ≡ message_bits (Calls actor number call args))
    × (first.reliable ≡ call.reliable)
    × CallPasses side past actor number call args
Spells side table past first bits (Gone actor) =
    (bits ≡ message_bits (Gone actor)) × IsActor actor × (is_sleeping_copy past actor ≡ true)

-- The bunches that a message is cut into, those of them that are kept, and what they hand on.
use Rattle.std.specs.Prelude.{ℕ, zero, suc, ◌+◌, List, [], ◌∷◌, map}
use Rattle.std.specs.List.{range_with_len}
use Rattle.protocol_model.specs.Packet.{Bunch}
use Rattle.protocol_model.specs.Payload.{Message, parts_of}
use Rattle.connection_model.specs.Feed.{End, Past}
use Rattle.connection_model.specs.Bunches.{made_bunch}
use Rattle.connection_model.specs.Verdict.{delivery_of, with_handed}

-- `count` parts of the message, from the i-th on; its first part has the number `first`
abbrev pub bunches_from : (channel first : ℕ) → Message → (i count : ℕ) → List Bunch
bunches_from ch first message i count =
    map (λ j. made_bunch ch (first + j) message j) (range_with_len i count)

-- all parts of the message
abbrev pub bunches_of : (channel first : ℕ) → Message → List Bunch
bunches_of ch first message = bunches_from ch first message 0 (parts_of message)

-- the first i parts as they are kept, the newest first
abbrev pub kept_parts : (channel first : ℕ) → Message → (i : ℕ) → List Bunch
kept_parts ch first message zero = []
kept_parts ch first message (suc i) =
    made_bunch ch (first + i) message i ∷ kept_parts ch first message i

-- the past in which the message was handed on as well
abbrev pub after_message : End → Past → (channel first : ℕ) → Message → Past
after_message end past ch first message =
    with_handed (delivery_of end past (made_bunch ch first message 0) message) past

-- What a server sends is in its place at a client, and what is handed on was made.
use Rattle.std.specs.Prelude.{◌≡◌, ℕ, List, ◌++◌, map, false, Some}
use Rattle.protocol_model.specs.Packet.{Bunch}
use Rattle.protocol_model.specs.Payload.{Message}
use Rattle.protocol_model.specs.Search.{newest_of}
use Rattle.protocol_model.specs.Side.{Side, AtClient}
use Rattle.protocol_model.specs.Value.{Table}
use Rattle.connection_model.specs.Feed.{End, Past}
use Rattle.connection_model.specs.Items.{made_as, loose_bunch}
use Rattle.connection_model.specs.Verdict.{is_misplaced}
use Rattle.replication_model.specs.Story.{Player, past_at, end_of, other_side}
use Rattle.connection_laws.specs.Run.{HasLoosePlace}
use Rattle.connection_laws.specs.Delivered.{Numbered, messages_on, payload_of, handed_reliably, ReadEach, is_closed_by}

-- each bunch that was made, and each unreliable one that may be sent, is in its place at the client
pub record PlacedAtClient (end : End) (past : Past) : Type 0 where
  pub made : (ch n : ℕ) (b : Bunch) → newest_of (made_as ch n) past ≡ Some b
      → is_misplaced AtClient b ≡ false
  pub loose : (ch : ℕ) (message : Message) → HasLoosePlace end past ch message
      → is_misplaced AtClient (loose_bunch ch message) ≡ false

-- what was handed on from the index was read, one by one, from the first messages made there
pub record HandsFirst (end : End) (from to : Past) (ch : ℕ) : Type 0 where
  pub first : List Numbered
  pub later : List Numbered
  pub made : messages_on from ch ≡ first ++ later
  pub each : ReadEach end (handed_reliably to ch) (map (payload_of ch) first)

-- so on every index of either end of the player, as long as no datagram closed the end that hears
abbrev pub HandsFirstAll : Table → Player → Type 0
HandsFirstAll table p =
    (side : Side) (ch : ℕ) → is_closed_by (past_at table side p) ≡ false
    → HandsFirst (end_of table side p) (past_at table (other_side side) p) (past_at table side p) ch

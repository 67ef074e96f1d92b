-- What an end knows of the packets that it sent and of the bunches that it made.
use Rattle.std.specs.Prelude.{◌≡◌, ℕ, ◌≤◌, true, Some}
use Rattle.protocol_model.specs.Search.{is_among}
use Rattle.protocol_model.specs.Limits.{unresolved_limit}
use Rattle.connection_model.specs.Feed.{Past}
use Rattle.connection_model.specs.Fates.{moved_of, high_of, last_sent, unresolved_count}
use Rattle.connection_model.specs.Bunches.{made_count, carrier_of}

-- a packet number that is known to have arrived is that of a packet that was sent
abbrev pub MovesSent : Past → Type 0
MovesSent past = (n : ℕ) → is_among n (moved_of past) ≡ true → (1 ≤ n) × (n ≤ last_sent past)

-- a bunch that was carried was made, and a packet that was sent carried it
abbrev pub CarriesMade : Past → Type 0
CarriesMade past = (ch n k : ℕ) → carrier_of past ch n ≡ Some k
    → (1 ≤ n) × (n ≤ made_count past ch) × (1 ≤ k) × (k ≤ last_sent past)

-- both; what is known lies within what was sent, and few packets have an open fate
pub record FatesFit (past : Past) : Type 0 where
  pub moved : MovesSent past
  pub high : high_of past ≤ last_sent past
  pub unresolved : unresolved_count past ≤ unresolved_limit
  pub carried : CarriesMade past

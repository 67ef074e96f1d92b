-- Pasts that tell the same of bunches.
use Rattle.std.specs.Prelude.{◌≡◌, ℕ, ◌≤◌, filter_map}
use Rattle.protocol_model.specs.Search.{newest_of}
use Rattle.connection_model.specs.Feed.{Past}
use Rattle.connection_model.specs.Fates.{moved_of, last_sent, entries_of}
use Rattle.connection_model.specs.Bunches.{made_count, channel_in, carrier_of}
use Rattle.connection_model.specs.Items.{made_as}
use Rattle.connection_model.specs.Windows.{received_on, channel_heard}
use Rattle.connection_model.specs.Copies.{delivered_of}

-- the same bunches were made, and the same packets carried them last
pub record SameMade (one other : Past) : Type 0 where
  pub count : (ch : ℕ) → made_count other ch ≡ made_count one ch
  pub made : (ch n : ℕ) → newest_of (made_as ch n) other ≡ newest_of (made_as ch n) one
  pub channels : filter_map channel_in other ≡ filter_map channel_in one
  pub carriers : (ch n : ℕ) → carrier_of other ch n ≡ carrier_of one ch n
  pub last : last_sent one ≤ last_sent other

-- and the same packets moved
pub record Alike (one other : Past) : Type 0 where
  pub made : SameMade one other
  pub moved : moved_of other ≡ moved_of one

-- the same bunches were received, and the same payloads handed on
pub record SameHeard (one other : Past) : Type 0 where
  pub received : (ch : ℕ) → received_on other ch ≡ received_on one ch
  pub channels : filter_map channel_heard (entries_of other) ≡ filter_map channel_heard (entries_of one)
  pub handed : delivered_of other ≡ delivered_of one

-- Actors that hear one by one of what has arrived, and give up their channels.
use Rattle.std.specs.Prelude.{◌≡◌, ◌⊎◌, ℕ, List, true, Option, Some, None}
use Rattle.protocol_model.specs.Side.{AtServer}
use Rattle.protocol_model.specs.Search.{is_among}
use Rattle.connection_model.specs.Feed.{Past}
use Rattle.connection_model.specs.Bunches.{has_arrived}
use Rattle.channel_table.specs.Channels.{Channels}
use Rattle.channel_table.specs.Holders.{channel_bound, IsPaired, other_than}
use Rattle.channel_table.specs.Keeps.{Keeps}
use Rattle.sender_laws.specs.Acts.{acts}
use Rattle.sender_laws.specs.States.{is_pending}
use Rattle.sender_records.specs.declared.actor.ActorRecord.{ActorRecord}
use Rattle.sender_records.specs.Life.{KeepsLife, state_value}
use Rattle.sender_steps.specs.Sender.{record_in}

-- the same was done, and what had arrived has
pub record IsGrown (past later : Past) : Type 0 where
  pub done : acts later ≡ acts past
  pub grows : (ch n : ℕ) → has_arrived past ch n ≡ true → has_arrived later ch n ≡ true

-- what an actor holds, once one that held the first index holds the second
abbrev pub given_up : (before after held : Option ℕ) → Option ℕ
given_up (Some ch) None held = other_than ch held
given_up (Some ch) (Some k) held = held
given_up None after held = held

-- the channels, once an actor that held the first index holds the second
pub record IsUnbound (before after : Option ℕ) (t later : Channels) : Type 0 where
  pub channels : (a : ℕ) → channel_bound later.bound a
      ≡ given_up before after (channel_bound t.bound a)
  pub paired : IsPaired t.bound → IsPaired later.bound
  pub rest : later ≡ record t { bound = later.bound }

-- the channels stand for the later past; each actor's does too, or stands for the past before, and
-- then it is left to hear if something is under way on it
pub record Hearing (past later : Past) (left : List ℕ) (records : List (ℕ × ActorRecord))
    (t : Channels) : Type 0 where
  pub each : (a : ℕ) → KeepsLife later a (record_in records a).life
      ⊎ (KeepsLife past a (record_in records a).life
      × (is_pending (state_value (record_in records a).life.state) ≡ true → is_among a left ≡ true))
  pub table : Keeps t AtServer later
  pub bound : (a : ℕ) → channel_bound t.bound a ≡ (record_in records a).life.index
  pub paired : IsPaired t.bound

-- A client's copies against the messages that were handed on from each channel.
use Rattle.std.specs.Prelude.{◌≡◌, ℕ, ◌==◌, ◌&&◌, true, Option, Some, None, filter_map}
use Rattle.std.specs.Bool.{then_some}
use Rattle.protocol_model.specs.Payload.{Message, Opens, Closes, Updates, Calls, Gone}
use Rattle.connection_model.specs.Feed.{Past, Delivered}
use Rattle.connection_model.specs.Copies.{delivered_of, has_copy, copy_channel}
use Rattle.connection_laws.specs.Delivered.{Numbered}
use Rattle.connection_laws.specs.InTurn.{user_of}

-- the message of a reliable payload that was handed on from the channel; its number doesn't count here
abbrev pub applied_in : ℕ → Delivered → Option Numbered
applied_in ch d = then_some (d.channel == ch && d.reliable) (0, d.message)

-- the actor whose open was the last to be handed on from the channel, with no close after it
abbrev pub user_at : Past → (ch : ℕ) → Option ℕ
user_at past ch = user_of (filter_map (applied_in ch) (delivered_of past))

-- the copies on channels are those of the channels' users, both ways
pub record CopiesAgree (past : Past) : Type 0 where
  pub holds : (ch a : ℕ) → user_at past ch ≡ Some a
      → (has_copy past a ≡ true) × (copy_channel past a ≡ Some ch)
  pub held : (ch a : ℕ) → copy_channel past a ≡ Some ch → user_at past ch ≡ Some a

-- a payload with this message comes in turn: an open where the channel has no user and the actor no
-- channel, a close from the channel's user, a Gone where the actor has no channel, the rest anywhere
abbrev pub ComesInTurn : Past → Delivered → Message → Type 0
ComesInTurn past d (Opens exports actor class values) = (d.reliable ≡ true)
    × (user_at past d.channel ≡ None) × (copy_channel past actor ≡ None)
ComesInTurn past d (Closes actor sleeps) = (d.reliable ≡ true)
    × (user_at past d.channel ≡ Some actor)
ComesInTurn past d (Updates actor class values) = Unit {0}
ComesInTurn past d (Calls actor number call args) = Unit {0}
ComesInTurn past d (Gone actor) = copy_channel past actor ≡ None

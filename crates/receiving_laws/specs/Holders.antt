-- Whether a copy holds a channel, by the payloads that were handed on.
use Rattle.std.specs.Prelude.{ℕ, ◌==◌, Bool, true, false, Option, None, unwrap_or}
use Rattle.std.specs.Bool.{then_some}
use Rattle.protocol_model.specs.Payload.{Opens, Closes}
use Rattle.protocol_model.specs.Search.{newest_of}
use Rattle.connection_model.specs.Feed.{Past, Delivered}
use Rattle.connection_model.specs.Copies.{delivered_of}

-- what a payload says of who holds its channel
abbrev pub holder_said : (channel : ℕ) → Delivered → Option Bool
holder_said ch d = elim d.message [
  | Opens exports actor class values ↦ then_some (d.channel == ch) true
  | Closes actor sleeps ↦ then_some (d.channel == ch) false
  | _ ↦ None
]

-- a copy holds the channel, by the opens and closes that were handed on
abbrev pub is_copied_on : Past → (channel : ℕ) → Bool
is_copied_on past ch = unwrap_or (newest_of (holder_said ch) (delivered_of past)) false

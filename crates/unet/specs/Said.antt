-- What the program says, as an outcome.
use Rattle.std.specs.Prelude.{string_bytes}
use Rattle.unet.specs.Outcome.{Outcome}
use Rattle.unet.specs.declared.said.Said.{Said}

abbrev pub said_of : Said → Outcome
said_of s = record { status = s.status; text = string_bytes s.text }

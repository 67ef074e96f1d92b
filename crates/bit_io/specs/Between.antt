use Rattle.std.specs.Prelude.{ℕ, List, Bool, take, drop}
use Rattle.protocol_model.specs.Bits.{bits_of}

-- the bits of the bytes from one place up to another
unfoldable pub bits_between : List ℕ → (from to : ℕ) → List Bool
bits_between bytes from to = drop from (take to (bits_of bytes))

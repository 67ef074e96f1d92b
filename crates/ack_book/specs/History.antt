-- A list of words as one list of bits.
use Rattle.std.specs.Prelude.{ℕ, ◌/◌, ◌%◌, List, slice_index}
use Rattle.std.specs.Int.{bit_at}

-- bit i is bit i % 32, lowest first, of word i / 32
abbrev pub bit_in : List ℕ → ℕ → ℕ
bit_in words i = bit_at (slice_index words (i / 32)) (i % 32)

-- What lent parts and readers stand for.
use Rattle.std.specs.Prelude.{◌≡◌, ℕ, ◌+◌, List, Bool}
use Rattle.bit_io.specs.declared.lent.BitSlice.{BitSlice}
use Rattle.bit_io.specs.declared.lent.BitReader.{BitReader}
use Rattle.bit_io.specs.Between.{bits_between}

-- the bits of a slice
abbrev pub slice_bits : BitSlice → List Bool
slice_bits s = bits_between s.bytes.now s.from s.to

-- the bits that a reader has left
abbrev pub bits_left : BitReader → List Bool
bits_left r = bits_between r.bytes.now r.place r.to

-- the reader went on by so many bits of the same bytes, up to the same end
pub record MovesBy (old new : BitReader) (count : ℕ) : Type 0 where
  pub place : new.place ≡ old.place + count
  pub bytes : new.bytes ≡ old.bytes
  pub to : new.to ≡ old.to

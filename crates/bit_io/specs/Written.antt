use Rattle.std.specs.Prelude.{◌≡◌, ℕ, ◌+◌, ◌*◌, ◌<◌, ◌≤◌, ◌^◌, ◌++◌, List, Bool, length}
use Rattle.protocol_laws.specs.Packed.{number_of_bytes}

-- what a writer holds: the bits, and how many can still be put
pub record Written : Type 0 where
  pub bits : List Bool
  pub spare : ℕ

-- these bits were put behind the others, and took their room
pub record Appends (old new : Written) (more : List Bool) : Type 0 where
  pub bits : new.bits ≡ old.bits ++ more
  pub spare : new.spare + length more ≡ old.spare

-- all bits from that place on are 0, and it is within the bytes
pub record IsClear (bytes : List ℕ) (len : ℕ) : Type 0 where
  pub within : len ≤ 8 * length bytes
  pub small : length bytes < 2 ^ 58
  pub clear : number_of_bytes bytes < 2 ^ len

-- Numbers, as far as they are told apart.
use Rattle.std.specs.Prelude.{ℕ, ◌-◌, ◌^◌, min, ℤ, pos, negsuc}

-- the greatest size of a number that is told from greater ones
abbrev pub most_size : ℕ
most_size = 2 ^ 64 - 1

-- a number of greater size counts as the greatest of its sign
abbrev pub capped : ℤ → ℤ
capped (pos n) = pos (min most_size n)
capped (negsuc n) = negsuc (min (most_size - 1) n)

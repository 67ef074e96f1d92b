-- Numbers behind the words of types.
use Rattle.std.specs.Prelude.{ℕ, min}

-- a number, and 65,536 for any larger one: every range of a type ends below it
abbrev pub capped : ℕ → ℕ
capped n = min 65536 n

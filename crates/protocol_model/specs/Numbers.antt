-- The number with whose spelling a list of bits begins, and the bits after it.
use Rattle.std.specs.Prelude.{ℕ, zero, suc, ◌+◌, ◌*◌, ◌/◌, ◌%◌, ◌==◌, List, length, take, drop, Bool, true, false, not, ◌&&◌, ◌||◌, nat_lt, Option, Some, None, option_map, Result, Ok, Err, if◌then◌else◌}
use Rattle.protocol_model.specs.declared.NumRefusal.{NumRefusal}
use Rattle.protocol_model.specs.declared.NumRefusal.TheVariants.{Short, Padded}
use Rattle.protocol_model.specs.Bits.{number_of, int_width}

-- the first n bits; nothing where there are fewer
abbrev pub leading_bits : (n : ℕ) → List Bool → Option (List Bool × List Bool)
leading_bits n bits = if nat_lt (length bits) n then None else Some (take n bits, drop n bits)

-- the number of w binary digits
abbrev pub leading_fixed : (w : ℕ) → List Bool → Option (ℕ × List Bool)
leading_fixed w bits =
    option_map (λ (got : List Bool × List Bool). (number_of got.0, got.1)) (leading_bits w bits)

-- the number below max; bits past the end count as 0 in finding its width
abbrev pub leading_int : (max : ℕ) → List Bool → Option (ℕ × List Bool)
leading_int max bits = leading_fixed (int_width max (number_of (take 32 bits))) bits

-- the groups of a packed number, of at most so many: each has a bit that says whether another follows, and
-- seven digits. The last of several isn't 0, and the fifth is the last and at most 15.
unfoldable pub leading_groups : (groups : ℕ) (first : Bool) → List Bool → Result (ℕ × List Bool) NumRefusal
leading_groups zero first bits = Err Padded
leading_groups (suc groups) first bits = elim (leading_fixed 8 bits) [
  | None ↦ Err Short
  | Some got ↦ (
      if got.0 % 2 == 1 then with_digit (got.0 / 2) (leading_groups groups false got.1)
      else if (got.0 / 2 == 0 && not first) || (groups == 0 && nat_lt 15 (got.0 / 2)) then Err Padded
      else Ok (got.0 / 2, got.1))
]
  where
    -- the number with one more digit below it, to the base 128
    with_digit : ℕ → Result (ℕ × List Bool) NumRefusal → Result (ℕ × List Bool) NumRefusal
    with_digit digit (Ok got) = Ok (digit + 128 * got.0, got.1)
    with_digit digit (Err why) = Err why

-- a packed number
abbrev pub leading_packed : List Bool → Result (ℕ × List Bool) NumRefusal
leading_packed bits = leading_groups 5 true bits

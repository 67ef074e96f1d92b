-- The value with whose spelling a list of bits begins, and the bits after it.
use Rattle.std.specs.Prelude.{ℕ, ◌^◌, nat_lt, ℤ, pos, List, Bool, true, false, ◌==◌, not, Option, Some, None, Result, Ok, Err}
use Rattle.std.specs.Int.{w32, w64, cast_signed}
use Rattle.protocol_model.specs.declared.Kind.{Kind}
use Rattle.protocol_model.specs.declared.NumRefusal.{NumRefusal}
use Rattle.protocol_model.specs.Numbers.{leading_fixed, leading_int, leading_packed}

-- a number that was found, or bits are missing
abbrev pub or_short : Option (ℕ × List Bool) → Result (ℕ × List Bool) NumRefusal
or_short (Some got) = Ok got
or_short None = Err NumRefusal.Short

-- the value that a number stands for, and the bits after it
abbrev pub as_value : (ℕ → ℤ) → Result (ℕ × List Bool) NumRefusal → Result (ℤ × List Bool) NumRefusal
as_value f (Ok got) = Ok (f got.0, got.1)
as_value f (Err why) = Err why

-- numbers with a sign are in two's complement; no bits spell a value of bytes
unfoldable pub leading_value : Kind → List Bool → Result (ℤ × List Bool) NumRefusal
leading_value Kind.Bool bits = as_value (λ n. pos n) (or_short (leading_fixed 1 bits))
leading_value Kind.U8 bits = as_value (λ n. pos n) (or_short (leading_fixed 8 bits))
leading_value Kind.I32 bits = as_value (cast_signed w32) (or_short (leading_fixed 32 bits))
leading_value Kind.U32 bits = as_value (λ n. pos n) (or_short (leading_fixed 32 bits))
leading_value Kind.I64 bits = as_value (cast_signed w64) (or_short (leading_fixed 64 bits))
leading_value Kind.Packed bits = as_value (λ n. pos n) (leading_packed bits)
leading_value Kind.Guid bits = as_value (λ n. pos n) (leading_packed bits)
leading_value (Kind.Enum count) bits = as_value (λ n. pos n) (or_short (leading_int count bits))
leading_value (Kind.Bytes most) bits = Err NumRefusal.Short

-- some value is of the kind
abbrev pub has_values : Kind → Bool
has_values (Kind.Enum count) = not (count == 0)
has_values (Kind.Bytes most) = false
has_values kind = true

-- the kind's numbers are of 16 bits, as kinds in code have them
abbrev pub is_kind : Kind → Bool
is_kind (Kind.Enum count) = nat_lt count (2 ^ 16)
is_kind (Kind.Bytes most) = nat_lt most (2 ^ 16)
is_kind kind = true

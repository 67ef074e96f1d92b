-- A payload's reading of a value, kind by kind, against what the bits begin with.
use Rattle.std.proofs.Common.{◌≡◌, ℕ, ℤ, pos, negsuc, ◌+◌, ◌^◌, List, Bool, true, false, nat_lt, length, Option, Some, None, Result, Ok, Err, IsTrue, refl, ap, arith}
use Rattle.std.specs.Int.{w32, w64, cast_signed}
use Rattle.protocol_model.specs.declared.Kind.{Kind}
use Rattle.protocol_model.specs.declared.NumRefusal.{NumRefusal}
use Rattle.protocol_model.specs.declared.Cause.{Cause}
use Rattle.protocol_model.specs.Numbers.{leading_fixed, leading_int, leading_packed}
use Rattle.protocol_model.specs.Reading.{◌>>=◌, or_short, signed_of, signed_at, packed_at}
use Rattle.connection_model.specs.PayloadReading.{natural_at, number_at, value_at}
use Rattle.value_codec.specs.Reading.{leading_value, has_values, as_value}
use Rattle.value_codec.specs.Reading as Values
use Rattle.value_laws.specs.Alike.{as_payload}

-- a number without a sign
natural_short : (leading : List Bool → Option (ℕ × List Bool)) (bits : List Bool) (o : Option (ℕ × List Bool))
    → leading bits ≡ o
    → natural_at (or_short leading) bits ≡ as_payload (length bits) (as_value (λ n. pos n) (Values.or_short o))
natural_short leading bits None e = rw (or_short, ◌>>=◌, e) refl
natural_short leading bits (Some got) e = rw (or_short, ◌>>=◌, e) refl

-- a packed number
natural_packed : (bits : List Bool) (o : Result (ℕ × List Bool) NumRefusal) → leading_packed bits ≡ o
    → natural_at number_at bits ≡ as_payload (length bits) (as_value (λ n. pos n) o)
natural_packed bits (Ok got) e = rw (packed_at, ◌>>=◌, e) refl
natural_packed bits (Err NumRefusal.Short) e = rw (packed_at, ◌>>=◌, e) refl
natural_packed bits (Err NumRefusal.Padded) e = rw (packed_at, ◌>>=◌, e) refl

-- two's complement of 32 bits, and of 64
signed_word : (n : ℕ) → signed_of 31 n ≡ cast_signed w32 n
signed_word n = by (nat_lt n (2 ^ 31)) refl
  where
    by : (b : Bool) → nat_lt n (2 ^ 31) ≡ b → signed_of 31 n ≡ cast_signed w32 n
    by true e = rw e refl
    by false e = rw e (ap negsuc (omega arith))

signed_long : (n : ℕ) → signed_of 63 n ≡ cast_signed w64 n
signed_long n = by (nat_lt n (2 ^ 63)) refl
  where
    by : (b : Bool) → nat_lt n (2 ^ 63) ≡ b → signed_of 63 n ≡ cast_signed w64 n
    by true e = rw e refl
    by false e = rw e (ap negsuc (omega arith))

-- a number with a sign
signed_as : (w : ℕ) (cast : ℕ → ℤ) → ((n : ℕ) → signed_of w n ≡ cast n) → (bits : List Bool) (o : Option (ℕ × List Bool))
    → leading_fixed (w + 1) bits ≡ o
    → signed_at {Why = Option Cause} w bits ≡ as_payload (length bits) (as_value cast (Values.or_short o))
signed_as w cast same bits None e = rw (or_short, ◌>>=◌, e) refl
signed_as w cast same bits (Some got) e =
    rw (or_short, ◌>>=◌, e) (ap (λ (z : ℤ). Ok (z, got.1)) (same got.0))

-- a value is what the bits begin with, or is missing, or is spelled too long
pub value_as : (kind : Kind) (bits : List Bool) → IsTrue (has_values kind)
    → value_at kind bits ≡ as_payload (length bits) (leading_value kind bits)
unfolding leading_value
value_as Kind.Bool bits h = natural_short (leading_fixed 1) bits (leading_fixed 1 bits) refl
value_as Kind.U8 bits h = natural_short (leading_fixed 8) bits (leading_fixed 8 bits) refl
value_as Kind.I32 bits h = signed_as 31 (cast_signed w32) signed_word bits (leading_fixed 32 bits) refl
value_as Kind.U32 bits h = natural_short (leading_fixed 32) bits (leading_fixed 32 bits) refl
value_as Kind.I64 bits h = signed_as 63 (cast_signed w64) signed_long bits (leading_fixed 64 bits) refl
value_as (Kind.Enum count) bits h = natural_short (leading_int count) bits (leading_int count bits) refl
value_as Kind.Packed bits h = natural_packed bits (leading_packed bits) refl
value_as Kind.Guid bits h = natural_packed bits (leading_packed bits) refl
value_as (Kind.Bytes most) bits h = absurd (cc)

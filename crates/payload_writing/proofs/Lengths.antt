-- How many bits numbers and values take at most.
use Rattle.std.proofs.Common.{ℕ, ℤ, zero, suc, ◌+◌, ◌≤◌, ◌%◌, ◌^◌, Bool, true, false, cond, nat_le, length, arith}
use Rattle.protocol_model.specs.declared.Kind.{Kind}
use Rattle.protocol_model.specs.declared.Kind.TheVariants.{U8, I32, U32, I64, Packed, Guid, Enum, Bytes}
use Rattle.protocol_model.specs.Bits.{int_width, int_bits, packed_bits}
use Rattle.protocol_model.specs.Payload.{natural, value_bits}
use Rattle.protocol_model.specs.Search.{least_from}
use Rattle.protocol_laws.proofs.Digits.{length-digits}
use Rattle.protocol_laws.proofs.Lengths.{length-packed, length-signed}
use Rattle.bit_io.specs.Written.{Written, Appends}

least_most : (test : ℕ → Bool) (many k : ℕ) → least_from test many k ≤ k + many
least_most test zero k = omega arith
least_most test (suc many) k = by_case (test k) (least_most test many (k + 1))
  where
    by_case : (b : Bool) → least_from test many (k + 1) ≤ k + 1 + many
        → cond b k (least_from test many (k + 1)) ≤ k + suc many
    by_case true later = omega arith
    by_case false later = omega (arith, later)

width_most : (max n : ℕ) → int_width max n ≤ 32
unfolding int_width
width_most max n = least_most (λ i. nat_le max (n % 2 ^ i + 2 ^ i)) 32 0

int_short : (max n : ℕ) → length (int_bits max n) ≤ 32
int_short max n = omega (arith, length-digits (int_width max n) n, width_most max n)

value_short : (kind : Kind) (v : ℤ) → length (value_bits kind v) ≤ 64
value_short Kind.Bool v = omega (arith, length-digits 1 (natural v))
value_short U8 v = omega (arith, length-digits 8 (natural v))
value_short I32 v = omega (arith, length-signed 32 v)
value_short U32 v = omega (arith, length-digits 32 (natural v))
value_short I64 v = omega (arith, length-signed 64 v)
value_short Packed v = omega (arith, length-packed (natural v))
value_short Guid v = omega (arith, length-packed (natural v))
value_short (Enum count) v = omega (arith, int_short count (natural v))
value_short (Bytes most) v = omega arith

-- what each takes of the room
pub packed_takes : {old new : Written} (v : ℕ) → Appends old new (packed_bits v) → old.spare ≤ new.spare + 40
packed_takes v put = omega (arith, put.spare, length-packed v)

pub int_takes : {old new : Written} (max v : ℕ) → Appends old new (int_bits max v) → old.spare ≤ new.spare + 32
int_takes max v put = omega (arith, put.spare, int_short max v)

pub value_takes : {old new : Written} (kind : Kind) (v : ℤ) → Appends old new (value_bits kind v)
    → old.spare ≤ new.spare + 64
value_takes kind v put = omega (arith, put.spare, value_short kind v)

-- A value is read back as it was spelled.
use Rattle.std.proofs.Common.{◌≡◌, ℕ, ℤ, pos, negsuc, ◌<◌, ◌≤◌, ◌^◌, List, ◌++◌, Bool, true, nat_lt, Ok, refl, arith}
use Rattle.std.proofs.lemmas.Bool.Decides.{nat_tests}
use Rattle.std.proofs.lemmas.Int.{ints, to_z-of_z}
use Rattle.std.specs.Prelude.{FitsSigned}
use Rattle.std.specs.Int.{w32, w64, cast_signed, cast_unsigned}
use Rattle.protocol_model.specs.declared.Kind.{Kind}
use Rattle.protocol_model.specs.Bits.{packed_bits, int_bits, fixed_bits, signed_bits}
use Rattle.protocol_model.specs.Numbers.{leading_fixed, leading_int, leading_packed}
use Rattle.protocol_model.specs.Payload.{natural, value_bits}
use Rattle.protocol_model.specs.Value as Model
use Rattle.protocol_laws.proofs.Reading.{leading_fixed-append}
use Rattle.protocol_laws.proofs.PackedLaws.{packed-read}
use Rattle.protocol_laws.proofs.IntLaws.{int-read}
use Rattle.value_codec.specs.Reading.{is_kind, or_short, as_value, leading_value}
use Rattle.protocol_laws.proofs.TwosComplement.{signed_word, signed_long, below_word, below_long}

pub below : (n max : ℕ) → nat_lt n max ≡ true → n < max
below n max h = grind (arith, nat_tests)

pub small : (count : ℕ) → nat_lt count (2 ^ 16) ≡ true → count ≤ 2 ^ 32
small count h = let k : count < 2 ^ 16 = below count (2 ^ 16) h in omega arith

fixed-back : (w : ℕ) (v : ℤ) (rest : List Bool) → Model.is_below (2 ^ w) v ≡ true
    → as_value (λ n. pos n) (or_short (leading_fixed w (fixed_bits w (natural v) ++ rest))) ≡ Ok (v, rest)
fixed-back w (pos n) rest h = rw (leading_fixed-append w n rest (below n (2 ^ w) h)) refl
fixed-back w (negsuc n) rest h = absurd (cc)

packed-back : (v : ℤ) (rest : List Bool) → Model.is_below (2 ^ 32) v ≡ true
    → as_value (λ n. pos n) (leading_packed (packed_bits (natural v) ++ rest)) ≡ Ok (v, rest)
packed-back (pos n) rest h = rw (packed-read n rest (below n (2 ^ 32) h)) refl
packed-back (negsuc n) rest h = absurd (cc)

int-back : (max : ℕ) (v : ℤ) (rest : List Bool) → max ≤ 2 ^ 32 → Model.is_below max v ≡ true
    → as_value (λ n. pos n) (or_short (leading_int max (int_bits max (natural v) ++ rest))) ≡ Ok (v, rest)
int-back max (pos n) rest m h = rw (int-read max n rest (below n max h) m) refl
int-back max (negsuc n) rest m h = absurd (cc)

fits_word : (v : ℤ) → Model.is_within (2 ^ 31) v ≡ true → FitsSigned w32 v
fits_word (pos n) h = let k : n < 2 ^ 31 = below n (2 ^ 31) h in omega (arith, ints)
fits_word (negsuc n) h = let k : n < 2 ^ 31 = below n (2 ^ 31) h in omega (arith, ints)

fits_long : (v : ℤ) → Model.is_within (2 ^ 63) v ≡ true → FitsSigned w64 v
fits_long (pos n) h = let k : n < 2 ^ 63 = below n (2 ^ 63) h in omega (arith, ints)
fits_long (negsuc n) h = let k : n < 2 ^ 63 = below n (2 ^ 63) h in omega (arith, ints)

word-back : (v : ℤ) (rest : List Bool) → FitsSigned w32 v → as_value (cast_signed w32)
    (or_short (leading_fixed 32 (signed_bits 32 v ++ rest))) ≡ Ok (v, rest)
word-back v rest f = rw (
  signed_word v f,
  leading_fixed-append 32 (cast_unsigned w32 v) rest
      (below_word v f),
  to_z-of_z w32 v f,
) refl

long-back : (v : ℤ) (rest : List Bool) → FitsSigned w64 v → as_value (cast_signed w64)
    (or_short (leading_fixed 64 (signed_bits 64 v ++ rest))) ≡ Ok (v, rest)
long-back v rest f = rw (
  signed_long v f,
  leading_fixed-append 64 (cast_unsigned w64 v) rest
      (below_long v f),
  to_z-of_z w64 v f,
) refl

pub value-back : (kind : Kind) (v : ℤ) (rest : List Bool) → is_kind kind ≡ true → Model.fits kind v ≡ true
    → leading_value kind (value_bits kind v ++ rest) ≡ Ok (v, rest)
unfolding leading_value
value-back Kind.Bool v rest k f = fixed-back 1 v rest f
value-back Kind.U8 v rest k f = fixed-back 8 v rest f
value-back Kind.I32 v rest k f = word-back v rest (fits_word v f)
value-back Kind.U32 v rest k f = fixed-back 32 v rest f
value-back Kind.I64 v rest k f = long-back v rest (fits_long v f)
value-back Kind.Packed v rest k f = packed-back v rest f
value-back Kind.Guid v rest k f = packed-back v rest f
value-back (Kind.Enum count) v rest k f = int-back count v rest (small count k) f
value-back (Kind.Bytes most) v rest k f = absurd (cc)

-- Only a value of the kind that was spelled is read, and a value has few bits.
use Rattle.std.proofs.Common.{◌≡◌, ℕ, ℤ, zero, suc, pos, negsuc, ◌<◌, ◌≤◌, ◌+◌, ◌*◌, ◌/◌, ◌^◌, List, ◌∷◌, ◌++◌, Bool, true, false, cond, nat_lt, length, Option, Some, None, Result, Ok, Err, ap, subst, arith, length-append}
use Rattle.std.proofs.lemmas.Bool.Decides.{nat_tests}
use Rattle.std.proofs.lemmas.Int.{ints}
use Rattle.std.specs.Prelude.{FitsSigned}
use Rattle.std.specs.Int.{w32, w64, cast_signed}
use Rattle.protocol_model.specs.declared.Kind.{Kind}
use Rattle.protocol_model.specs.declared.NumRefusal.{NumRefusal}
use Rattle.protocol_model.specs.Bits.{digits, packed_in, packed_bits, int_bits, fixed_bits, signed_bits, int_width}
use Rattle.protocol_model.specs.Numbers.{leading_fixed, leading_int, leading_packed}
use Rattle.protocol_model.specs.Payload.{natural, value_bits}
use Rattle.protocol_model.specs.Value as Model
use Rattle.protocol_laws.proofs.Reading.{leading_fixed-spelled}
use Rattle.protocol_laws.proofs.PackedLaws.{packed-spelled}
use Rattle.protocol_laws.proofs.IntLaws.{int-spelled}
use Rattle.protocol_laws.proofs.Widths.{int_width_bound}
use Rattle.value_codec.specs.Reading.{is_kind, has_values, or_short, as_value, leading_value}
use Rattle.protocol_laws.proofs.TwosComplement.{unsigned_word, unsigned_long, fits_word, fits_long}
use Rattle.protocol_laws.proofs.Digits.{length-digits}
use Rattle.protocol_laws.proofs.Lengths.{length-signed, length-packed}
use Rattle.value_codec.proofs.Back.{small}

above : (n max : ℕ) → n < max → nat_lt n max ≡ true
above n max h = grind (arith, nat_tests)

same_ok : {A : Type 0} (v w : A) (xs ys : List Bool) → ◌≡◌ {A = Result (A × List Bool) NumRefusal} (Ok (v, xs))
    (Ok (w, ys)) → (v ≡ w) × (xs ≡ ys)
same_ok {A} v w xs ys h =
    let e : ◌≡◌ {A = A × List Bool} (v, xs) (w, ys) = cc in
    (ap (λ (p : A × List Bool). p.0) e, ap (λ (p : A × List Bool). p.1) e)

-- the number behind a value that was found
found : (f : ℕ → ℤ) (r : Result (ℕ × List Bool) NumRefusal) (v : ℤ) (rest : List Bool) → as_value f r ≡ Ok (v, rest)
    → (n : ℕ) × (r ≡ Ok (n, rest)) × (f n ≡ v)
found f (Ok got) v rest h =
    let same = same_ok (f got.0) v got.1 rest h in
    (got.0, ap (λ (xs : List Bool). Ok (got.0, xs)) same.1, same.0)
found f (Err why) v rest h = absurd (cc)

was_there : (o : Option (ℕ × List Bool)) (got : ℕ × List Bool) → or_short o ≡ Ok got → o ≡ Some got
was_there (Some g) got h = let e : g ≡ got = cc in ap (λ (p : ℕ × List Bool). Some p) e
was_there None got h = absurd (cc)

fixed-was : (w : ℕ) (v : ℤ) (bits rest : List Bool) → as_value (λ n. pos n) (or_short (leading_fixed w bits))
    ≡ Ok (v, rest) → (Model.is_below (2 ^ w) v ≡ true) × (bits ≡ fixed_bits w (natural v) ++ rest)
fixed-was w v bits rest h =
    let n = found (λ n. pos n) (or_short (leading_fixed w bits)) v rest h in
    let s = leading_fixed-spelled w n.0 bits rest (was_there (leading_fixed w bits) (n.0, rest) n.1) in
    subst (λ (z : ℤ). (Model.is_below (2 ^ w) z ≡ true) × (bits ≡ fixed_bits w (natural z) ++ rest)) n.2
    (above n.0 (2 ^ w) s.0, s.1)

int-was : (max : ℕ) (v : ℤ) (bits rest : List Bool) → 1 ≤ max → max ≤ 2 ^ 32
    → as_value (λ n. pos n) (or_short (leading_int max bits)) ≡ Ok (v, rest)
    → (Model.is_below max v ≡ true) × (bits ≡ int_bits max (natural v) ++ rest)
int-was max v bits rest l m h =
    let n = found (λ n. pos n) (or_short (leading_int max bits)) v rest h in
    let s = int-spelled max n.0 bits rest l m (was_there (leading_int max bits) (n.0, rest) n.1) in
    subst (λ (z : ℤ). (Model.is_below max z ≡ true) × (bits ≡ int_bits max (natural z) ++ rest)) n.2
    (above n.0 max s.0, s.1)

packed-was : (v : ℤ) (bits rest : List Bool) → as_value (λ n. pos n) (leading_packed bits) ≡ Ok (v, rest)
    → (Model.is_below (2 ^ 32) v ≡ true) × (bits ≡ packed_bits (natural v) ++ rest)
packed-was v bits rest h =
    let n = found (λ n. pos n) (leading_packed bits) v rest h in
    let s = packed-spelled n.0 bits rest n.1 in
    subst (λ (z : ℤ). (Model.is_below (2 ^ 32) z ≡ true) × (bits ≡ packed_bits (natural z) ++ rest)) n.2
    (above n.0 (2 ^ 32) s.0, s.1)

within_word : (z : ℤ) → FitsSigned w32 z → Model.is_within (2 ^ 31) z ≡ true
within_word (pos n) f = above n (2 ^ 31) (omega (arith, ints))
within_word (negsuc n) f = above n (2 ^ 31) (omega (arith, ints))

within_long : (z : ℤ) → FitsSigned w64 z → Model.is_within (2 ^ 63) z ≡ true
within_long (pos n) f = above n (2 ^ 63) (omega (arith, ints))
within_long (negsuc n) f = above n (2 ^ 63) (omega (arith, ints))

word-was : (v : ℤ) (bits rest : List Bool) → as_value (cast_signed w32) (or_short (leading_fixed 32 bits))
    ≡ Ok (v, rest) → (Model.is_within (2 ^ 31) v ≡ true) × (bits ≡ signed_bits 32 v ++ rest)
word-was v bits rest h =
    let n = found (cast_signed w32) (or_short (leading_fixed 32 bits)) v rest h in
    let s = leading_fixed-spelled 32 n.0 bits rest (was_there (leading_fixed 32 bits) (n.0, rest) n.1) in
    let e : bits ≡ signed_bits 32 (cast_signed w32 n.0) ++ rest = rw (unsigned_word n.0 s.0) s.1 in
    subst (λ (z : ℤ). (Model.is_within (2 ^ 31) z ≡ true) × (bits ≡ signed_bits 32 z ++ rest)) n.2
    (within_word (cast_signed w32 n.0) (fits_word n.0 s.0), e)

long-was : (v : ℤ) (bits rest : List Bool) → as_value (cast_signed w64) (or_short (leading_fixed 64 bits))
    ≡ Ok (v, rest) → (Model.is_within (2 ^ 63) v ≡ true) × (bits ≡ signed_bits 64 v ++ rest)
long-was v bits rest h =
    let n = found (cast_signed w64) (or_short (leading_fixed 64 bits)) v rest h in
    let s = leading_fixed-spelled 64 n.0 bits rest (was_there (leading_fixed 64 bits) (n.0, rest) n.1) in
    let e : bits ≡ signed_bits 64 (cast_signed w64 n.0) ++ rest = rw (unsigned_long n.0 s.0) s.1 in
    subst (λ (z : ℤ). (Model.is_within (2 ^ 63) z ≡ true) × (bits ≡ signed_bits 64 z ++ rest)) n.2
    (within_long (cast_signed w64 n.0) (fits_long n.0 s.0), e)

some_count : (count : ℕ) → has_values (Kind.Enum count) ≡ true → 1 ≤ count
some_count count h = grind (arith, nat_tests)

pub value-was : (kind : Kind) (v : ℤ) (bits rest : List Bool) → is_kind kind ≡ true → has_values kind ≡ true
    → leading_value kind bits ≡ Ok (v, rest) → (Model.fits kind v ≡ true) × (bits ≡ value_bits kind v ++ rest)
unfolding leading_value
value-was Kind.Bool v bits rest k o h = fixed-was 1 v bits rest h
value-was Kind.U8 v bits rest k o h = fixed-was 8 v bits rest h
value-was Kind.I32 v bits rest k o h = word-was v bits rest h
value-was Kind.U32 v bits rest k o h = fixed-was 32 v bits rest h
value-was Kind.I64 v bits rest k o h = long-was v bits rest h
value-was Kind.Packed v bits rest k o h = packed-was v bits rest h
value-was Kind.Guid v bits rest k o h = packed-was v bits rest h
value-was (Kind.Enum count) v bits rest k o h = int-was count v bits rest (some_count count o) (small count k) h
value-was (Kind.Bytes most) v bits rest k o h = absurd (cc)

pub value_short : (kind : Kind) (v : ℤ) → is_kind kind ≡ true → length (value_bits kind v) ≤ 64
value_short Kind.Bool v k = omega (arith, length-digits 1 (natural v))
value_short Kind.U8 v k = omega (arith, length-digits 8 (natural v))
value_short Kind.I32 v k = omega (arith, length-signed 32 v)
value_short Kind.U32 v k = omega (arith, length-digits 32 (natural v))
value_short Kind.I64 v k = omega (arith, length-signed 64 v)
value_short Kind.Packed v k = omega (arith, length-packed (natural v))
value_short Kind.Guid v k = omega (arith, length-packed (natural v))
value_short (Kind.Enum count) v k = omega (
  arith,
  length-digits (int_width count (natural v))
      (natural v),
  int_width_bound count (natural v) (small count k),
)
value_short (Kind.Bytes most) v k = omega arith

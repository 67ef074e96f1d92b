-- A value is read as it was spelled.
use Rattle.std.proofs.Common.{◌≡◌, ℕ, ℤ, zero, suc, pos, negsuc, ◌<◌, ◌≤◌, ◌+◌, ◌*◌, ◌-◌, ◌/◌, ◌%◌, ◌^◌, ◌==◌, List, [], ◌∷◌, ◌++◌, Bool, true, false, not, nat_le, map, unwrap_or, option_map, slice_get, Option, Ok, refl, arith}
use Rattle.std.specs.List.{list_all}
use Rattle.std.proofs.lemmas.Bool.Decides.{nat_tests}
use Rattle.std.proofs.Math.Nat.{pow-suc}
use Rattle.std.proofs.lemmas.Bool.{and_parts, ltb-true, lt-ltb, le-ltb, leb-true}
use Rattle.protocol_model.specs.declared.Kind.{Kind}
use Rattle.protocol_model.specs.declared.Cause.{Cause}
use Rattle.protocol_model.specs.declared.Kind.TheVariants.{U8, I32, U32, I64, Packed, Guid, Enum, Bytes}
use Rattle.protocol_model.specs.Bits.{digits, signed_bits, packed_bits, int_bits, fixed_bits}
use Rattle.protocol_model.specs.Reading.{give, signed_of, signed_at, fixed_at, int_at}
use Rattle.protocol_model.specs.Value.{Prop, Class, is_below, is_within, fits, props_of}
use Rattle.protocol_model.specs.Payload.{natural, value_bits, kind_at}
use Rattle.connection_model.specs.PayloadReading.{PayloadReading, natural_at, number_at, value_at}
use Rattle.table_model.specs.Facts.{is_type}
use Rattle.payload_laws.specs.Limits.{HasLimits}
use Rattle.payload_laws.proofs.Fields.{then_read, int_read, packed_read, fixed_read}

-- a value that is a natural number
natural_read : (read : PayloadReading ℕ) (bits : List Bool) (n : ℕ) (rest : List Bool) → read bits ≡ Ok (n, rest) → natural_at read bits ≡ Ok (pos n, rest)
natural_read read bits n rest h = then_read read (λ n. give (pos n)) bits n rest (Ok (pos n, rest)) h refl

-- a value of fixed width
fixed_value : (w : ℕ) (v : ℤ) (rest : List Bool) → is_below (2 ^ w) v ≡ true → natural_at (fixed_at w) (fixed_bits w (natural v) ++ rest) ≡ Ok (v, rest)
fixed_value w (pos n) rest h = natural_read (fixed_at w) (fixed_bits w n ++ rest) n rest (fixed_read w n rest (ltb-true n (2 ^ w) h))
fixed_value w (negsuc n) rest h = absurd (cc)

-- a packed value
packed_value : (v : ℤ) (rest : List Bool) → is_below (2 ^ 32) v ≡ true → natural_at number_at (packed_bits (natural v) ++ rest) ≡ Ok (v, rest)
packed_value (pos n) rest h = natural_read number_at (packed_bits n ++ rest) n rest (packed_read _ n rest (ltb-true n (2 ^ 32) h))
packed_value (negsuc n) rest h = absurd (cc)

-- a value below its bound
int_value : (max : ℕ) (v : ℤ) (rest : List Bool) → max ≤ 2 ^ 32 → is_below max v ≡ true → natural_at (int_at max) (int_bits max (natural v) ++ rest) ≡ Ok (v, rest)
int_value max (pos n) rest m h = natural_read (int_at max) (int_bits max n ++ rest) n rest (int_read max n rest (ltb-true n max h) m)
int_value max (negsuc n) rest m h = absurd (cc)

-- ---- two's complement

other_parity : (m n p : ℕ) → m + n + 1 ≡ 2 * p → not (n % 2 == 1) ≡ (m % 2 == 1)
other_parity m n p h = grind (arith, nat_tests)

half_turned : (m n p : ℕ) → m + n + 1 ≡ 2 * p → m / 2 + n / 2 + 1 ≡ p
half_turned m n p h = omega arith

-- the digits of a number turned round are those of its complement
pub turned : (k m n : ℕ) → m + n + 1 ≡ 2 ^ k → map not (digits k n) ≡ digits k m
unfolding digits
turned zero m n h = refl
turned (suc k) m n h =
    let twice : m + n + 1 ≡ 2 * 2 ^ k = omega (arith, pow-suc 2 k) in
    rw (other_parity m n (2 ^ k) twice, turned k (m / 2) (n / 2) (half_turned m n (2 ^ k) twice)) refl

-- the next power of two is twice as much
pub twice_is : (w : ℕ) → 2 ^ (w + 1) ≡ 2 * 2 ^ w
twice_is w = let e : w + 1 ≡ suc w = omega arith in rw e (omega (arith, pow-suc 2 w))

signed_is : (w n : ℕ) (v : ℤ) (rest : List Bool) → n < 2 ^ (w + 1) → signed_of w n ≡ v → signed_at {Why = Option Cause} w (digits (w + 1) n ++ rest) ≡ Ok (v, rest)
signed_is w n v rest h e = then_read (fixed_at (w + 1)) (λ n. give (signed_of w n)) (digits (w + 1) n ++ rest) n rest (Ok (v, rest)) (fixed_read (w + 1) n rest h) (rw e refl)

-- a signed value
signed_value : (w : ℕ) (v : ℤ) (rest : List Bool) → is_within (2 ^ w) v ≡ true → signed_at {Why = Option Cause} w (signed_bits (w + 1) v ++ rest) ≡ Ok (v, rest)
signed_value w (pos n) rest h =
    let small : n < 2 ^ w = ltb-true n (2 ^ w) h in
    signed_is w n (pos n) rest (omega (arith, small, twice_is w)) (rw (lt-ltb n (2 ^ w) small) refl)
signed_value w (negsuc n) rest h =
    let small : n < 2 ^ w = ltb-true n (2 ^ w) h in
    let twice : 2 ^ (w + 1) ≡ 2 * 2 ^ w = twice_is w in
    let m = 2 ^ (w + 1) - 1 - n in
    let sum : m + n + 1 ≡ 2 ^ (w + 1) = omega (arith, small, twice) in
    let high : 2 ^ w ≤ m = omega (arith, small, twice) in
    let back : 2 ^ (w + 1) - 1 - m ≡ n = omega (arith, small, twice) in
    rw (turned (w + 1) m n sum) (signed_is w m (negsuc n) rest (omega (arith, sum)) (rw (le-ltb m (2 ^ w) high, back) refl))

-- ---- a value of a kind

-- an enum has at most 65,535 values
pub small_count : (argument : Bool) (count : ℕ) → is_type argument (Enum count) ≡ true → count ≤ 65535
small_count argument count h = leb-true count 65535 (and_parts (nat_le 2 count) (nat_le count 65535) h).1

-- a value is read as it was spelled
pub value_read : (argument : Bool) (kind : Kind) (v : ℤ) (rest : List Bool) → is_type argument kind ≡ true → fits kind v ≡ true → value_at kind (value_bits kind v ++ rest) ≡ Ok (v, rest)
value_read argument Kind.Bool v rest k f = fixed_value 1 v rest f
value_read argument U8 v rest k f = fixed_value 8 v rest f
value_read argument I32 v rest k f = signed_value 31 v rest f
value_read argument U32 v rest k f = fixed_value 32 v rest f
value_read argument I64 v rest k f = signed_value 63 v rest f
value_read argument Packed v rest k f = packed_value v rest f
value_read argument Guid v rest k f = packed_value v rest f
value_read argument (Enum count) v rest k f = let small = small_count argument count k in int_value count v rest (omega (arith, small)) f
value_read argument (Bytes most) v rest k f = absurd (cc)

-- ---- the kinds of a class

-- each property has a kind that a table may name
kinds_all : (props : List Prop) (h : ℕ) → list_all (λ (p : Prop). is_type false p.kind) props ≡ true → is_type false (unwrap_or (option_map (λ (p : Prop). p.kind) (slice_get props h)) Kind.Bool) ≡ true
kinds_all [] h k = refl
kinds_all (p ∷ props) zero k = (and_parts _ _ k).0
kinds_all (p ∷ props) (suc h) k = kinds_all props h (and_parts _ _ k).1

-- each handle has a kind that a table may name
pub kind_is : (class : Class) (h : ℕ) → HasLimits class → is_type false (kind_at class h) ≡ true
kind_is class zero limits = refl
kind_is class (suc h) limits = kinds_all (props_of class) h limits.props

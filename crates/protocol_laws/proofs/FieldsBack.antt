-- Numbers and parts in bits, read as a packet's fields read them.
use Rattle.std.proofs.Common.{◌≡◌, ℕ, ◌<◌, ◌≤◌, ◌^◌, List, ◌++◌, Bool, Option, Some, Ok, refl}
use Rattle.protocol_model.specs.Bits.{int_bits, packed_bits, fixed_bits}
use Rattle.protocol_model.specs.Numbers.{leading_int, leading_fixed}
use Rattle.protocol_model.specs.Reading.{Reading, ◌>>=◌, or_short, int_at, packed_at, fixed_at}
use Rattle.protocol_model.specs.declared.Why.{Why}
use Rattle.protocol_laws.proofs.IntLaws.{int-read}
use Rattle.protocol_laws.proofs.PackedLaws.{packed-read}
use Rattle.protocol_laws.proofs.Reading.{leading_fixed-append}

-- what begins the bits is read
pub or_short_some : {A : Type 0} (leading : List Bool → Option (A × List Bool)) (bits : List Bool) (got : A × List Bool) → leading bits ≡ Some got → or_short {Why = Why} leading bits ≡ Ok got
or_short_some {A = A} leading bits got e = rw (e, or_short) refl

-- the second reading goes on where the first ends
pub bind_ok : {A B : Type 0} (read : Reading Why A) (next : A → Reading Why B) (bits : List Bool) (a : A) (rest : List Bool) → read bits ≡ Ok (a, rest) → (read >>= next) bits ≡ next a rest
bind_ok read next bits a rest e = rw (e, ◌>>=◌) refl

pub int_read : (max v : ℕ) (rest : List Bool) → v < max → max ≤ 2 ^ 32 → int_at {Why = Why} max (int_bits max v ++ rest) ≡ Ok (v, rest)
int_read max v rest h k = or_short_some (leading_int max) (int_bits max v ++ rest) (v, rest) (int-read max v rest h k)

pub packed_read : (why : Why) (v : ℕ) (rest : List Bool) → v < 2 ^ 32 → packed_at why (packed_bits v ++ rest) ≡ Ok (v, rest)
packed_read why v rest h = rw (packed-read v rest h, packed_at) refl

pub fixed_read : (w v : ℕ) (rest : List Bool) → v < 2 ^ w → fixed_at {Why = Why} w (fixed_bits w v ++ rest) ≡ Ok (v, rest)
fixed_read w v rest h = or_short_some (leading_fixed w) (fixed_bits w v ++ rest) (v, rest) (leading_fixed-append w v rest h)

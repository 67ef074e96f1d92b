-- Reading bits from left to right, up to the first fault.
use Rattle.std.specs.Prelude.{ℕ, ◌+◌, ◌-◌, ◌^◌, List, [], ◌∷◌, length, Bool, nat_lt, Option, Some, None, Result, Ok, Err, if◌then◌else◌, ℤ, pos, negsuc}
use Rattle.protocol_model.specs.declared.NumRefusal.TheVariants as NumRefusal
use Rattle.protocol_model.specs.Numbers.{leading_bits, leading_fixed, leading_int, leading_packed}

-- bits are missing, or a field breaks a rule, with so many bits left from its first bit on
pub data Fault (Why : Type 0) : Type 0 where
  Short : Fault Why
  Broken : (left : ℕ) (why : Why) → Fault Why

-- the bit of the fault in so many bits: that of the field, or the end where bits are missing
abbrev pub place_of : {Why : Type 0} → ℕ → Fault Why → ℕ
place_of total Short = total
place_of total (Broken left why) = total - left

-- a value and the bits after it
abbrev pub Reading : Type 0 → Type 0 → Type 0
Reading Why A = List Bool → Result (A × List Bool) (Fault Why)

infixl 10 ◌>>=◌
abbrev pub ◌>>=◌ : {Why A B : Type 0} → Reading Why A → (A → Reading Why B) → Reading Why B
(read >>= next) bits = elim (read bits) [ Ok got ↦ next got.0 got.1 | Err fault ↦ Err fault ]

-- nothing is read
abbrev pub give : {Why A : Type 0} → A → Reading Why A
give value bits = Ok (value, bits)

-- nothing is read, and this is at fault
abbrev pub fault : {Why A : Type 0} → Fault Why → Reading Why A
fault why bits = Err why

-- how many bits are left
abbrev pub left : {Why : Type 0} → Reading Why ℕ
left bits = Ok (length bits, bits)

-- a field whose value keeps the rule, or which else is broken at its first bit
abbrev pub must : {Why A : Type 0} → Reading Why A → (A → Bool) → Why → Reading Why A
must read rule why = do
  from ← left
  value ← read
  if rule value then give value else fault (Broken from why)

-- the rule holds, or else it is broken at the bits that are left
abbrev pub need : {Why : Type 0} → Bool → Why → Reading Why ℕ
need rule why = must left (λ n. rule) why

-- what a list of bits begins with, or bits are missing
abbrev pub or_short : {Why A : Type 0} → (List Bool → Option (A × List Bool)) → Reading Why A
or_short leading bits = elim (leading bits) [ Some got ↦ Ok got | None ↦ Err Short ]

-- n bits
abbrev pub bits_at : {Why : Type 0} → ℕ → Reading Why (List Bool)
bits_at n = or_short (leading_bits n)

-- one bit
abbrev pub bit_at : {Why : Type 0} → Reading Why Bool
bit_at [] = Err Short
bit_at (b ∷ bits) = Ok (b, bits)

-- a number of w bits
abbrev pub fixed_at : {Why : Type 0} → ℕ → Reading Why ℕ
fixed_at w = or_short (leading_fixed w)

-- the number of w + 1 bits in two's complement
abbrev pub signed_of : (w n : ℕ) → ℤ
signed_of w n = if nat_lt n (2 ^ w) then pos n else negsuc (2 ^ (w + 1) - 1 - n)

-- a number of w + 1 bits in two's complement
abbrev pub signed_at : {Why : Type 0} → ℕ → Reading Why ℤ
signed_at w = do
  n ← fixed_at (w + 1)
  give (signed_of w n)

-- a number below max
abbrev pub int_at : {Why : Type 0} → ℕ → Reading Why ℕ
int_at max = or_short (leading_int max)

-- a packed number, with what to say of one that is padded
abbrev pub packed_at : {Why : Type 0} → Why → Reading Why ℕ
packed_at why bits = elim (leading_packed bits) [
  | Ok got ↦ Ok got
  | Err NumRefusal.Short ↦ Err Short
  | Err NumRefusal.Padded ↦ Err (Broken (length bits) why)
]

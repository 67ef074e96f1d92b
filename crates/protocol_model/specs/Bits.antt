-- Numbers as lists of bits, the least significant bit first, after Unreal's `SerializeInt` and
-- `SerializeIntPacked`.
use Rattle.std.specs.Prelude.{ℕ, zero, suc, ◌+◌, ◌*◌, ◌/◌, ◌%◌, ◌^◌, ◌==◌, List, [], ◌∷◌, ◌++◌, map, length, take, drop, Bool, true, false, not, nat_lt, nat_le, if◌then◌else◌, ℤ, pos, negsuc, ◌+ℤ◌, ◌-ℤ◌}
use Rattle.std.specs.List.{flat_map}
use Rattle.std.specs.Int.{int_rem_euclid}
use Rattle.protocol_model.specs.Search.{least_from}

-- the k lowest binary digits of a number, lowest first
unfoldable pub digits : ℕ → ℕ → List Bool
digits zero n = []
digits (suc k) n = (n % 2 == 1) ∷ digits k (n / 2)

-- the number that these are the digits of
abbrev pub number_of : List Bool → ℕ
number_of [] = 0
number_of (b ∷ bits) = (if b then 1 else 0) + 2 * number_of bits

-- bit i of a list of bytes is bit i % 8 of byte i / 8
abbrev pub bits_of : List ℕ → List Bool
bits_of bytes = flat_map (λ byte. digits 8 byte) bytes

-- the bits in so many bytes, with 0 bits behind them
unfoldable pub bytes_in : ℕ → List Bool → List ℕ
bytes_in zero bits = []
bytes_in (suc n) bits = number_of (take 8 bits) ∷ bytes_in n (drop 8 bits)

-- the bits, then 0 bits to the byte's end
abbrev pub bytes_of : List Bool → List ℕ
bytes_of bits = bytes_in ((length bits + 7) / 8) bits

-- the least i with (v mod 2 ^ i) + 2 ^ i >= max, for v below max and a max up to 2 ^ 32
unfoldable pub int_width : (max v : ℕ) → ℕ
int_width max v = least_from (λ i. nat_le max (v % 2 ^ i + 2 ^ i)) 32 0

-- v below max, in no more bits than tell it apart
abbrev pub int_bits : (max v : ℕ) → List Bool
int_bits max v = digits (int_width max v) v

-- base-128 digits, lowest first, each behind its "more follows" bit, with no needless last one
unfoldable pub packed_in : (groups v : ℕ) → List Bool
packed_in zero v = []
packed_in (suc groups) v =
    if nat_lt v 128 then false ∷ digits 7 v else true ∷ (digits 7 v ++ packed_in groups (v / 128))

-- v below 2 ^ 32
abbrev pub packed_bits : ℕ → List Bool
packed_bits v = packed_in 5 v

-- w binary digits, lowest first
abbrev pub fixed_bits : (w v : ℕ) → List Bool
fixed_bits w v = digits w v

-- two's complement: -n - 1 has the digits of n, each turned round
abbrev pub signed_bits : (w : ℕ) → ℤ → List Bool
signed_bits w (pos n) = digits w n
signed_bits w (negsuc n) = map not (digits w n)

-- the number nearest to the reference that is v modulo max: ref + ((v - ref + max/2) mod max) - max/2
abbrev pub near : (v : ℕ) (ref : ℤ) (max : ℕ) → ℤ
near v ref max = ref +ℤ int_rem_euclid (pos v -ℤ ref +ℤ pos (max / 2)) (pos max) -ℤ pos (max / 2)

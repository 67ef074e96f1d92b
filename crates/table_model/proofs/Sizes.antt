-- How many bits the arguments of a call take at most.
use Rattle.std.proofs.Common.{◌≡◌, ℕ, zero, suc, ◌+◌, ◌*◌, ◌/◌, ◌%◌, ◌^◌, ◌≤◌, ℤ, pos, negsuc, List, [], ◌∷◌, ◌++◌, map, length, Bool, true, false, not, nat_le, nat_lt, cond, refl, ap, ◌∙◌, length-append, le_refl, arith}
use Rattle.std.proofs.lemmas.Bool.{and_parts, leb-true, le-leb}
use Rattle.std.proofs.lemmas.List.Sums.{sum_by-cons}
use Rattle.std.proofs.Math.Nat.{zero-mod}
use Rattle.protocol_model.specs.declared.Kind.{Kind}
use Rattle.protocol_model.specs.Bits.{digits, int_width, packed_in, packed_bits, signed_bits}
use Rattle.protocol_model.specs.Search.{least_from}
use Rattle.protocol_model.specs.Value.{Arg, Scalar, Octets, Call, are_octets, arg_fits, args_fit}
use Rattle.protocol_model.specs.Payload.{natural, value_bits, octets_bits, arg_bits, args_bits}
use Rattle.table_model.specs.Rules.{most_bits, largest_args, args_limit}
use Rattle.table_model.specs.Facts.{is_call}

-- ---- numbers

-- so many digits
length_digits : (width value : ℕ) → length (digits width value) ≡ width
unfolding digits
length_digits zero value = refl
length_digits (suc width) value = ap (λ m. suc m) (length_digits width (value / 2))

length_turned : (bits : List Bool) → length (map not bits) ≡ length bits
length_turned [] = refl
length_turned (bit ∷ bits) = ap (λ m. suc m) (length_turned bits)

length_signed : (width : ℕ) (z : ℤ) → length (signed_bits width z) ≡ width
length_signed width (pos n) = length_digits width n
length_signed width (negsuc n) = length_turned (digits width n) ∙ length_digits width n

-- a group of a packed number has eight bits
length_packed_in : (groups v : ℕ) → length (packed_in groups v) ≤ 8 * groups
unfolding packed_in
length_packed_in zero v = omega arith
length_packed_in (suc groups) v = by_test (nat_lt v 128) (length_packed_in groups (v / 128))
  where
    by_test : (b : Bool) → length (packed_in groups (v / 128)) ≤ 8 * groups
        → length (cond b (false ∷ digits 7 v) (true ∷ (digits 7 v ++ packed_in groups (v / 128)))) ≤ 8 * suc groups
    by_test true h = omega (arith, length_digits 7 v)
    by_test false h = omega (arith, h, length_digits 7 v, length-append (digits 7 v) (packed_in groups (v / 128)))

-- a packed number has at most 40 bits
pub length_packed : (v : ℕ) → length (packed_bits v) ≤ 40
length_packed v = length_packed_in 5 v

-- a search goes on at least from where it starts
least_after : (test : ℕ → Bool) (many k : ℕ) → k ≤ least_from test many k
least_after test zero k = le_refl k
least_after test (suc many) k = by_test (test k) (least_after test many (k + 1))
  where
    by_test : (b : Bool) → k + 1 ≤ least_from test many (k + 1) → k ≤ cond b k (least_from test many (k + 1))
    by_test true h = omega arith
    by_test false h = omega arith

-- a test that passes wherever another does passes no later
least_earlier : (p q : ℕ → Bool) → ((i : ℕ) → p i ≡ true → q i ≡ true) → (many k : ℕ)
    → least_from q many k ≤ least_from p many k
least_earlier p q h zero k = le_refl k
least_earlier p q h (suc many) k = by_tests (p k) (q k) (h k) (least_earlier p q h many (k + 1))
  where
    by_tests : (b c : Bool) → (b ≡ true → c ≡ true) → least_from q many (k + 1) ≤ least_from p many (k + 1)
        → cond c k (least_from q many (k + 1)) ≤ cond b k (least_from p many (k + 1))
    by_tests true true e l = le_refl k
    by_tests true false e l = let f = e refl in absurd (cc)
    by_tests false true e l = let a = least_after p many (k + 1) in omega (arith, a)
    by_tests false false e l = l

width_passes : (max v i : ℕ) → nat_le max (0 % 2 ^ i + 2 ^ i) ≡ true → nat_le max (v % 2 ^ i + 2 ^ i) ≡ true
width_passes max v i h =
    let l = leb-true max (0 % 2 ^ i + 2 ^ i) h in
    le-leb max (v % 2 ^ i + 2 ^ i) (omega (arith, l, zero-mod (2 ^ i)))

-- no number below a bound is wider than 0
pub width_most : (max v : ℕ) → int_width max v ≤ int_width max 0
unfolding int_width
width_most max v =
    least_earlier (λ i. nat_le max (0 % 2 ^ i + 2 ^ i)) (λ i. nat_le max (v % 2 ^ i + 2 ^ i)) (width_passes max v) 32 0

-- bytes have eight bits each
length_octets : (bytes : List ℕ) → length (octets_bits bytes) ≡ 8 * length bytes
length_octets [] = omega arith
length_octets (b ∷ bytes) =
    omega (arith, length-append (digits 8 b) (octets_bits bytes), length_digits 8 b, length_octets bytes)

-- ---- arguments

scalar_most : (kind : Kind) (v : ℤ) → length (value_bits kind v) ≤ most_bits kind
scalar_most Kind.Bool v = omega (arith, length_digits 1 (natural v))
scalar_most Kind.U8 v = omega (arith, length_digits 8 (natural v))
scalar_most Kind.I32 v = omega (arith, length_signed 32 v)
scalar_most Kind.U32 v = omega (arith, length_digits 32 (natural v))
scalar_most Kind.I64 v = omega (arith, length_signed 64 v)
scalar_most Kind.Packed v = length_packed (natural v)
scalar_most Kind.Guid v = length_packed (natural v)
scalar_most (Kind.Enum count) v =
    omega (arith, length_digits (int_width count (natural v)) (natural v), width_most count (natural v))
scalar_most (Kind.Bytes most) v = omega arith

bytes_most : (most : ℕ) (bytes : List ℕ) → are_octets most bytes ≡ true
    → length (arg_bits (Kind.Bytes most) (Octets bytes)) ≤ most_bits (Kind.Bytes most)
bytes_most most bytes h =
    let few = leb-true (length bytes) most (and_parts (nat_le (length bytes) most) _ h).0 in
    let width = int_width (most + 1) (length bytes) in
    omega (
      arith,
      few,
      length-append (digits width (length bytes)) (octets_bits bytes),
      length_digits width (length bytes),
      length_octets bytes,
      width_most (most + 1) (length bytes),
    )

-- an argument of a kind takes no more bits than the kind's longest
pub arg_most : (kind : Kind) (arg : Arg) → arg_fits kind arg ≡ true → length (arg_bits kind arg) ≤ most_bits kind
arg_most kind (Scalar v) h = scalar_most kind v
arg_most (Kind.Bytes most) (Octets bytes) h = bytes_most most bytes h
arg_most kind (Octets bytes) h = absurd (cc)

-- arguments take no more bits than the largest ones
pub args_most : (kinds : List Kind) (args : List Arg) → args_fit kinds args ≡ true
    → length (args_bits kinds args) ≤ largest_args kinds
args_most [] args h = omega arith
args_most (k ∷ kinds) [] h = absurd (cc)
args_most (k ∷ kinds) (a ∷ args) h =
    let p = and_parts (arg_fits k a) (args_fit kinds args) h in
    omega (
      arith,
      arg_most k a p.0,
      args_most kinds args p.1,
      length-append (arg_bits k a) (args_bits kinds args),
      sum_by-cons (λ x. x) (most_bits k) (map most_bits kinds),
    )

-- and so a call's take no more than its limit
pub call_most : (c : Call) (args : List Arg) → is_call c ≡ true → args_fit c.args args ≡ true
    → length (args_bits c.args args) ≤ args_limit c.reliable
call_most c args h fit =
    let p = and_parts _ (nat_le (largest_args c.args) (args_limit c.reliable)) h in
    let limit = leb-true (largest_args c.args) (args_limit c.reliable) p.1 in
    omega (arith, limit, args_most c.args args fit)

-- Arguments are read as they were spelled.
use Rattle.std.proofs.Common.{◌≡◌, ℕ, ℤ, suc, ◌≤◌, ◌+◌, List, [], ◌∷◌, ◌++◌, Bool, true, nat_lt, nat_le, Ok, refl, ap, ◌∙◌, arith, append_assoc, length}
use Rattle.std.specs.List.{list_all}
use Rattle.std.proofs.lemmas.Bool.{and_parts, ltb-true, leb-true}
use Rattle.protocol_model.specs.declared.Kind.{Kind}
use Rattle.protocol_model.specs.declared.Kind.TheVariants.{U8, I32, U32, I64, Packed, Guid, Enum, Bytes}
use Rattle.protocol_model.specs.Bits.{int_bits, fixed_bits}
use Rattle.protocol_model.specs.Reading.{◌>>=◌, give, fixed_at, int_at}
use Rattle.protocol_model.specs.Value.{Arg, Scalar, Octets, fits, are_octets, arg_fits, args_fit}
use Rattle.protocol_model.specs.Payload.{value_bits, octets_bits, arg_bits, args_bits}
use Rattle.connection_model.specs.PayloadReading.{PayloadReading, value_at, octets_at, octets_arg_at, scalar_at, arg_at, args_at}
use Rattle.table_model.specs.Facts.{is_type}
use Rattle.payload_laws.proofs.Fields.{then_read, int_read, fixed_read}
use Rattle.payload_laws.proofs.Values.{value_read}

-- so many bytes
pub octets_read : (bytes : List ℕ) (rest : List Bool) → list_all (λ b. nat_lt b 256) bytes ≡ true → octets_at (length bytes) (octets_bits bytes ++ rest) ≡ Ok (bytes, rest)
octets_read [] rest h = refl
octets_read (b ∷ bytes) rest h =
    let back : List Bool = octets_bits bytes ++ rest in
    let with_bytes : ℕ → PayloadReading (List ℕ) = λ (byte : ℕ). (octets_at (length bytes) >>= (λ bytes. give (byte ∷ bytes))) in
    ap (octets_at (suc (length bytes))) (append_assoc (fixed_bits 8 b) (octets_bits bytes) rest)
    ∙ then_read (fixed_at 8) with_bytes (fixed_bits 8 b ++ back) b back (Ok (b ∷ bytes, rest)) (fixed_read 8 b back (ltb-true b 256 (and_parts _ _ h).0))
    (then_read (octets_at (length bytes)) (λ bytes. give (b ∷ bytes)) back bytes rest (Ok (b ∷ bytes, rest)) (octets_read bytes rest (and_parts _ _ h).1) refl)

-- bytes of an argument are at most 2,048
small_most : (most : ℕ) → is_type true (Bytes most) ≡ true → most ≤ 2048
small_most most h = leb-true most 2048 (and_parts (nat_le 1 most) (nat_le most 2048) h).1

-- an argument of bytes
octets_arg_read : (most : ℕ) (bytes : List ℕ) (rest : List Bool) → most ≤ 2048 → are_octets most bytes ≡ true → octets_arg_at most (int_bits (most + 1) (length bytes) ++ octets_bits bytes ++ rest) ≡ Ok (Octets bytes, rest)
octets_arg_read most bytes rest m h =
    let few : length bytes ≤ most = leb-true (length bytes) most (and_parts _ _ h).0 in
    let back : List Bool = octets_bits bytes ++ rest in
    let with_bytes : ℕ → PayloadReading Arg = λ (n : ℕ). (octets_at n >>= (λ bytes. give (Octets bytes))) in
    ap (octets_arg_at most) (append_assoc (int_bits (most + 1) (length bytes)) (octets_bits bytes) rest)
    ∙ then_read (int_at (most + 1)) with_bytes (int_bits (most + 1) (length bytes) ++ back) (length bytes) back (Ok (Octets bytes, rest)) (int_read (most + 1) (length bytes) back (omega (arith, few)) (omega (arith, m)))
    (then_read (octets_at (length bytes)) (λ bytes. give (Octets bytes)) back bytes rest (Ok (Octets bytes, rest)) (octets_read bytes rest (and_parts _ _ h).1) refl)

-- any other argument
scalar_read : (kind : Kind) (v : ℤ) (rest : List Bool) → is_type true kind ≡ true → fits kind v ≡ true → scalar_at kind (value_bits kind v ++ rest) ≡ Ok (Scalar v, rest)
scalar_read kind v rest k f = then_read (value_at kind) (λ v. give (Scalar v)) (value_bits kind v ++ rest) v rest (Ok (Scalar v, rest)) (value_read true kind v rest k f) refl

-- an argument by its kind
arg_read : (kind : Kind) (a : Arg) (rest : List Bool) → is_type true kind ≡ true → arg_fits kind a ≡ true → arg_at kind (arg_bits kind a ++ rest) ≡ Ok (a, rest)
arg_read (Bytes most) (Octets bytes) rest k f = octets_arg_read most bytes rest (small_most most k) f
arg_read (Bytes most) (Scalar v) rest k f = absurd (cc)
arg_read Kind.Bool (Octets bytes) rest k f = absurd (cc)
arg_read U8 (Octets bytes) rest k f = absurd (cc)
arg_read I32 (Octets bytes) rest k f = absurd (cc)
arg_read U32 (Octets bytes) rest k f = absurd (cc)
arg_read I64 (Octets bytes) rest k f = absurd (cc)
arg_read Packed (Octets bytes) rest k f = absurd (cc)
arg_read Guid (Octets bytes) rest k f = absurd (cc)
arg_read (Enum count) (Octets bytes) rest k f = absurd (cc)
arg_read Kind.Bool (Scalar v) rest k f = scalar_read Kind.Bool v rest k f
arg_read U8 (Scalar v) rest k f = scalar_read U8 v rest k f
arg_read I32 (Scalar v) rest k f = scalar_read I32 v rest k f
arg_read U32 (Scalar v) rest k f = scalar_read U32 v rest k f
arg_read I64 (Scalar v) rest k f = scalar_read I64 v rest k f
arg_read Packed (Scalar v) rest k f = scalar_read Packed v rest k f
arg_read Guid (Scalar v) rest k f = scalar_read Guid v rest k f
arg_read (Enum count) (Scalar v) rest k f = scalar_read (Enum count) v rest k f

-- the arguments of a call
pub args_read : (kinds : List Kind) (args : List Arg) (rest : List Bool) → list_all (is_type true) kinds ≡ true → args_fit kinds args ≡ true → args_at kinds (args_bits kinds args ++ rest) ≡ Ok (args, rest)
args_read [] [] rest k f = refl
args_read [] (a ∷ args) rest k f = absurd (cc)
args_read (kind ∷ kinds) [] rest k f = absurd (cc)
args_read (kind ∷ kinds) (a ∷ args) rest k f =
    let back : List Bool = args_bits kinds args ++ rest in
    let with_args : Arg → PayloadReading (List Arg) = λ (a : Arg). (args_at kinds >>= (λ args. give (a ∷ args))) in
    ap (args_at (kind ∷ kinds)) (append_assoc (arg_bits kind a) (args_bits kinds args) rest)
    ∙ then_read (arg_at kind) with_args (arg_bits kind a ++ back) a back (Ok (a ∷ args, rest)) (arg_read kind a back (and_parts _ _ k).0 (and_parts _ _ f).0)
    (then_read (args_at kinds) (λ args. give (a ∷ args)) back args rest (Ok (a ∷ args, rest)) (args_read kinds args rest (and_parts _ _ k).1 (and_parts _ _ f).1) refl)

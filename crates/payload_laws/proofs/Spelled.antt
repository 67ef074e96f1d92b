-- Only a field that was spelled is read.
use Rattle.std.proofs.Common.{◌≡◌, ℕ, ℤ, pos, ◌<◌, ◌≤◌, ◌+◌, ◌-◌, ◌^◌, List, ◌++◌, Bool, true, false, cond, nat_lt, nat_le, length, Option, Some, None, Result, Ok, Err, refl, sym, ap, ◌∙◌, subst, arith}
use Rattle.std.proofs.lemmas.Bool.Decides.{nat_tests}
use Rattle.std.proofs.lemmas.Bool.{and_parts, lt-ltb, leb-true}
use Rattle.protocol_model.specs.declared.Kind.{Kind}
use Rattle.protocol_model.specs.declared.Kind.TheVariants.{U8, I32, U32, I64, Packed, Guid, Enum, Bytes}
use Rattle.protocol_model.specs.declared.NumRefusal.{NumRefusal}
use Rattle.protocol_model.specs.declared.Cause.{Cause}
use Rattle.protocol_model.specs.Bits.{digits, int_bits, packed_bits, fixed_bits, signed_bits}
use Rattle.protocol_model.specs.Numbers.{leading_int, leading_fixed, leading_packed}
use Rattle.protocol_model.specs.Reading.{Fault, Broken, Reading, ◌>>=◌, give, fault, left, must, need, or_short, signed_of, signed_at, int_at, packed_at, fixed_at}
use Rattle.protocol_model.specs.Value.{is_below, is_within, fits}
use Rattle.protocol_model.specs.Payload.{natural, value_bits}
use Rattle.connection_model.specs.PayloadReading.{PayloadReading, natural_at, number_at, value_at}
use Rattle.table_model.specs.Facts.{is_type}
use Rattle.protocol_laws.proofs.IntLaws.{int-spelled}
use Rattle.protocol_laws.proofs.PackedLaws.{packed-spelled}
use Rattle.protocol_laws.proofs.Reading.{leading_fixed-spelled}
use Rattle.payload_laws.proofs.Fields.{Answer}
use Rattle.payload_laws.proofs.Values.{turned, twice_is, small_count}

-- equal answers have equal parts
pub ok_same : {Why B : Type 0} (a b : B × List Bool) → ◌≡◌ {A = Answer Why B} (Ok a) (Ok b) → a ≡ b
ok_same a b e = cc

-- equal answers have equal parts
pub ok_parts : {Why A : Type 0} (a c : A) (b d : List Bool) → ◌≡◌ {A = Answer Why A} (Ok (a, b)) (Ok (c, d)) → (a ≡ c) × (b ≡ d)
ok_parts {A = A} a c b d e = let p : ◌≡◌ {A = A × List Bool} (a, b) (c, d) = cc in (ap (λ (q : A × List Bool). q.0) p, ap (λ (q : A × List Bool). q.1) p)

-- a value is read, and then the next reading goes well
pub record Then {Why A B : Type 0} (read : Reading Why A) (next : A → Reading Why B) (bits : List Bool) (r : B × List Bool) : Type 0 where
  pub value : A
  pub rest : List Bool
  pub first : read bits ≡ Ok (value, rest)
  pub second : next value rest ≡ Ok r

then_where : {Why A B : Type 0} (read : Reading Why A) (next : A → Reading Why B) (bits : List Bool) (r : B × List Bool) (o : Answer Why A) → read bits ≡ o → (read >>= next) bits ≡ Ok r → Then read next bits r
then_where read next bits r (Err fault) e h = let none : Err fault ≡ Ok r = rw (◌>>=◌, e) at h in absurd (cc)
then_where read next bits r (Ok got) e h = record { value = got.0; rest = got.1; first = e; second = rw (◌>>=◌, e) at h }

-- the second reading goes well only where the first did
pub then_of : {Why A B : Type 0} (read : Reading Why A) (next : A → Reading Why B) (bits : List Bool) (r : B × List Bool) → (read >>= next) bits ≡ Ok r → Then read next bits r
then_of read next bits r h = then_where read next bits r (read bits) refl h

or_short_where : {Why A : Type 0} (leading : List Bool → Option (A × List Bool)) (bits : List Bool) (got : A × List Bool) (o : Option (A × List Bool)) → leading bits ≡ o → or_short {Why = Why} leading bits ≡ Ok got → leading bits ≡ Some got
or_short_where {Why = Why} {A = A} leading bits got None e h = let none : ◌≡◌ {A = Answer Why A} (Err Fault.Short) (Ok got) = rw (or_short, e) at h in absurd (cc)
or_short_where {Why = Why} {A = A} leading bits got (Some it) e h = let some : ◌≡◌ {A = Answer Why A} (Ok it) (Ok got) = rw (or_short, e) at h in cc

or_short_of : {Why A : Type 0} (leading : List Bool → Option (A × List Bool)) (bits : List Bool) (got : A × List Bool) → or_short {Why = Why} leading bits ≡ Ok got → leading bits ≡ Some got
or_short_of {Why = Why} leading bits got h = or_short_where {Why = Why} leading bits got (leading bits) refl h

-- a number below its bound was spelled so
pub int_spelled : {Why : Type 0} (max v : ℕ) (bits rest : List Bool) → 1 ≤ max → max ≤ 2 ^ 32 → int_at {Why = Why} max bits ≡ Ok (v, rest) → (v < max) × (bits ≡ int_bits max v ++ rest)
int_spelled {Why = Why} max v bits rest h k e = int-spelled max v bits rest h k (or_short_of {Why = Why} (leading_int max) bits (v, rest) e)

-- a number of fixed width was spelled so
pub fixed_spelled : {Why : Type 0} (w v : ℕ) (bits rest : List Bool) → fixed_at {Why = Why} w bits ≡ Ok (v, rest) → (v < 2 ^ w) × (bits ≡ fixed_bits w v ++ rest)
fixed_spelled {Why = Why} w v bits rest e = leading_fixed-spelled w v bits rest (or_short_of {Why = Why} (leading_fixed w) bits (v, rest) e)

packed_where : {Why : Type 0} (why : Why) (v : ℕ) (bits rest : List Bool) (o : Result (ℕ × List Bool) NumRefusal) → leading_packed bits ≡ o → packed_at why bits ≡ Ok (v, rest) → leading_packed bits ≡ Ok (v, rest)
packed_where {Why = Why} why v bits rest (Ok got) e h = let some : ◌≡◌ {A = Answer Why ℕ} (Ok got) (Ok (v, rest)) = rw (packed_at, e) at h in cc
packed_where {Why = Why} why v bits rest (Err NumRefusal.Short) e h = let none : ◌≡◌ {A = Answer Why ℕ} (Err Fault.Short) (Ok (v, rest)) = rw (packed_at, e) at h in absurd (cc)
packed_where {Why = Why} why v bits rest (Err NumRefusal.Padded) e h = let none : ◌≡◌ {A = Answer Why ℕ} (Err (Broken (length bits) why)) (Ok (v, rest)) = rw (packed_at, e) at h in absurd (cc)

-- a packed number was spelled so
pub packed_spelled : {Why : Type 0} (why : Why) (v : ℕ) (bits rest : List Bool) → packed_at why bits ≡ Ok (v, rest) → (v < 2 ^ 32) × (bits ≡ packed_bits v ++ rest)
packed_spelled why v bits rest h = packed-spelled v bits rest (packed_where why v bits rest (leading_packed bits) refl h)

-- a rule that is kept
kept_where : {Why A : Type 0} (b : Bool) (from : ℕ) (why : Why) (value : A) (bits : List Bool) (got : A × List Bool) → cond b (give value) (fault (Broken from why)) bits ≡ Ok got → (b ≡ true) × ◌≡◌ {A = Answer Why A} (Ok (value, bits)) (Ok got)
kept_where true from why value bits got h = (refl, h)
kept_where false from why value bits got h = absurd (cc)

-- a field of which the rule holds
pub must_of : {Why A : Type 0} (read : Reading Why A) (rule : A → Bool) (why : Why) (bits : List Bool) (value : A) (rest : List Bool) → must read rule why bits ≡ Ok (value, rest) → (rule value ≡ true) × (read bits ≡ Ok (value, rest))
must_of read rule why bits value rest h =
    let next = then_of read (λ it. cond (rule it) (give it) (fault (Broken (length bits) why))) bits (value, rest) h in
    let kept = kept_where (rule next.value) (length bits) why next.value next.rest (value, rest) next.second in
    let same = ok_parts next.value value next.rest rest kept.1 in
    (rw (← same.0) kept.0, next.first ∙ kept.1)

-- a rule that holds takes no bits
pub need_of : {Why : Type 0} (rule : Bool) (why : Why) (bits : List Bool) (n : ℕ) (rest : List Bool) → need rule why bits ≡ Ok (n, rest) → (rule ≡ true) × (bits ≡ rest)
need_of rule why bits n rest h =
    let kept = must_of left (λ n. rule) why bits n rest h in
    (kept.0, (ok_parts (length bits) n bits rest kept.1).1)

-- ---- values

-- what is read as a whole number was read as a natural one
natural_of : (read : PayloadReading ℕ) (bits : List Bool) (v : ℤ) (rest : List Bool) → natural_at read bits ≡ Ok (v, rest) → (n : ℕ) × (read bits ≡ Ok (n, rest)) × (pos n ≡ v)
natural_of read bits v rest h =
    let a = then_of read (λ n. give (pos n)) bits (v, rest) h in
    let same = ok_parts (pos a.value) v a.rest rest a.second in
    (a.value, a.first ∙ ap (λ (xs : List Bool). Ok (a.value, xs)) same.1, same.0)

-- a value of fixed width was spelled so
fixed_was : (w : ℕ) (v : ℤ) (bits rest : List Bool) → natural_at (fixed_at w) bits ≡ Ok (v, rest) → (is_below (2 ^ w) v ≡ true) × (bits ≡ fixed_bits w (natural v) ++ rest)
fixed_was w v bits rest h =
    let n = natural_of (fixed_at w) bits v rest h in
    let s = fixed_spelled w n.0 bits rest n.1 in
    subst (λ (z : ℤ). (is_below (2 ^ w) z ≡ true) × (bits ≡ fixed_bits w (natural z) ++ rest)) n.2 (lt-ltb n.0 (2 ^ w) s.0, s.1)

-- a value below its bound was spelled so
int_was : (max : ℕ) (v : ℤ) (bits rest : List Bool) → 1 ≤ max → max ≤ 2 ^ 32 → natural_at (int_at max) bits ≡ Ok (v, rest) → (is_below max v ≡ true) × (bits ≡ int_bits max (natural v) ++ rest)
int_was max v bits rest l m h =
    let n = natural_of (int_at max) bits v rest h in
    let s = int_spelled max n.0 bits rest l m n.1 in
    subst (λ (z : ℤ). (is_below max z ≡ true) × (bits ≡ int_bits max (natural z) ++ rest)) n.2 (lt-ltb n.0 max s.0, s.1)

-- a packed value was spelled so
packed_was : (v : ℤ) (bits rest : List Bool) → natural_at number_at bits ≡ Ok (v, rest) → (is_below (2 ^ 32) v ≡ true) × (bits ≡ packed_bits (natural v) ++ rest)
packed_was v bits rest h =
    let n = natural_of number_at bits v rest h in
    let s = packed_spelled None n.0 bits rest n.1 in
    subst (λ (z : ℤ). (is_below (2 ^ 32) z ≡ true) × (bits ≡ packed_bits (natural z) ++ rest)) n.2 (lt-ltb n.0 (2 ^ 32) s.0, s.1)

signed_by : (w n : ℕ) (b : Bool) → nat_lt n (2 ^ w) ≡ b → n < 2 ^ (w + 1) → (is_within (2 ^ w) (signed_of w n) ≡ true) × (digits (w + 1) n ≡ signed_bits (w + 1) (signed_of w n))
signed_by w n true e h = rw (e, signed_of) (e, refl)
signed_by w n false e h =
    let twice = twice_is w in
    let high : 2 ^ w ≤ n = grind (arith, nat_tests) in
    let m = 2 ^ (w + 1) - 1 - n in
    let sum : n + m + 1 ≡ 2 ^ (w + 1) = omega (arith, h) in
    let small : m < 2 ^ w = omega (arith, h, twice, high) in
    rw (e, signed_of) (lt-ltb m (2 ^ w) small, sym (turned (w + 1) n m sum))

-- a signed value was spelled so
signed_was : (w : ℕ) (v : ℤ) (bits rest : List Bool) → signed_at {Why = Option Cause} w bits ≡ Ok (v, rest) → (is_within (2 ^ w) v ≡ true) × (bits ≡ signed_bits (w + 1) v ++ rest)
signed_was w v bits rest h =
    let a = then_of (fixed_at (w + 1)) (λ n. give (signed_of w n)) bits (v, rest) h in
    let same = ok_parts (signed_of w a.value) v a.rest rest a.second in
    let s = fixed_spelled (w + 1) a.value bits a.rest a.first in
    let of = signed_by w a.value (nat_lt a.value (2 ^ w)) refl s.0 in
    subst (λ (z : ℤ). (is_within (2 ^ w) z ≡ true) × (bits ≡ signed_bits (w + 1) z ++ rest)) same.0
    (of.0, s.1 ∙ ap (λ (xs : List Bool). xs ++ a.rest) of.1 ∙ ap (λ (xs : List Bool). signed_bits (w + 1) (signed_of w a.value) ++ xs) same.1)

-- only a value of a kind that a property may have, that was spelled, is read
pub value_spelled : (kind : Kind) (v : ℤ) (bits rest : List Bool) → is_type false kind ≡ true → value_at kind bits ≡ Ok (v, rest) → (fits kind v ≡ true) × (bits ≡ value_bits kind v ++ rest)
value_spelled Kind.Bool v bits rest k h = fixed_was 1 v bits rest h
value_spelled U8 v bits rest k h = fixed_was 8 v bits rest h
value_spelled I32 v bits rest k h = signed_was 31 v bits rest h
value_spelled U32 v bits rest k h = fixed_was 32 v bits rest h
value_spelled I64 v bits rest k h = signed_was 63 v bits rest h
value_spelled Packed v bits rest k h = packed_was v bits rest h
value_spelled Guid v bits rest k h = packed_was v bits rest h
value_spelled (Enum count) v bits rest k h =
    let small = small_count false count k in
    let some = leb-true 2 count (and_parts (nat_le 2 count) (nat_le count 65535) k).0 in
    int_was count v bits rest (omega (arith, some)) (omega (arith, small)) h
value_spelled (Bytes most) v bits rest k h = absurd (cc)

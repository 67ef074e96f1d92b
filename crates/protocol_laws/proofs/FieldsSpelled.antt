-- Only a field that was spelled is read.
use Rattle.std.proofs.Common.{◌≡◌, ℕ, ◌<◌, ◌≤◌, ◌^◌, ◌==◌, List, ◌++◌, Bool, true, false, ◌||◌, cond, nat_lt, Option, Some, None, Result, Ok, Err, refl, sym, ap, ◌∙◌, arith, length, take, drop}
use Rattle.std.proofs.lemmas.Bool.Decides.{nat_tests}
use Rattle.std.proofs.lemmas.List.{take-append-drop, length-take-le}
use Rattle.std.proofs.lemmas.Bool.{ltb-true}
use Rattle.protocol_model.specs.Bits.{int_bits, fixed_bits}
use Rattle.protocol_model.specs.Numbers.{leading_bits, leading_fixed, leading_int, leading_packed}
use Rattle.protocol_model.specs.Reading.{Fault, Broken, Reading, ◌>>=◌, or_short, give, must, bits_at, int_at, fixed_at, packed_at, fault}
use Rattle.protocol_model.specs.declared.NumRefusal.{NumRefusal}
use Rattle.protocol_model.specs.Packet.{channel_bits, channel_limit, field_if}
use Rattle.protocol_model.specs.PacketReading.{read_if, channel_at}
use Rattle.protocol_model.specs.declared.Version.{Version}
use Rattle.protocol_model.specs.declared.Version.TheVariants.{One, Two}
use Rattle.protocol_model.specs.declared.Why.{Why}
use Rattle.protocol_model.specs.declared.Why.TheVariants.{Padded, Wide, BadKind}
use Rattle.protocol_laws.proofs.IntLaws.{int-spelled}
use Rattle.protocol_laws.proofs.PackedLaws.{packed-spelled}
use Rattle.protocol_laws.proofs.Reading.{leading_fixed-spelled}
use Rattle.protocol_laws.specs.Fields.{kind_at}

-- what a reading answers where it goes well
abbrev pub Reads : Type 0 → Type 0
Reads A = Result (A × List Bool) (Fault Why)

-- equal answers have equal values and rests
pub ok_parts : {A : Type 0} (a c : A) (b d : List Bool) → ◌≡◌ {A = Reads A} (Ok (a, b)) (Ok (c, d)) → (a ≡ c) × (b ≡ d)
ok_parts {A = A} a c b d e = let p : ◌≡◌ {A = A × List Bool} (a, b) (c, d) = cc in (ap (λ (q : A × List Bool). q.0) p, ap (λ (q : A × List Bool). q.1) p)

-- equal answers have equal parts
pub ok_same : {B : Type 0} (a b : B × List Bool) → ◌≡◌ {A = Reads B} (Ok a) (Ok b) → a ≡ b
ok_same a b e = cc

some_parts : {A : Type 0} (a c : A) (b d : List Bool) → ◌≡◌ {A = Option (A × List Bool)} (Some (a, b)) (Some (c, d)) → (a ≡ c) × (b ≡ d)
some_parts {A = A} a c b d e = let p : ◌≡◌ {A = A × List Bool} (a, b) (c, d) = cc in (ap (λ (q : A × List Bool). q.0) p, ap (λ (q : A × List Bool). q.1) p)

-- a value is read, and then the next reading goes well
pub record Then {A B : Type 0} (read : Reading Why A) (next : A → Reading Why B) (bits : List Bool) (r : B × List Bool) : Type 0 where
  pub value : A
  pub rest : List Bool
  pub first : read bits ≡ Ok (value, rest)
  pub second : next value rest ≡ Ok r

then_where : {A B : Type 0} (read : Reading Why A) (next : A → Reading Why B) (bits : List Bool) (r : B × List Bool) (o : Reads A) → read bits ≡ o → (read >>= next) bits ≡ Ok r → Then read next bits r
then_where read next bits r (Err fault) e h = let none : Err fault ≡ Ok r = rw (◌>>=◌, e) at h in absurd (cc)
then_where read next bits r (Ok got) e h = record { value = got.0; rest = got.1; first = e; second = rw (◌>>=◌, e) at h }

-- the second reading goes well only where the first did
pub then_of : {A B : Type 0} (read : Reading Why A) (next : A → Reading Why B) (bits : List Bool) (r : B × List Bool) → (read >>= next) bits ≡ Ok r → Then read next bits r
then_of read next bits r h = then_where read next bits r (read bits) refl h

or_short_where : {A : Type 0} (leading : List Bool → Option (A × List Bool)) (bits : List Bool) (got : A × List Bool) (o : Option (A × List Bool)) → leading bits ≡ o → or_short {Why = Why} leading bits ≡ Ok got → leading bits ≡ Some got
or_short_where leading bits got None e h = let none : Err Fault.Short ≡ Ok got = rw (or_short, e) at h in absurd (cc)
or_short_where leading bits got (Some it) e h = let some : Ok it ≡ Ok got = rw (or_short, e) at h in cc

or_short_of : {A : Type 0} (leading : List Bool → Option (A × List Bool)) (bits : List Bool) (got : A × List Bool) → or_short {Why = Why} leading bits ≡ Ok got → leading bits ≡ Some got
or_short_of leading bits got h = or_short_where leading bits got (leading bits) refl h

pub int_spelled : (max v : ℕ) (bits rest : List Bool) → 1 ≤ max → max ≤ 2 ^ 32 → int_at {Why = Why} max bits ≡ Ok (v, rest) → (v < max) × (bits ≡ int_bits max v ++ rest)
int_spelled max v bits rest h k e = int-spelled max v bits rest h k (or_short_of (leading_int max) bits (v, rest) e)

pub fixed_spelled : (w v : ℕ) (bits rest : List Bool) → fixed_at {Why = Why} w bits ≡ Ok (v, rest) → (v < 2 ^ w) × (bits ≡ fixed_bits w v ++ rest)
fixed_spelled w v bits rest e = leading_fixed-spelled w v bits rest (or_short_of (leading_fixed w) bits (v, rest) e)

-- a payload is as long as was asked
lent_where : (b : Bool) (n : ℕ) (bits : List Bool) (payload rest : List Bool) → nat_lt (length bits) n ≡ b → leading_bits n bits ≡ Some (payload, rest) → (length payload ≡ n) × (bits ≡ payload ++ rest)
lent_where true n bits payload rest t h = let e : ◌≡◌ {A = Option (List Bool × List Bool)} None (Some (payload, rest)) = rw t at h in absurd (cc)
lent_where false n bits payload rest t h =
    let e : ◌≡◌ {A = Option (List Bool × List Bool)} (Some (take n bits, drop n bits)) (Some (payload, rest)) = rw t at h in
    let same = some_parts (take n bits) payload (drop n bits) rest e in
    let enough : n ≤ length bits = grind (arith, nat_tests) in
    rw (← same.0, ← same.1) (length-take-le n bits enough, sym (take-append-drop n bits))

pub bits_spelled : (n : ℕ) (bits payload rest : List Bool) → bits_at {Why = Why} n bits ≡ Ok (payload, rest) → (length payload ≡ n) × (bits ≡ payload ++ rest)
bits_spelled n bits payload rest e = lent_where (nat_lt (length bits) n) n bits payload rest refl (or_short_of (leading_bits n) bits (payload, rest) e)

packed_where : (v : ℕ) (bits rest : List Bool) (o : Result (ℕ × List Bool) NumRefusal) → leading_packed bits ≡ o → packed_at Padded bits ≡ Ok (v, rest) → leading_packed bits ≡ Ok (v, rest)
packed_where v bits rest (Ok got) e h = let some : Ok got ≡ Ok (v, rest) = rw (packed_at, e) at h in cc
packed_where v bits rest (Err NumRefusal.Short) e h = let none : Err Fault.Short ≡ Ok (v, rest) = rw (packed_at, e) at h in absurd (cc)
packed_where v bits rest (Err NumRefusal.Padded) e h = let none : Err (Broken (length bits) Padded) ≡ Ok (v, rest) = rw (packed_at, e) at h in absurd (cc)

-- a rule that is kept
kept_where : {A : Type 0} (b : Bool) (from : ℕ) (why : Why) (value : A) (bits : List Bool) (got : A × List Bool) → cond b (give value) (fault (Broken from why)) bits ≡ Ok got → (b ≡ true) × ◌≡◌ {A = Reads A} (Ok (value, bits)) (Ok got)
kept_where true from why value bits got h = (refl, h)
kept_where false from why value bits got h = absurd (cc)

-- a field of which the rule holds
pub must_of : {A : Type 0} (read : Reading Why A) (rule : A → Bool) (why : Why) (bits : List Bool) (value : A) (rest : List Bool) → must read rule why bits ≡ Ok (value, rest) → (rule value ≡ true) × (read bits ≡ Ok (value, rest))
must_of read rule why bits value rest h =
    let next = then_of read (λ it. cond (rule it) (give it) (fault (Broken (length bits) why))) bits (value, rest) h in
    let kept = kept_where (rule next.value) (length bits) why next.value next.rest (value, rest) next.second in
    let same = ok_parts next.value value next.rest rest kept.1 in
    (rw (← same.0) kept.0, next.first ∙ kept.1)

-- the channel
pub channel_spelled : (version : Version) (channel : ℕ) (bits rest : List Bool) → channel_at version bits ≡ Ok (channel, rest) → (channel < channel_limit version) × (bits ≡ channel_bits version channel ++ rest)
channel_spelled One channel bits rest h = int_spelled 10240 channel bits rest (omega arith) (omega arith) h
channel_spelled Two channel bits rest h =
    let kept = must_of (packed_at Padded) (λ c. nat_lt c (2 ^ 15)) Wide bits channel rest h in
    let spelled = packed-spelled channel bits rest (packed_where channel bits rest (leading_packed bits) refl kept.1) in
    (ltb-true channel (2 ^ 15) kept.0, spelled.1)

-- the sequence number
pub seq_spelled : (r : Bool) (seq : ℕ) (bits rest : List Bool) → read_if r (int_at 1024) 0 bits ≡ Ok (seq, rest) → (cond r (nat_lt seq 1024) (seq == 0) ≡ true) × (bits ≡ field_if r (int_bits 1024 seq) ++ rest)
seq_spelled true seq bits rest h = let s = int_spelled 1024 seq bits rest (omega arith) (omega arith) h in (lt_true seq 1024 s.0, s.1)
  where
    lt_true : (a b : ℕ) → a < b → nat_lt a b ≡ true
    lt_true a b h = grind (arith, nat_tests)
seq_spelled false seq bits rest h =
    let same = ok_parts 0 seq bits rest h in
    (rw (← same.0) refl, same.1)

-- the kind
pub kind_spelled : (r : Bool) (kind : ℕ) (bits rest : List Bool) → kind_at r bits ≡ Ok (kind, rest) → (cond r (kind == 1 || kind == 2) (kind == 0) ≡ true) × (bits ≡ field_if r (int_bits 8 kind) ++ rest)
kind_spelled true kind bits rest h =
    let kept = must_of (int_at 8) (λ kind. kind == 1 || kind == 2) BadKind bits kind rest h in
    let s = int_spelled 8 kind bits rest (omega arith) (omega arith) kept.1 in
    (kept.0, s.1)
kind_spelled false kind bits rest h =
    let same = ok_parts 0 kind bits rest h in
    (rw (← same.0) refl, same.1)

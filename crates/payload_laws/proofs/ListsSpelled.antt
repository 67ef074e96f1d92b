-- Only lists of values, arguments and segments that were spelled are read.
use Rattle.std.proofs.Common.{◌≡◌, ℕ, ℤ, zero, suc, ◌<◌, ◌≤◌, ◌+◌, ◌-◌, ◌%◌, ◌^◌, ◌==◌, List, [], ◌∷◌, ◌++◌, Bool, true, false, ◌&&◌, ◌||◌, cond, nat_lt, nat_le, length, Option, Some, None, Ok, refl, sym, ap, ◌∙◌, subst, arith, append_assoc}
use Rattle.std.specs.List.{flat_map, list_all}
use Rattle.std.proofs.lemmas.Bool.{and_parts, and_from, lt-ltb, ltb-true, le-leb, leb-true, eqb-true}
use Rattle.protocol_model.specs.declared.Kind.{Kind}
use Rattle.protocol_model.specs.declared.Kind.TheVariants.{U8, I32, U32, I64, Packed, Guid, Enum, Bytes}
use Rattle.protocol_model.specs.declared.Cause.{Cause}
use Rattle.protocol_model.specs.Bits.{int_bits, packed_bits, fixed_bits}
use Rattle.protocol_model.specs.Reading.{◌>>=◌, give, int_at, fixed_at}
use Rattle.protocol_model.specs.Value.{Arg, Scalar, Octets, Pair, Segment, Class, handle_count, fits, arg_fits, args_fit}
use Rattle.protocol_model.specs.Payload.{kind_at, value_bits, list_bits, octets_bits, arg_bits, args_bits, segment_bits, exports_bits}
use Rattle.connection_model.specs.Names.{is_segment_name, learn_fault, names_with}
use Rattle.connection_model.specs.PayloadReading.{PayloadReading, field, number_at, value_at, pairs_at, some_values_at, octets_at, octets_arg_at, scalar_at, arg_at, args_at, may_fail, segment_at, segments_at, exports_at}
use Rattle.table_model.specs.Facts.{is_type}
use Rattle.payload_laws.specs.Limits.{HasLimits, AreValues, IsSegment}
use Rattle.payload_laws.specs.Passing.{AreLearnt}
use Rattle.payload_laws.proofs.Fields.{Answer}
use Rattle.payload_laws.proofs.Values.{kind_is}
use Rattle.payload_laws.proofs.Pairs.{on_handle, list_is}
use Rattle.payload_laws.proofs.Segments.{are_some}
use Rattle.payload_laws.proofs.Spelled.{then_of, ok_same, must_of, int_spelled, fixed_spelled, packed_spelled, value_spelled}

-- ---- value lists

-- the bits begin with the spelling of the values that are read
pub record PairsSpelled (class : Class) (last : ℕ) (bits : List Bool) (got : List Pair × List Bool) : Type 0 where
  pub values : AreValues class last got.0
  pub bits_are : bits ≡ list_bits class got.0 ++ got.1

no_pairs : (class : Class) (last h : ℕ) (bits rest : List Bool) (got : List Pair × List Bool) → h ≡ 0 → bits ≡ packed_bits h ++ rest → ◌≡◌ {A = Answer (Option Cause) (List Pair)} (Ok ([], rest)) (Ok got) → PairsSpelled class last bits got
no_pairs class last h bits rest got z e s =
    let here : PairsSpelled class last bits ([], rest) = record { values = tt; bits_are = e ∙ ap (λ (n : ℕ). packed_bits n ++ rest) z } in
    subst (λ (got : List Pair × List Bool). PairsSpelled class last bits got) (ok_same ([], rest) got s) here

-- what stands from a handle on
pairs_on : (class : Class) (more last h : ℕ) (bits rest : List Bool) (got : List Pair × List Bool) → HasLimits class → last < h → h ≤ handle_count class → bits ≡ packed_bits h ++ rest
    → ((bits : List Bool) (got : List Pair × List Bool) → pairs_at class more h bits ≡ Ok got → PairsSpelled class h bits got)
    → on_handle class more h rest ≡ Ok got → PairsSpelled class last bits got
pairs_on class more last h bits rest got limits above within e later read =
    let with_pairs : ℤ → PayloadReading (List Pair) = λ (v : ℤ). (pairs_at class more h >>= (λ pairs. give (record { handle = h; value = v } ∷ pairs))) in
    let a = then_of (value_at (kind_at class h)) with_pairs rest got read in
    let v = value_spelled (kind_at class h) a.value rest a.rest (kind_is class h limits) a.first in
    let b = then_of (pairs_at class more h) (λ pairs. give (record { handle = h; value = a.value } ∷ pairs)) a.rest got a.second in
    let p : Pair = record { handle = h; value = a.value } in
    let s = later a.rest (b.value, b.rest) b.first in
    let here : PairsSpelled class last bits (p ∷ b.value, b.rest) = record {
      values = (above, within, v.0, s.values);
      bits_are = e ∙ ap (λ (xs : List Bool). packed_bits h ++ xs) (v.1 ∙ ap (λ (xs : List Bool). value_bits (kind_at class h) a.value ++ xs) s.bits_are) ∙ sym (list_is class p b.value b.rest);
    } in
    subst (λ (got : List Pair × List Bool). PairsSpelled class last bits got) (ok_same (p ∷ b.value, b.rest) got b.second) here

-- by whether the handle is 0
pairs_where : (class : Class) (more last h : ℕ) (bits rest : List Bool) (got : List Pair × List Bool) (b : Bool) → (h == 0) ≡ b → HasLimits class → (b || (nat_lt last h && nat_le h (handle_count class))) ≡ true → bits ≡ packed_bits h ++ rest
    → ((bits : List Bool) (got : List Pair × List Bool) → pairs_at class more h bits ≡ Ok got → PairsSpelled class h bits got)
    → cond b (give []) (on_handle class more h) rest ≡ Ok got → PairsSpelled class last bits got
pairs_where class more last h bits rest got true z limits r e later read = no_pairs class last h bits rest got (eqb-true h 0 z) e read
pairs_where class more last h bits rest got false z limits r e later read =
    pairs_on class more last h bits rest got limits (ltb-true last h (and_parts _ _ r).0) (leb-true h (handle_count class) (and_parts _ _ r).1) e later read

-- what is read as pairs was spelled so
pub pairs_spelled : (class : Class) (more last : ℕ) (bits : List Bool) (got : List Pair × List Bool) → HasLimits class → pairs_at class more last bits ≡ Ok got → PairsSpelled class last bits got
pairs_spelled class zero last bits got limits read =
    let a = then_of (field number_at (λ h. h == 0)) (λ _. give []) bits got read in
    let kept = must_of number_at (λ h. h == 0) None bits a.value a.rest a.first in
    let s = packed_spelled None a.value bits a.rest kept.1 in
    no_pairs class last a.value bits a.rest got (eqb-true a.value 0 kept.0) s.1 a.second
pairs_spelled class (suc more) last bits got limits read =
    let rule : ℕ → Bool = λ (h : ℕ). (h == 0 || (nat_lt last h && nat_le h (handle_count class))) in
    let a = then_of (field number_at rule) (λ h. cond (h == 0) (give []) (on_handle class more h)) bits got read in
    let kept = must_of number_at rule None bits a.value a.rest a.first in
    let s = packed_spelled None a.value bits a.rest kept.1 in
    pairs_where class more last a.value bits a.rest got (a.value == 0) refl limits kept.0 s.1 (λ bits got read. pairs_spelled class more a.value bits got limits read) a.second

-- what is read as an update's pairs was spelled so, and there is one
pub some_pairs_spelled : (class : Class) (bits : List Bool) (got : List Pair × List Bool) → HasLimits class → some_values_at class bits ≡ Ok got → PairsSpelled class 0 bits got × (0 < length got.0)
some_pairs_spelled class bits got limits read =
    let rule : ℕ → Bool = λ (h : ℕ). (nat_lt 0 h && nat_le h (handle_count class)) in
    let more : ℕ = handle_count class - 1 in
    let a = then_of (field number_at rule) (λ h. on_handle class more h) bits got read in
    let kept = must_of number_at rule None bits a.value a.rest a.first in
    let s = packed_spelled None a.value bits a.rest kept.1 in (
      pairs_on class more 0 a.value bits a.rest got limits (ltb-true 0 a.value (and_parts _ _ kept.0).0) (leb-true a.value (handle_count class) (and_parts _ _ kept.0).1) s.1 (λ bits got read. pairs_spelled class more a.value bits got limits read) a.second,
      some_read a.value more a.rest got a.second,
    )
  where
    some_read : (h more : ℕ) (rest : List Bool) (got : List Pair × List Bool) → on_handle class more h rest ≡ Ok got → 0 < length got.0
    some_read h more rest got read =
        let with_pairs : ℤ → PayloadReading (List Pair) = λ (v : ℤ). (pairs_at class more h >>= (λ pairs. give (record { handle = h; value = v } ∷ pairs))) in
        let a = then_of (value_at (kind_at class h)) with_pairs rest got read in
        let b = then_of (pairs_at class more h) (λ pairs. give (record { handle = h; value = a.value } ∷ pairs)) a.rest got a.second in
        let p : Pair = record { handle = h; value = a.value } in
        subst (λ (got : List Pair × List Bool). 0 < length got.0) (ok_same (p ∷ b.value, b.rest) got b.second) (omega arith)

-- ---- arguments

-- the bytes that are read were spelled in these bits
pub record OctetsSpelled (n : ℕ) (bits : List Bool) (got : List ℕ × List Bool) : Type 0 where
  pub count : length got.0 ≡ n
  pub small : list_all (λ b. nat_lt b 256) got.0 ≡ true
  pub bits_are : bits ≡ octets_bits got.0 ++ got.1

octets_spelled : (n : ℕ) (bits : List Bool) (got : List ℕ × List Bool) → octets_at n bits ≡ Ok got → OctetsSpelled n bits got
octets_spelled zero bits got read =
    let here : OctetsSpelled zero bits ([], bits) = record { count = refl; small = refl; bits_are = refl } in
    subst (λ (got : List ℕ × List Bool). OctetsSpelled zero bits got) (ok_same ([], bits) got read) here
octets_spelled (suc n) bits got read =
    let a = then_of (fixed_at 8) (λ byte. (octets_at n >>= (λ bytes. give (byte ∷ bytes)))) bits got read in
    let s = fixed_spelled 8 a.value bits a.rest a.first in
    let b = then_of (octets_at n) (λ bytes. give (a.value ∷ bytes)) a.rest got a.second in
    let more = octets_spelled n a.rest (b.value, b.rest) b.first in
    let here : OctetsSpelled (suc n) bits (a.value ∷ b.value, b.rest) = record {
      count = ap suc more.count;
      small = and_from (nat_lt a.value 256) (list_all (λ b. nat_lt b 256) b.value) (lt-ltb a.value 256 s.0) more.small;
      bits_are = s.1 ∙ ap (λ (xs : List Bool). fixed_bits 8 a.value ++ xs) more.bits_are ∙ sym (append_assoc (fixed_bits 8 a.value) (octets_bits b.value) b.rest);
    } in
    subst (λ (got : List ℕ × List Bool). OctetsSpelled (suc n) bits got) (ok_same (a.value ∷ b.value, b.rest) got b.second) here

-- the argument that is read was spelled in these bits
pub record ArgSpelled (kind : Kind) (bits : List Bool) (got : Arg × List Bool) : Type 0 where
  pub fit : arg_fits kind got.0 ≡ true
  pub bits_are : bits ≡ arg_bits kind got.0 ++ got.1

octets_arg_spelled : (most : ℕ) (bits : List Bool) (got : Arg × List Bool) → most ≤ 2048 → octets_arg_at most bits ≡ Ok got → ArgSpelled (Bytes most) bits got
octets_arg_spelled most bits got m read =
    let a = then_of (int_at (most + 1)) (λ n. (octets_at n >>= (λ bytes. give (Octets bytes)))) bits got read in
    let s = int_spelled (most + 1) a.value bits a.rest (omega arith) (omega (arith, m)) a.first in
    let b = then_of (octets_at a.value) (λ bytes. give (Octets bytes)) a.rest got a.second in
    let o = octets_spelled a.value a.rest (b.value, b.rest) b.first in
    let below = s.0 in
    let count = o.count in
    let here : ArgSpelled (Bytes most) bits (Octets b.value, b.rest) = record {
      fit = and_from (nat_le (length b.value) most) (list_all (λ b. nat_lt b 256) b.value) (le-leb (length b.value) most (omega (arith, below, count))) o.small;
      bits_are = s.1 ∙ ap (λ (n : ℕ). int_bits (most + 1) n ++ a.rest) (sym count) ∙ ap (λ (xs : List Bool). int_bits (most + 1) (length b.value) ++ xs) o.bits_are ∙ sym (append_assoc (int_bits (most + 1) (length b.value)) (octets_bits b.value) b.rest);
    } in
    subst (λ (got : Arg × List Bool). ArgSpelled (Bytes most) bits got) (ok_same (Octets b.value, b.rest) got b.second) here

-- a value that is an argument
record ScalarSpelled (kind : Kind) (bits : List Bool) (got : Arg × List Bool) : Type 0 where
  pub value : ℤ
  pub rest : List Bool
  pub fit : fits kind value ≡ true
  pub bits_are : bits ≡ value_bits kind value ++ rest
  pub is : (Scalar value, rest) ≡ got

scalar_spelled : (kind : Kind) (bits : List Bool) (got : Arg × List Bool) → is_type false kind ≡ true → scalar_at kind bits ≡ Ok got → ScalarSpelled kind bits got
scalar_spelled kind bits got k read =
    let a = then_of (value_at kind) (λ v. give (Scalar v)) bits got read in
    let v = value_spelled kind a.value bits a.rest k a.first in
    record { value = a.value; rest = a.rest; fit = v.0; bits_are = v.1; is = ok_same (Scalar a.value, a.rest) got a.second }

as_arg : (kind : Kind) (bits : List Bool) (got : Arg × List Bool) → ((v : ℤ) → arg_fits kind (Scalar v) ≡ fits kind v) → ((v : ℤ) → arg_bits kind (Scalar v) ≡ value_bits kind v) → ScalarSpelled kind bits got → ArgSpelled kind bits got
as_arg kind bits got f g s =
    let here : ArgSpelled kind bits (Scalar s.value, s.rest) = record { fit = f s.value ∙ s.fit; bits_are = s.bits_are ∙ ap (λ (xs : List Bool). xs ++ s.rest) (sym (g s.value)) } in
    subst (λ (got : Arg × List Bool). ArgSpelled kind bits got) s.is here

arg_spelled : (kind : Kind) (bits : List Bool) (got : Arg × List Bool) → is_type true kind ≡ true → arg_at kind bits ≡ Ok got → ArgSpelled kind bits got
arg_spelled (Bytes most) bits got k read = octets_arg_spelled most bits got (leb-true most 2048 (and_parts (nat_le 1 most) (nat_le most 2048) k).1) read
arg_spelled Kind.Bool bits got k read = as_arg Kind.Bool bits got (λ v. refl) (λ v. refl) (scalar_spelled Kind.Bool bits got k read)
arg_spelled U8 bits got k read = as_arg U8 bits got (λ v. refl) (λ v. refl) (scalar_spelled U8 bits got k read)
arg_spelled I32 bits got k read = as_arg I32 bits got (λ v. refl) (λ v. refl) (scalar_spelled I32 bits got k read)
arg_spelled U32 bits got k read = as_arg U32 bits got (λ v. refl) (λ v. refl) (scalar_spelled U32 bits got k read)
arg_spelled I64 bits got k read = as_arg I64 bits got (λ v. refl) (λ v. refl) (scalar_spelled I64 bits got k read)
arg_spelled Packed bits got k read = as_arg Packed bits got (λ v. refl) (λ v. refl) (scalar_spelled Packed bits got k read)
arg_spelled Guid bits got k read = as_arg Guid bits got (λ v. refl) (λ v. refl) (scalar_spelled Guid bits got k read)
arg_spelled (Enum count) bits got k read = as_arg (Enum count) bits got (λ v. refl) (λ v. refl) (scalar_spelled (Enum count) bits got k read)

-- the arguments that are read were spelled in these bits
pub record ArgsSpelled (kinds : List Kind) (bits : List Bool) (got : List Arg × List Bool) : Type 0 where
  pub fit : args_fit kinds got.0 ≡ true
  pub bits_are : bits ≡ args_bits kinds got.0 ++ got.1

-- what is read as arguments was spelled so
pub args_spelled : (kinds : List Kind) (bits : List Bool) (got : List Arg × List Bool) → list_all (is_type true) kinds ≡ true → args_at kinds bits ≡ Ok got → ArgsSpelled kinds bits got
args_spelled [] bits got k read =
    let here : ArgsSpelled [] bits ([], bits) = record { fit = refl; bits_are = refl } in
    subst (λ (got : List Arg × List Bool). ArgsSpelled [] bits got) (ok_same ([], bits) got read) here
args_spelled (kind ∷ kinds) bits got k read =
    let a = then_of (arg_at kind) (λ a. (args_at kinds >>= (λ args. give (a ∷ args)))) bits got read in
    let s = arg_spelled kind bits (a.value, a.rest) (and_parts _ _ k).0 a.first in
    let b = then_of (args_at kinds) (λ args. give (a.value ∷ args)) a.rest got a.second in
    let more = args_spelled kinds a.rest (b.value, b.rest) (and_parts _ _ k).1 b.first in
    let here : ArgsSpelled (kind ∷ kinds) bits (a.value ∷ b.value, b.rest) = record {
      fit = and_from (arg_fits kind a.value) (args_fit kinds b.value) s.fit more.fit;
      bits_are = s.bits_are ∙ ap (λ (xs : List Bool). arg_bits kind a.value ++ xs) more.bits_are ∙ sym (append_assoc (arg_bits kind a.value) (args_bits kinds b.value) b.rest);
    } in
    subst (λ (got : List Arg × List Bool). ArgsSpelled (kind ∷ kinds) bits got) (ok_same (a.value ∷ b.value, b.rest) got b.second) here

-- ---- segments

-- the segment that is read was spelled in these bits, and can be exported
pub record SegmentSpelled (bits : List Bool) (got : Segment × List Bool) : Type 0 where
  pub is : IsSegment got.0
  pub bits_are : bits ≡ segment_bits got.0 ++ got.1

four : (a b c d r : List Bool) → a ++ (b ++ (c ++ (d ++ r))) ≡ (a ++ b ++ c ++ d) ++ r
four a b c d r = simp append_assoc

odd_of : (g : ℕ) → (g % 2 == 1 && nat_le 3 g) ≡ true → (g % 2 ≡ 1) × (3 ≤ g)
odd_of g h = (eqb-true (g % 2) 1 (and_parts _ _ h).0, leb-true 3 g (and_parts _ _ h).1)

segment_spelled : (bits : List Bool) (got : Segment × List Bool) → segment_at bits ≡ Ok got → SegmentSpelled bits got
segment_spelled bits got read =
    let with_name : ℕ → ℕ → List ℕ → PayloadReading Segment = λ (guid outer : ℕ) (name : List ℕ). give (record { guid = guid; outer = outer; name = name }) in
    let with_size : ℕ → ℕ → ℕ → PayloadReading Segment = λ (guid outer n : ℕ). (field (octets_at n) is_segment_name >>= with_name guid outer) in
    let with_outer : ℕ → ℕ → PayloadReading Segment = λ (guid outer : ℕ). (field (int_at 64) (λ n. nat_le 1 n && nat_le n 31) >>= with_size guid outer) in
    let a = then_of (field number_at (λ g. g % 2 == 1 && nat_le 3 g)) (λ guid. (number_at >>= with_outer guid)) bits got read in
    let g = must_of number_at (λ g. g % 2 == 1 && nat_le 3 g) None bits a.value a.rest a.first in
    let guid = packed_spelled None a.value bits a.rest g.1 in
    let b = then_of number_at (with_outer a.value) a.rest got a.second in
    let outer = packed_spelled None b.value a.rest b.rest b.first in
    let c = then_of (field (int_at 64) (λ n. nat_le 1 n && nat_le n 31)) (with_size a.value b.value) b.rest got b.second in
    let n = must_of (int_at 64) (λ n. nat_le 1 n && nat_le n 31) None b.rest c.value c.rest c.first in
    let size = int_spelled 64 c.value b.rest c.rest (omega arith) (omega arith) n.1 in
    let d = then_of (field (octets_at c.value) is_segment_name) (with_name a.value b.value) c.rest got c.second in
    let m = must_of (octets_at c.value) is_segment_name None c.rest d.value d.rest d.first in
    let name = octets_spelled c.value c.rest (d.value, d.rest) m.1 in
    let count = name.count in
    let short : c.value ≤ 31 = leb-true c.value 31 (and_parts _ _ n.0).1 in
    let odd = odd_of a.value g.0 in
    let s : Segment = record { guid = a.value; outer = b.value; name = d.value } in
    let here : SegmentSpelled bits (s, d.rest) = record {
      is = record { odd = odd.0; least = odd.1; guid = guid.0; outer = outer.0; name = m.0; short = omega (arith, short, count) };
      bits_are = guid.1 ∙ ap (λ (xs : List Bool). packed_bits a.value ++ xs) (outer.1 ∙ ap (λ (xs : List Bool). packed_bits b.value ++ xs)
          (size.1 ∙ ap (λ (k : ℕ). int_bits 64 k ++ c.rest) (sym count) ∙ ap (λ (xs : List Bool). int_bits 64 (length d.value) ++ xs) name.bits_are))
          ∙ four (packed_bits a.value) (packed_bits b.value) (int_bits 64 (length d.value)) (octets_bits d.value) d.rest;
    } in
    subst (λ (got : Segment × List Bool). SegmentSpelled bits got) (ok_same (s, d.rest) got d.second) here

-- nothing stood against the value
may_of : {A : Type 0} (o : Option Cause) (value : A) (bits : List Bool) (got : A × List Bool) → may_fail o value bits ≡ Ok got → (o ≡ None) × ((value, bits) ≡ got)
may_of None value bits got h = (refl, ok_same (value, bits) got h)
may_of (Some cause) value bits got h = absurd (cc)

-- the segments that are read were spelled in these bits, and each was learnt
pub record SegmentsSpelled (names : List Segment) (count : ℕ) (bits : List Bool) (got : List Segment × List Bool) : Type 0 where
  pub learnt : AreLearnt names got.0
  pub many : length got.0 ≡ count
  pub bits_are : bits ≡ flat_map segment_bits got.0 ++ got.1

segments_spelled : (names : List Segment) (count : ℕ) (bits : List Bool) (got : List Segment × List Bool) → segments_at names count bits ≡ Ok got → SegmentsSpelled names count bits got
segments_spelled names zero bits got read =
    let here : SegmentsSpelled names zero bits ([], bits) = record { learnt = tt; many = refl; bits_are = refl } in
    subst (λ (got : List Segment × List Bool). SegmentsSpelled names zero bits got) (ok_same ([], bits) got read) here
segments_spelled names (suc count) bits got read =
    let with_known : Segment → List Segment → PayloadReading (List Segment) = λ (s : Segment) (known : List Segment). (segments_at known count >>= (λ segments. give (s ∷ segments))) in
    let a = then_of segment_at (λ s. (may_fail (learn_fault names s) (names_with names s) >>= with_known s)) bits got read in
    let s = segment_spelled bits (a.value, a.rest) a.first in
    let b = then_of (may_fail (learn_fault names a.value) (names_with names a.value)) (with_known a.value) a.rest got a.second in
    let none = may_of (learn_fault names a.value) (names_with names a.value) a.rest (b.value, b.rest) b.first in
    let c = then_of (segments_at b.value count) (λ segments. give (a.value ∷ segments)) b.rest got b.second in
    let known : names_with names a.value ≡ b.value = ap (λ (p : List Segment × List Bool). p.0) none.1 in
    let same : a.rest ≡ b.rest = ap (λ (p : List Segment × List Bool). p.1) none.1 in
    let more = segments_spelled b.value count b.rest (c.value, c.rest) c.first in
    let here : SegmentsSpelled names (suc count) bits (a.value ∷ c.value, c.rest) = record {
      learnt = (s.is, none.0, subst (λ (names : List Segment). AreLearnt names c.value) (sym known) more.learnt);
      many = ap suc more.many;
      bits_are = s.bits_are ∙ ap (λ (xs : List Bool). segment_bits a.value ++ xs) (same ∙ more.bits_are) ∙ sym (append_assoc (segment_bits a.value) (flat_map segment_bits c.value) c.rest);
    } in
    subst (λ (got : List Segment × List Bool). SegmentsSpelled names (suc count) bits got) (ok_same (a.value ∷ c.value, c.rest) got c.second) here

-- the exports that are read were spelled in these bits, where the flag says that there are some
pub record ExportsSpelled (flag : Bool) (names : List Segment) (bits : List Bool) (got : List Segment × List Bool) : Type 0 where
  pub learnt : AreLearnt names got.0
  pub few : length got.0 < 2 ^ 32
  pub some : flag ≡ are_some got.0
  pub bits_are : bits ≡ exports_bits got.0 ++ got.1

exports_by : (names : List Segment) (count : ℕ) (bits rest : List Bool) (got : List Segment × List Bool) → count < 2 ^ 32 → 1 ≤ count → bits ≡ packed_bits count ++ rest → SegmentsSpelled names count rest got → ExportsSpelled true names bits got
exports_by names count bits rest ([], after) few one e s = let many = s.many in absurd (omega (arith, one, many))
exports_by names count bits rest (x ∷ xs, after) few one e s =
    let many : suc (length xs) ≡ count = s.many in
    record {
      learnt = s.learnt;
      few = omega (arith, few, many);
      some = refl;
      bits_are = e ∙ ap (λ (n : ℕ). packed_bits n ++ rest) (sym many) ∙ ap (λ (ys : List Bool). packed_bits (suc (length xs)) ++ ys) s.bits_are ∙ sym (append_assoc (packed_bits (suc (length xs))) (flat_map segment_bits (x ∷ xs)) after);
    }

-- what is read as exports was spelled so
pub exports_spelled : (flag : Bool) (names : List Segment) (bits : List Bool) (got : List Segment × List Bool) → exports_at flag names bits ≡ Ok got → ExportsSpelled flag names bits got
exports_spelled false names bits got read =
    let here : ExportsSpelled false names bits ([], bits) = record { learnt = tt; few = omega arith; some = refl; bits_are = refl } in
    subst (λ (got : List Segment × List Bool). ExportsSpelled false names bits got) (ok_same ([], bits) got read) here
exports_spelled true names bits got read =
    let a = then_of (field number_at (λ n. nat_le 1 n)) (λ count. segments_at names count) bits got read in
    let n = must_of number_at (λ n. nat_le 1 n) None bits a.value a.rest a.first in
    let count = packed_spelled None a.value bits a.rest n.1 in
    exports_by names a.value bits a.rest got count.0 (leb-true 1 a.value n.0) count.1 (segments_spelled names a.value a.rest got a.second)

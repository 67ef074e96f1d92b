-- The handles of a class in memory, and those of the class that it stands for.
use Rattle.std.proofs.Common.{◌≡◌, ◌∙◌, ℕ, zero, suc, ◌+◌, ◌-◌, ◌≤◌, List, [], ◌∷◌, length, true, false, ◌&&◌, not, ◌==◌, nat_le, Option, Some, None, option_map, unwrap_or, IsTrue, refl, ap, sym, arith}
use Rattle.std.specs.Prelude.{slice_get}
use Rattle.std.specs.List.{list_all}
use Rattle.std.proofs.lemmas.Bool.{and_parts}
use Rattle.std.proofs.lemmas.Bool.Decides.{nat_tests}
use Rattle.std.proofs.lemmas.List.{length-map}
use Rattle.std.proofs.lemmas.Option.{slice_get-map}
use Rattle.protocol_model.specs.declared.Kind.{Kind}
use Rattle.protocol_model.specs.Value as Model
use Rattle.protocol_model.specs.Payload.{kind_at}
use Rattle.table_model.specs.Facts.{is_type}
use Rattle.value_codec.specs.Reading.{has_values}
use Rattle.class_layout.specs.Tables.{class_of}
use Rattle.class_members.specs.Members.{prop_of}
use Rattle.class_layout.specs.declared.class.Class.{Class}
use Rattle.class_members.specs.declared.members.Prop.{Prop}
use Rattle.class_layout.specs.declared.class.Segment.{Segment}
use Rattle.payload_reading.specs.Values.{own_kind}
use Rattle.payload_reading.specs.TableLimits.{HasTableLimits}

pub count_is : (segments : List Segment) (c : Class)
    → Model.handle_count (class_of segments c) ≡ length c.props + 3
count_is segments c = omega (arith, length-map c.props prop_of)

kind_some : (o : Option Prop)
    → unwrap_or (option_map (λ (p : Model.Prop). p.kind) (option_map prop_of o)) Kind.Bool ≡ unwrap_or
    (option_map (λ (p : Prop). p.kind) o) Kind.Bool
kind_some None = refl
kind_some (Some p) = refl

pub kind_is : (segments : List Segment) (c : Class) (k : ℕ)
    → kind_at (class_of segments c) (suc (suc (suc (suc k)))) ≡ own_kind c.props k
kind_is segments c k =
    ap (λ (o : Option Model.Prop). unwrap_or (option_map (λ (p : Model.Prop). p.kind) o) Kind.Bool)
    (slice_get-map prop_of c.props k)
    ∙ kind_some (slice_get c.props k)

-- the kind of a handle from 4 on
pub own_is : (segments : List Segment) (c : Class) (h : ℕ) → 4 ≤ h
    → own_kind c.props (h - 4) ≡ kind_at (class_of segments c) h
own_is segments c zero l = absurd (omega (arith, l))
own_is segments c (suc zero) l = absurd (omega (arith, l))
own_is segments c (suc (suc zero)) l = absurd (omega (arith, l))
own_is segments c (suc (suc (suc zero))) l = absurd (omega (arith, l))
own_is segments c (suc (suc (suc (suc k)))) l =
    let index : suc (suc (suc (suc k))) - 4 ≡ k = omega arith in
    ap (own_kind c.props) index ∙ sym (kind_is segments c k)

-- a kind that a property may have has values
some_values : (count : ℕ) → (nat_le 2 count && nat_le count 65535) ≡ true → not (count == 0) ≡ true
some_values count h = grind (arith, nat_tests)

pub type_has_values : (kind : Kind) → is_type false kind ≡ true → has_values kind ≡ true
type_has_values Kind.Bool h = refl
type_has_values Kind.U8 h = refl
type_has_values Kind.I32 h = refl
type_has_values Kind.U32 h = refl
type_has_values Kind.I64 h = refl
type_has_values (Kind.Enum count) h = some_values count h
type_has_values Kind.Packed h = refl
type_has_values Kind.Guid h = refl
type_has_values (Kind.Bytes most) h = absurd (cc)

own_has : (props : List Prop) (k : ℕ) → list_all (λ (p : Prop). is_type false p.kind) props ≡ true
    → has_values (own_kind props k) ≡ true
own_has [] k h = refl
own_has (p ∷ props) zero h = type_has_values p.kind (and_parts _ _ h).0
own_has (p ∷ props) (suc k) h = own_has props k (and_parts _ _ h).1

pub own_has_values : (c : Class) (k : ℕ) → HasTableLimits c → IsTrue (has_values (own_kind c.props k))
own_has_values c k r = own_has c.props k r.props

-- The kinds of a class's handles, in memory and as the definitions have them.
use Rattle.std.proofs.Common.{◌≡◌, ◌∙◌, ℕ, zero, suc, ◌-◌, ◌≤◌, List, [], ◌∷◌, map, option_map, unwrap_or, refl, ap, arith}
use Rattle.std.specs.Prelude.{slice_get}
use Rattle.protocol_model.specs.declared.Kind.{Kind}
use Rattle.protocol_model.specs.Value as Model
use Rattle.protocol_model.specs.Payload.{kind_at}
use Rattle.class_layout.specs.Tables.{class_of}
use Rattle.class_members.specs.Members.{prop_of}
use Rattle.class_layout.specs.declared.class.Class.{Class}
use Rattle.class_members.specs.declared.members.Prop.{Prop}
use Rattle.class_layout.specs.declared.class.Segment.{Segment}
use Rattle.payload_reading.specs.Values.{own_kind}

kind_among : (props : List Prop) (k : ℕ)
    → own_kind props k ≡ unwrap_or (option_map (λ (p : Model.Prop). p.kind) (slice_get (map prop_of props) k)) Kind.Bool
kind_among [] k = refl
kind_among (p ∷ props) zero = refl
kind_among (p ∷ props) (suc k) = kind_among props k

-- the class's own handles are those from 4 on
pub own_from_4 : (segments : List Segment) (c : Class) (h : ℕ) → 4 ≤ h
    → own_kind c.props (h - 4) ≡ kind_at (class_of segments c) h
own_from_4 segments c zero l = absurd (omega (arith, l))
own_from_4 segments c (suc zero) l = absurd (omega (arith, l))
own_from_4 segments c (suc (suc zero)) l = absurd (omega (arith, l))
own_from_4 segments c (suc (suc (suc zero))) l = absurd (omega (arith, l))
own_from_4 segments c (suc (suc (suc (suc k)))) l =
    let index : suc (suc (suc (suc k))) - 4 ≡ k = omega arith in
    ap (own_kind c.props) index ∙ kind_among c.props k

use Rattle.std.proofs.Common.{◌≡◌, ℕ, suc, true, ◌+◌, ◌-◌, ◌≤◌, List, Bool, false, refl, sym, ap, ◌∙◌, subst, arith, Option, Some, None, unwrap_or}
use Rattle.std.specs.List.{slice_get}
use Rattle.std.specs.Prelude.{option_map}
use Rattle.std.proofs.lemmas.Option.{slice_get-map}
use Rattle.protocol_model.specs.Cond.{updatable}
use Rattle.protocol_model.specs.Value as Model
use Rattle.class_layout.specs.Tables.{class_of}
use Rattle.class_members.specs.Members.{prop_of}
use Rattle.class_layout.specs.declared.class.Class.{Class}
use Rattle.class_members.specs.declared.members.Prop.{Prop}
use Rattle.class_layout.specs.declared.class.Segment.{Segment}
use Rattle.sender_records.specs.Handles.{is_updatable_in}
use Rattle.sender_records.proofs.handle.is_updatable.Goals as goal

own_prop : (class : Model.Class) (h n : ℕ) → h ≡ n + 4 → Model.prop_at class h ≡ slice_get class.props n
own_prop class h n e = (let f : h ≡ suc (suc (suc (suc n))) = omega arith in rw f refl)

updatable_by : (segments : List Segment) (class : Class) (owns : Bool) (h : ℕ) → 4 ≤ h → (o : Option Prop)
    → slice_get class.props (h - 4) ≡ o
    → is_updatable_in (class_of segments class) owns h
    ≡ unwrap_or (option_map (λ (p : Prop). updatable p.cond owns true) o) false
updatable_by segments class owns h lo o e =
    ap (λ (x : Option Model.Prop). unwrap_or (option_map (λ (p : Model.Prop). updatable p.cond owns true) x) false)
    (own_prop (class_of segments class) h (h - 4) (omega arith) ∙ slice_get-map prop_of class.props (h - 4)
    ∙ ap (option_map prop_of) e)
    ∙ by o
  where
    by : (o : Option Prop)
        → unwrap_or (option_map (λ (p : Model.Prop). updatable p.cond owns true) (option_map prop_of o)) false
        ≡ unwrap_or (option_map (λ (p : Prop). updatable p.cond owns true) o) false
    by None = refl
    by (Some p) = refl

pub returns-in-Some : goal.returns-in-Some
returns-in-Some c = λ segments.
    let own : 4 ≤ c.prop.inside.0 = omega arith in
    subst (λ (h : ℕ). c.updatable-in-Some.result ≡ is_updatable_in (class_of segments c.args.class.now) c.args.owns h)
    c.prop.view_is
    (c.updatable-in-Some.ensures
    ∙ sym (updatable_by segments c.args.class.now c.args.owns c.prop.inside.0 own (Some c.in-Some.p.now)
    (sym c.in-Some.ensures)))

pub returns-in-None : goal.returns-in-None
returns-in-None c = λ segments.
    let own : 4 ≤ c.prop.inside.0 = omega arith in
    subst (λ (h : ℕ). false ≡ is_updatable_in (class_of segments c.args.class.now) c.args.owns h) c.prop.view_is
    (sym (updatable_by segments c.args.class.now c.args.owns c.prop.inside.0 own None (sym c.in-None.ensures)))

-- The properties of a table in memory, and those of the table that it stands for.
use Rattle.std.proofs.Common.{◌≡◌, ◌∙◌, ℕ, zero, suc, ◌-◌, ◌<◌, true, false, nat_le, ◌==◌, ◌||◌, Option, Some, None, option_map, unwrap_or, refl, ap, arith, if◌then◌else◌}
use Rattle.std.specs.Prelude.{slice_get}
use Rattle.std.proofs.lemmas.Bool.Decides.{nat_tests}
use Rattle.protocol_model.specs.declared.Kind.{Kind}
use Rattle.protocol_model.specs.Value as Model
use Rattle.protocol_model.specs.World.{class_at, has_switch, is_custom}
use Rattle.class_layout.specs.Tables.{Layout, table_in}
use Rattle.class_members.specs.Members.{prop_of}
use Rattle.class_members.specs.declared.members.Prop.{Prop}
use Rattle.class_layout.proofs.InMemory.{props_in}
use Rattle.world_table.specs.Answers.{settable_at}
use Rattle.world_table.specs.Kept.{own_at}

-- a handle from 4 on is none of those below
pub apart : (k h : ℕ) → h < 4 → (suc (suc (suc (suc k))) == h) ≡ false
apart k h below = grind (arith, nat_tests)

-- the property of a handle from 4 on
pub own_of_index : (layout : Layout) (n k : ℕ)
    → slice_get (class_at (table_in layout) n).props k ≡ option_map prop_of (own_at layout n (suc (suc (suc (suc k)))))
own_of_index layout n k =
    let le : nat_le 4 (suc (suc (suc (suc k)))) ≡ true = grind (arith, nat_tests) in
    let index : suc (suc (suc (suc k))) - 4 ≡ k = omega arith in
    rw (le, index) (props_in layout.segments layout.classes n k)

switch_some : (o : Option Prop)
    → unwrap_or (option_map (λ (p : Model.Prop). is_custom p.cond) (option_map prop_of o)) false
    ≡ unwrap_or (option_map (λ (p : Prop). is_custom p.cond) o) false
switch_some None = refl
switch_some (Some p) = refl

pub switch_is : (layout : Layout) (n h : ℕ)
    → has_switch (class_at (table_in layout) n) h
    ≡ unwrap_or (option_map (λ (p : Prop). is_custom p.cond) (own_at layout n h)) false
switch_is layout n zero = refl
switch_is layout n (suc zero) = refl
switch_is layout n (suc (suc zero)) = refl
switch_is layout n (suc (suc (suc zero))) = refl
switch_is layout n (suc (suc (suc (suc k)))) =
    ap (λ (o : Option Model.Prop). unwrap_or (option_map (λ (p : Model.Prop). is_custom p.cond) o) false)
    (own_of_index layout n k)
    ∙ switch_some (own_at layout n (suc (suc (suc (suc k)))))

-- the kind of a handle that can be set
abbrev pub kind_in : (handle : ℕ) → Option Prop → Option Kind
kind_in h own = if h == 1 || h == 2 then Some Kind.I32 else option_map (λ (p : Prop). p.kind) own

kind_some : (o : Option Prop)
    → option_map (λ (p : Model.Prop). p.kind) (option_map prop_of o) ≡ option_map (λ (p : Prop). p.kind) o
kind_some None = refl
kind_some (Some p) = refl

pub kind_is : (layout : Layout) (n h : ℕ)
    → option_map (λ (p : Model.Prop). p.kind) (settable_at (class_at (table_in layout) n) h)
    ≡ kind_in h (own_at layout n h)
kind_is layout n zero = refl
kind_is layout n (suc zero) = refl
kind_is layout n (suc (suc zero)) = refl
kind_is layout n (suc (suc (suc zero))) = refl
kind_is layout n (suc (suc (suc (suc k)))) =
    rw (apart k 3 (omega arith), apart k 1 (omega arith), apart k 2 (omega arith))
    (ap (option_map (λ (p : Model.Prop). p.kind)) (own_of_index layout n k)
    ∙ kind_some (own_at layout n (suc (suc (suc (suc k))))))

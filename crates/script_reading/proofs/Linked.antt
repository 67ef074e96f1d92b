-- What the lists of a class say of a name is what its definition says.
use Rattle.std.proofs.Common.{◌≡◌, ℕ, suc, ◌+◌, List, [], ◌∷◌, map, length, refl, sym, ◌∙◌, ap, arith, Bool, true, false, not, ◌&&◌, ◌||◌, ◌==◌, nat_eq, Option, Some, None, option_map, option_and_then, cond, Result, Ok, Err, pos, Bor, codes}
use Rattle.std.specs.Prelude.{slice_get, position}
use Rattle.std.specs.Bool.{if◌then◌else◌, then_some}
use Rattle.std.specs.Option.{ok_or}
use Rattle.std.specs.Str.{bytes_eq}
use Rattle.std.proofs.lemmas.Bool.Decides.{nat_tests}
use Rattle.std.proofs.lemmas.Option.{slice_get-map}
use Rattle.protocol_model.specs.declared.Cond.TheVariants as Cond
use Rattle.protocol_model.specs.declared.Kind.{Kind}
use Rattle.protocol_model.specs.declared.Kind.TheVariants.{I32}
use Rattle.protocol_model.specs.declared.LineWhy.{LineWhy}
use Rattle.protocol_model.specs.declared.LineWhy.TheVariants.{NoName}
use Rattle.protocol_model.specs.Value as Model
use Rattle.protocol_model.specs.Value.{Class, prop_at, call_at, props_of}
use Rattle.protocol_model.specs.World.{is_custom}
use Rattle.class_members.specs.Members.{prop_of, call_of}
use Rattle.class_members.specs.declared.members.Prop.{Prop}
use Rattle.class_members.specs.declared.members.Call.{Call}
use Rattle.class_layout.proofs.Finding.{position_step, position_mapped}
use Rattle.script_model.specs.Lines.{Text}
use Rattle.script_model.specs.ScriptRules.{handle_named}
use Rattle.script_reading.specs.Judging.{settable_of, switchable_of, called_of, ◌>>=◌}
use Rattle.script_reading.specs.KeptIn.{seen_by}
use Rattle.script_reading.specs.Members.{prop_place, with_kind, kind_at, settable_in, if_custom, custom_at, switchable_in, call_place, numbered, call_at_place, called_in}

-- the handle, by whether the name is x, y or the role, or else one of the class's own
abbrev chosen : (a b c : Bool) → Option ℕ → Option ℕ
chosen a b c o =
    option_map (λ n. n + 1) (cond a (Some 0) (option_map (λ n. n + 1) (cond b (Some 0) (option_map (λ n. n + 1)
    (cond c (Some 0) (option_map (λ n. n + 1) o))))))

handle_is : (class : Class) (name : Text)
    → handle_named class name
    ≡ chosen (bytes_eq (codes "x") name) (bytes_eq (codes "y") name) (bytes_eq (codes "role") name)
    (position (λ (p : Model.Prop). bytes_eq p.name name) class.props)
handle_is class name =
    let x : Model.Prop = record { name = 120 ∷ []; kind = I32; cond = Cond.Always; init = pos 0 } in
    let y : Model.Prop = record { name = 121 ∷ []; kind = I32; cond = Cond.Always; init = pos 0 } in
    let role : Model.Prop =
    record { name = 114 ∷ 111 ∷ 108 ∷ 101 ∷ []; kind = Kind.Bool; cond = Cond.Always; init = pos 0 } in
    ap (option_map (λ n. n + 1))
    (position_step (λ (p : Model.Prop). bytes_eq p.name name) x (y ∷ role ∷ class.props)
    ∙ ap (λ o. cond (bytes_eq (codes "x") name) (Some 0) (option_map (λ n. n + 1) o))
    (position_step (λ (p : Model.Prop). bytes_eq p.name name) y (role ∷ class.props)
    ∙ ap (λ o. cond (bytes_eq (codes "y") name) (Some 0) (option_map (λ n. n + 1) o))
    (position_step (λ (p : Model.Prop). bytes_eq p.name name) role class.props)))

-- the same place in the definition's list
place_is : (class : Class) (props : List Prop) (name : Text) → map prop_of props ≡ class.props
    → prop_place props name ≡ position (λ (p : Model.Prop). bytes_eq p.name name) class.props
place_is class props name h =
    position_mapped prop_of (λ (p : Model.Prop). bytes_eq p.name name) props
    ∙ ap (position (λ (p : Model.Prop). bytes_eq p.name name)) h

item_is : (class : Class) (props : List Prop) (n : ℕ) → map prop_of props ≡ class.props
    → slice_get class.props n ≡ option_map prop_of (slice_get props n)
item_is class props n h = ap (λ ps. slice_get ps n) (sym h) ∙ slice_get-map prop_of props n

four_on : (n : ℕ) → n + 1 + 1 + 1 + 1 ≡ suc (suc (suc (suc n)))
four_on n = omega arith

not_third : (n : ℕ) → nat_eq (suc (suc (suc (suc n)))) 3 ≡ false
not_third n = grind (arith, nat_tests)

-- what is said of a place among a class's own properties, and of x, y and the role, is said of the handle
named_is : {A : Type 0} (class : Class) (props : List Prop) (name : Text)
    (seen : (a b c : Bool) → Option ℕ → Result A LineWhy) (meant : Option ℕ → Result A LineWhy)
    → map prop_of props ≡ class.props → ((a b c : Bool) (o : Option ℕ) → seen a b c o ≡ meant (chosen a b c o))
    → seen (bytes_eq (codes "x") name) (bytes_eq (codes "y") name) (bytes_eq (codes "role") name)
    (prop_place props name)
    ≡ meant (handle_named class name)
named_is class props name seen meant h same =
    same (bytes_eq (codes "x") name) (bytes_eq (codes "y") name) (bytes_eq (codes "role") name) (prop_place props name)
    ∙ ap (λ o. meant (chosen (bytes_eq (codes "x") name) (bytes_eq (codes "y") name) (bytes_eq (codes "role") name) o))
    (place_is class props name h)
    ∙ sym (ap meant (handle_is class name))

-- ---- properties that can be set

abbrev settable_by : Class → Option ℕ → Result (ℕ × Kind) LineWhy
settable_by class o =
    ok_or (option_and_then (λ h. then_some (not (h == 3)) h) o) NoName
    >>= (λ h. ok_or (prop_at class h) NoName >>= (λ (p : Model.Prop). Ok (h, p.kind)))

pub settable_is : (class : Class) (props : List Prop) (name : Text) → map prop_of props ≡ class.props
    → settable_in props name ≡ settable_of class name
unfolding settable_of
settable_is class props name h =
    named_is class props name (λ a b c o. if a then Ok (1, I32) else if b then Ok (2, I32) else if c then Err NoName
    else kind_at props o) (settable_by class) h by_tests
  where
    by_item : (n : ℕ) (o : Option Prop) → slice_get class.props n ≡ option_map prop_of o
        → with_kind n o ≡ settable_by class (Some (suc (suc (suc (suc n)))))
    by_item n None e = rw (not_third n, e) refl
    by_item n (Some p) e = rw (not_third n, e) (let f : n + 4 ≡ suc (suc (suc (suc n))) = omega arith in rw f refl)

    by_place : (o : Option ℕ) → kind_at props o ≡ settable_by class (chosen false false false o)
    by_place None = refl
    by_place (Some n) =
        by_item n (slice_get props n) (item_is class props n h) ∙ ap (λ k. settable_by class (Some k)) (sym (four_on n))

    by_tests : (a b c : Bool) (o : Option ℕ)
        → (if a then Ok (1, I32) else if b then Ok (2, I32) else if c then Err NoName else kind_at props o)
        ≡ settable_by class (chosen a b c o)
    by_tests true b c o = refl
    by_tests false true c o = refl
    by_tests false false true o = refl
    by_tests false false false o = by_place o

-- ---- custom properties

abbrev switchable_by : Class → Option ℕ → Result ℕ LineWhy
switchable_by class o =
    ok_or
    (option_and_then (λ h. option_and_then (λ (p : Model.Prop). then_some (is_custom p.cond) h) (prop_at class h)) o)
    NoName

pub switchable_is : (class : Class) (props : List Prop) (name : Text) → map prop_of props ≡ class.props
    → switchable_in props name ≡ switchable_of class name
unfolding switchable_of
switchable_is class props name h =
    named_is class props name (λ a b c o. if a || b || c then Err NoName else custom_at props o) (switchable_by class) h
    by_tests
  where
    by_custom : (n : ℕ) (t : Bool)
        → (if t then Ok (n + 4) else Err NoName) ≡ ok_or (then_some t (suc (suc (suc (suc n))))) NoName
    by_custom n true = let f : n + 4 ≡ suc (suc (suc (suc n))) = omega arith in rw f refl
    by_custom n false = refl

    by_item : (n : ℕ) (o : Option Prop) → slice_get class.props n ≡ option_map prop_of o
        → if_custom n o ≡ switchable_by class (Some (suc (suc (suc (suc n)))))
    by_item n None e = rw e refl
    by_item n (Some p) e = rw e (by_custom n (is_custom p.cond))

    by_place : (o : Option ℕ) → custom_at props o ≡ switchable_by class (chosen false false false o)
    by_place None = refl
    by_place (Some n) =
        by_item n (slice_get props n) (item_is class props n h)
        ∙ ap (λ k. switchable_by class (Some k)) (sym (four_on n))

    by_tests : (a b c : Bool) (o : Option ℕ)
        → (if a || b || c then Err NoName else custom_at props o) ≡ switchable_by class (chosen a b c o)
    by_tests true b c o = refl
    by_tests false true c o = refl
    by_tests false false true o = refl
    by_tests false false false o = by_place o

-- ---- calls

abbrev called_by : Class → Option ℕ → Result (ℕ × Model.Call) LineWhy
called_by class o =
    ok_or (option_map (λ n. n + 1) o) NoName
    >>= (λ n. ok_or (call_at class n) NoName >>= (λ (call : Model.Call). Ok (n, call)))

pub called_is : (class : Class) (calls : List Call) (name : Text) (count : ℕ) → map call_of calls ≡ class.calls
    → seen_by {A = ℕ × Call} {B = ℕ × Model.Call} (λ r. (r.0, call_of r.1)) (called_in calls name count)
    ≡ called_of class name count
unfolding called_of
called_is class calls name count h =
    by_place (call_place calls name count)
    ∙ ap (called_by class)
    (position_mapped call_of (λ (c : Model.Call). bytes_eq c.name name && length c.args == count) calls
    ∙ ap (position (λ (c : Model.Call). bytes_eq c.name name && length c.args == count)) h)
  where
    by_item : (n : ℕ) (o : Option Call) → slice_get class.calls n ≡ option_map call_of o
        → seen_by {A = ℕ × Call} {B = ℕ × Model.Call} (λ r. (r.0, call_of r.1)) (numbered n o)
        ≡ called_by class (Some n)
    by_item n None e = let f : n + 1 ≡ suc n = omega arith in rw (f, e) refl
    by_item n (Some call) e = let f : n + 1 ≡ suc n = omega arith in rw (f, e) refl

    by_place : (o : Option ℕ)
        → seen_by {A = ℕ × Call} {B = ℕ × Model.Call} (λ r. (r.0, call_of r.1)) (call_at_place calls o)
        ≡ called_by class o
    by_place None = refl
    by_place (Some n) =
        by_item n (slice_get calls n) (ap (λ cs. slice_get cs n) (sym h) ∙ slice_get-map call_of calls n)

-- a call that was found
abbrev of_found : ℕ × Call → ℕ × Model.Call
of_found r = (r.0, call_of r.1)

-- what was lent is what was found
pub lent_call : (r : Result (ℕ × Bor Call) LineWhy) (found : Result (ℕ × Call) LineWhy)
    → seen_by {A = ℕ × Bor Call} {B = ℕ × Call} (λ x. (x.0, x.1.now)) r ≡ found
    → seen_by {A = ℕ × Bor Call} {B = ℕ × Model.Call} (λ x. (x.0, call_of x.1.now)) r
    ≡ seen_by {A = ℕ × Call} {B = ℕ × Model.Call} (λ x. (x.0, call_of x.1)) found
lent_call (Ok x) found h = ap (seen_by of_found) h
lent_call (Err why) found h = ap (seen_by of_found) h

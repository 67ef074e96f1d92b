-- What is read of a kind has its tag, and a class that is found is the one that is kept.
use Rattle.std.proofs.Common.{◌≡◌, ℕ, zero, suc, ◌+◌, ◌-◌, ◌*◌, ◌/◌, List, [], ◌∷◌, ◌++◌, length, get_or, refl, sym, ◌∙◌, ap, subst, arith, Bool, true, false, ◌&&◌, ◌||◌, nat_le, nat_eq, Option, Some, None, cond, Result, Ok, Err, ℤ, pos, negsuc, IfSome, Bor}
use Rattle.std.specs.Prelude.{slice_get, option_map, unwrap_or}
use Rattle.std.specs.Option.{ok_or}
use Rattle.std.proofs.lemmas.Bool.Decides.{nat_tests}
use Rattle.std.proofs.lemmas.List.{length-append}
use Rattle.protocol_model.specs.declared.Kind.{Kind}
use Rattle.protocol_model.specs.declared.Kind.TheVariants.{U8, I32, U32, I64, Packed, Guid, Enum, Bytes}
use Rattle.protocol_model.specs.declared.LineWhy.{LineWhy}
use Rattle.protocol_model.specs.declared.LineWhy.TheVariants.{NoActor, NoName}
use Rattle.protocol_model.specs.Limits.{spawn_limit}
use Rattle.protocol_model.specs.Value.{Class, Prop, Call, prop_at, call_at}
use Rattle.value_codec.specs.Values.{is_of, arg_is_of, args_are_of}
use Rattle.value_codec.specs.declared.value.Value.{Value}
use Rattle.value_codec.specs.declared.args.Arg.{Arg}
use Rattle.world_table.specs.Answers.{has_tag}
use Rattle.script_model.specs.Lines.{Text}
use Rattle.script_model.specs.ScriptRules.{is_from_to, settable_handle, call_named}
use Rattle.script_lines.specs.ToldRight.{kinds_of}
use Rattle.script_reading.specs.Kept.{Kept, Actor, class_if, class_kept}
use Rattle.script_reading.specs.Judging.{actor_of, allowed, settable_of, called_of, ◌>>=◌}
use Rattle.script_reading.specs.ToldBy.{are_args_told}

-- ---- arguments

pub scalar_tag : (kind : Kind) (v : Value) → is_of kind v ≡ true → arg_is_of kind (Arg.Scalar v) ≡ true
scalar_tag Kind.Bool v h = h
scalar_tag U8 v h = h
scalar_tag I32 v h = h
scalar_tag U32 v h = h
scalar_tag I64 v h = h
scalar_tag Packed v h = h
scalar_tag Guid v h = h
scalar_tag (Enum count) v h = h
scalar_tag (Bytes most) v h = h

pub and_on : (t b c : Bool) → (t && b) ≡ true → (b ≡ true → c ≡ true) → (t && c) ≡ true
and_on true b c h on = on h
and_on false b c h on = absurd cc

pub no_more : (kinds : List Kind) → args_are_of kinds [] ≡ true
no_more [] = refl
no_more (k ∷ kinds) = refl

one_more_tag : (kinds : List Kind) (args : List Arg) (a : Arg) (i : ℕ) (d : Kind) → i ≡ length args
    → args_are_of kinds args ≡ true → arg_is_of (get_or kinds i d) a ≡ true → args_are_of kinds (args ++ a ∷ []) ≡ true
one_more_tag [] args a i d at h is = refl
one_more_tag (k ∷ kinds) [] a zero d at h is = rw is (no_more kinds)
one_more_tag (k ∷ kinds) [] a (suc i) d at h is = absurd (omega arith)
one_more_tag (k ∷ kinds) (b ∷ args) a zero d at h is = absurd (omega arith)
one_more_tag (k ∷ kinds) (b ∷ args) a (suc i) d at h is =
    and_on (arg_is_of k b) (args_are_of kinds args) (args_are_of kinds (args ++ a ∷ [])) h
    (λ rest. one_more_tag kinds args a i d (omega arith) rest is)

pub tags_step : (kinds : List Kind) (args after : List Arg) (a : Arg) (i : ℕ) (d : Kind) → i ≡ length args
    → args_are_of kinds args ≡ true → after ≡ args ++ a ∷ [] → arg_is_of (get_or kinds i d) a ≡ true
    → args_are_of kinds after ≡ true
tags_step kinds args after a i d at tags behind is =
    subst (λ l. args_are_of kinds l ≡ true) (sym behind) (one_more_tag kinds args a i d at tags is)

pub one_longer : (args after : List Arg) (a : Arg) (i : ℕ) → after ≡ args ++ a ∷ [] → i ≡ length args
    → i + 1 ≡ length after
one_longer args after a i behind at =
    subst (λ l. i + 1 ≡ length l) (sym behind) (let e = length-append args (a ∷ []) in omega arith)

-- the tag of an argument that was taken
pub tag_taken : (kind : Kind) (o : Option (Arg × Option (Bor (List ℕ)))) (a : Arg × Option (Bor (List ℕ))) → o ≡ Some a
    → IfSome o (λ r. arg_is_of kind r.0 ≡ true) → arg_is_of kind a.0 ≡ true
tag_taken kind o a is tag = subst (λ o. IfSome o (λ r. arg_is_of kind r.0 ≡ true)) is tag

-- ---- an actor

-- what is found of a name
abbrev found : {A : Type 0} → ℕ → A → Result (ℕ × A) LineWhy
found n a = Ok (n, a)

abbrev number_in : {A : Type 0} → ℕ → Result (ℕ × A) LineWhy → ℕ
number_in d (Ok x) = x.0
number_in d (Err why) = d

abbrev thing_in : {A : Type 0} → A → Result (ℕ × A) LineWhy → A
thing_in d (Ok x) = x.1
thing_in d (Err why) = d

same_found : {A : Type 0} (n m : ℕ) (a b : A) → found n a ≡ found m b → (m ≡ n) × (b ≡ a)
same_found n m a b h = (sym (ap (number_in n) h), sym (ap (thing_in a) h))

class_found : (destroyed : Bool) (n : ℕ) (o : Option Actor) (g : ℕ) (class : Class)
    → found g class ≡ allowed destroyed (option_map (λ (a : Actor). (n, a)) o) → (n ≡ g) × (class_if o ≡ class)
class_found destroyed n None g class h = absurd cc
class_found destroyed n (Some a) g class h = by_alive (destroyed || a.alive) h
  where
    by_alive : (t : Bool) → found g class ≡ cond t (Ok (n, a.class)) (Err NoActor) → (n ≡ g) × (a.class ≡ class)
    by_alive true h = same_found g n class a.class h
    by_alive false h = absurd cc

-- an actor that may be named has the class that is kept
pub class_known : (kept : Kept) (destroyed : Bool) (z : ℤ) (g : ℕ) (class : Class)
    → found g class ≡ actor_of kept destroyed z → class_kept kept g ≡ class
unfolding actor_of
class_known kept destroyed (negsuc n) g class h = absurd cc
class_known kept destroyed (pos zero) g class h = absurd cc
class_known kept destroyed (pos (suc n)) g class h = by_test (is_from_to 1 spawn_limit (pos (suc n))) h
  where
    here : suc n - 1 ≡ n
    here = omega arith

    guid : (nat_le 2 (2 * suc n) && nat_eq (2 * suc n) (2 * (2 * suc n / 2))) ≡ true
    guid = grind (arith, nat_tests)

    half : 2 * suc n / 2 - 1 ≡ n
    half = omega arith

    by_test : (t : Bool)
        → found g class ≡ allowed destroyed
        (cond t (option_map (λ (a : Actor). (2 * suc n, a)) (slice_get kept.actors (suc n - 1))) None)
        → class_kept kept g ≡ class
    by_test false h = absurd cc
    by_test true h =
        let same = class_found destroyed (2 * suc n) (slice_get kept.actors (suc n - 1)) g class h in
        subst (λ g. class_kept kept g ≡ class) same.0
        (rw guid (ap (λ m. class_if (slice_get kept.actors m)) (half ∙ sym here) ∙ same.1))

-- ---- a property and a call

-- what a handle that was looked for comes to
abbrev settable_at : Class → Option ℕ → Result (ℕ × Kind) LineWhy
settable_at class o =
    ok_or o NoName >>= (λ h. ok_or (prop_at class h) NoName >>= (λ (p : Prop). Ok (h, p.kind)))

-- and a call's number
abbrev called_at : Class → Option ℕ → Result (ℕ × Call) LineWhy
called_at class o =
    ok_or o NoName >>= (λ n. ok_or (call_at class n) NoName >>= (λ (call : Call). Ok (n, call)))

settable_tag : (class : Class) (name : Text) (h : ℕ) (kind : Kind) (v : Value) → found h kind ≡ settable_of class name
    → is_of kind v ≡ true → has_tag class h v ≡ true
unfolding settable_of
settable_tag class name h kind v is tag = by_handle (settable_handle class name) is
  where
    by_prop : (n : ℕ) (o : Option Prop) → prop_at class n ≡ o
        → found h kind ≡ (ok_or o NoName >>= (λ (p : Prop). Ok (n, p.kind))) → has_tag class h v ≡ true
    by_prop n None e is = absurd cc
    by_prop n (Some p) e is =
        let same = same_found h n kind p.kind is in
        subst (λ m. has_tag class m v ≡ true) same.0
        (ap (λ o. unwrap_or (option_map (λ (p : Prop). is_of p.kind v) o) true) e ∙ ap (λ k. is_of k v) same.1 ∙ tag)

    by_handle : (o : Option ℕ) → found h kind ≡ settable_at class o → has_tag class h v ≡ true
    by_handle None is = absurd cc
    by_handle (Some n) is = by_prop n (prop_at class n) refl is

called_kinds : (class : Class) (name : Text) (count n : ℕ) (call : Call) → found n call ≡ called_of class name count
    → kinds_of class n ≡ call.args
unfolding called_of
called_kinds class name count n call is = by_number (call_named class name count) is
  where
    by_call : (m : ℕ) (o : Option Call) → call_at class m ≡ o
        → found n call ≡ (ok_or o NoName >>= (λ (call : Call). Ok (m, call)))
        → kinds_of class n ≡ call.args
    by_call m None e is = absurd cc
    by_call m (Some c) e is =
        let same = same_found n m call c is in
        subst (λ k. kinds_of class k ≡ call.args) same.0
        (ap (λ o. unwrap_or (option_map (λ (c : Call). c.args) o) []) e ∙ ap (λ (c : Call). c.args) same.1)

    by_number : (o : Option ℕ) → found n call ≡ called_at class o → kinds_of class n ≡ call.args
    by_number None is = absurd cc
    by_number (Some m) is = by_call m (call_at class m) refl is

-- ---- lines

pub set_told : (kept : Kept) (z : ℤ) (actor : ℕ) (class : Class) (name : Text) (h : ℕ) (kind : Kind) (v : Value)
    → found actor class ≡ actor_of kept false z → found h kind ≡ settable_of class name → is_of kind v ≡ true
    → has_tag (class_kept kept actor) h v ≡ true
set_told kept z actor class name h kind v there named tag =
    subst (λ c. has_tag c h v ≡ true) (sym (class_known kept false z actor class there))
    (settable_tag class name h kind v named tag)

pub call_told : (kept : Kept) (destroyed : Bool) (z : ℤ) (actor : ℕ) (class : Class) (name : Text) (count n : ℕ)
    (call : Call) (args : List Arg)
    → found actor class ≡ actor_of kept destroyed z → found n call ≡ called_of class name count
    → args_are_of call.args args ≡ true → are_args_told kept actor n args ≡ true
call_told kept destroyed z actor class name count n call args there named tags =
    ap (λ c. args_are_of (kinds_of c n) args) (class_known kept destroyed z actor class there)
    ∙ ap (λ kinds. args_are_of kinds args) (called_kinds class name count n call named) ∙ tags

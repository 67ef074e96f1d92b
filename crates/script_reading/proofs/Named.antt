-- Names that are found have their property or call.
use Rattle.std.proofs.Common.{◌≡◌, ℕ, zero, suc, ◌+◌, List, [], ◌∷◌, length, refl, ◌∙◌, subst, arith, Bool, true, false, not, ◌&&◌, ◌==◌, nat_lt, ◌<◌, Option, Some, None, option_map, option_and_then, cond}
use Rattle.std.specs.Prelude.{slice_get, position}
use Rattle.std.specs.List.{position_or_len}
use Rattle.std.specs.Bool.{then_some}
use Rattle.std.proofs.lemmas.Bool.Decides.{nat_tests}
use Rattle.std.specs.Str.{bytes_eq}
use Rattle.std.proofs.lemmas.Option.{same_Some}
use Rattle.protocol_model.specs.Value.{Class, Prop, Call, prop_at, call_at, props_of}
use Rattle.script_model.specs.Lines.{Text}
use Rattle.script_model.specs.ScriptRules.{handle_named, settable_handle, call_named}

-- an item at a place
abbrev pub Is_there : {A : Type 0} → Option A → Type 0
Is_there {A} o = (x : A) × (o ≡ Some x)

-- a place within a list has its item
there : {A : Type 0} (xs : List A) (n : ℕ) → n < length xs → Is_there (slice_get xs n)
there [] n h = absurd (omega arith)
there (x ∷ xs) zero h = (x, refl)
there (x ∷ xs) (suc n) h = there xs n (omega arith)

-- and so has one that is found
pub placed : {A : Type 0} (test : A → Bool) (xs : List A) (n : ℕ) → position test xs ≡ Some n
    → Is_there (slice_get xs n)
placed test xs n h = by_test (nat_lt (position_or_len test xs) (length xs)) refl h
  where
    by_test : (t : Bool) → nat_lt (position_or_len test xs) (length xs) ≡ t
        → cond t (Some (position_or_len test xs)) None ≡ Some n → Is_there (slice_get xs n)
    by_test false e h = absurd cc
    by_test true e h =
        let k : position_or_len test xs ≡ n = same_Some (position_or_len test xs) n h in
        there xs n (grind (arith, nat_tests))

-- the handle of a name has its property
handle_there : (class : Class) (name : Text) (h : ℕ) → handle_named class name ≡ Some h → Is_there (prop_at class h)
handle_there class name h is = by_place (position (λ (p : Prop). bytes_eq p.name name) (props_of class)) refl is
  where
    by_place : (o : Option ℕ) → position (λ (p : Prop). bytes_eq p.name name) (props_of class) ≡ o
        → option_map (λ n. n + 1) o ≡ Some h → Is_there (prop_at class h)
    by_place None e is = absurd cc
    by_place (Some m) e is =
        let k : suc m ≡ h = (let f : suc m ≡ m + 1 = omega arith in f ∙ same_Some (m + 1) h is) in
        subst (λ n. Is_there (prop_at class n)) k (placed (λ (p : Prop). bytes_eq p.name name) (props_of class) m e)

pub settable_there : (class : Class) (name : Text) (h : ℕ) → settable_handle class name ≡ Some h
    → Is_there (prop_at class h)
settable_there class name h is = by_handle (handle_named class name) refl is
  where
    by_handle : (o : Option ℕ) → handle_named class name ≡ o
        → option_and_then (λ k. then_some (not (k == 3)) k) o ≡ Some h → Is_there (prop_at class h)
    by_handle None e is = absurd cc
    by_handle (Some k) e is = by_test (k == 3) is
      where
        by_test : (t : Bool) → then_some (not t) k ≡ Some h → Is_there (prop_at class h)
        by_test true is = absurd cc
        by_test false is = subst (λ n. Is_there (prop_at class n)) (same_Some k h is) (handle_there class name k e)

-- and the number of a call has its call
pub call_there : (class : Class) (name : Text) (count n : ℕ) → call_named class name count ≡ Some n
    → Is_there (call_at class n)
call_there class name count n is =
    by_place (position (λ (call : Call). bytes_eq call.name name && length call.args == count) class.calls) refl is
  where
    by_place : (o : Option ℕ)
        → position (λ (call : Call). bytes_eq call.name name && length call.args == count) class.calls ≡ o
        → option_map (λ n. n + 1) o ≡ Some n → Is_there (call_at class n)
    by_place None e is = absurd cc
    by_place (Some m) e is =
        let k : suc m ≡ n = (let f : suc m ≡ m + 1 = omega arith in f ∙ same_Some (m + 1) n is) in
        subst (λ n. Is_there (call_at class n)) k
        (placed (λ (call : Call). bytes_eq call.name name && length call.args == count) class.calls m e)

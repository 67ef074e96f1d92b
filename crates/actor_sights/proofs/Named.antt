-- An actor that was spawned has a value for each handle of a sample.
use Rattle.std.proofs.Common.{◌≡◌, ◌≢◌, ℕ, zero, suc, ◌+◌, ◌<◌, List, ◌∷◌, ◌++◌, [], length, true, false, ◌&&◌, Option, Some, None, refl, sym, ap, ◌∙◌, subst, arith}
use Rattle.std.proofs.lemmas.Bool.Decides.{nat_tests}
use Rattle.std.specs.Prelude.{◌==◌, nat_lt, is_some, ℤ, pos, map, option_map, unwrap_or}
use Rattle.std.specs.Bool.{then_some}
use Rattle.std.proofs.lemmas.Option.{none-some}
use Rattle.protocol_model.specs.declared.Kind.{Kind}
use Rattle.protocol_model.specs.declared.Cond.{Cond}
use Rattle.std.specs.List.{range_with_len}
use Rattle.std.proofs.lemmas.Option.{slice_get-get_or}
use Rattle.std.proofs.lemmas.List.{map-append}
use Rattle.std.proofs.lemmas.List.FromFn.{map-range_with_len_more}
use Rattle.protocol_model.specs.Value.{Table, Class, Prop}
use Rattle.protocol_model.specs.World.{Edits, Spawned, spawn_of, class_of, value_of}
use Rattle.change_model.specs.Changes.{handle_of}
use Rattle.value_codec.specs.Values.{whole_of}
use Rattle.value_codec.specs.declared.value.Value.{Value}
use Rattle.world_table.specs.Answers.{settable_at, named_value}

any_prop : Prop
any_prop = record { name = []; kind = Kind.Bool; cond = Cond.Always; init = pos 0 }

settable_is : (class : Class) (i : ℕ) → i < length class.props + 2 → is_some (settable_at class (handle_of i)) ≡ true
settable_is class zero h = refl
settable_is class (suc zero) h = refl
settable_is class (suc (suc i)) h =
    subst (λ (n : ℕ). is_some (settable_at class n) ≡ true) (sym (own_handle i))
    (rw (not_role i) (ap is_some (slice_get-get_or class.props i any_prop (omega (h, arith)))))
  where
    own_handle : (i : ℕ) → handle_of (suc (suc i)) ≡ suc (suc (suc (suc i)))
    own_handle i = let x : nat_lt (suc (suc i)) 2 ≡ false = grind (arith, nat_tests) in rw x (omega arith)

    not_role : (i : ℕ) → (suc (suc (suc (suc i))) == 3) ≡ false
    not_role i = grind (arith, nat_tests)

pub named : (table : Table) (edits : Edits) (a i : ℕ) → spawn_of edits a ≢ None
    → i < length (class_of table edits a).props + 2
    → named_value table edits a (handle_of i) ≡ Some (value_of table edits a (handle_of i))
named table edits a i spawned h = by (spawn_of edits a) spawned (settable_is (class_of table edits a) i h)
  where
    by : (s : Option Spawned) → s ≢ None → is_some (settable_at (class_of table edits a) (handle_of i)) ≡ true
        → then_some (is_some s && is_some (settable_at (class_of table edits a) (handle_of i)))
        (value_of table edits a (handle_of i))
        ≡ Some (value_of table edits a (handle_of i))
    by None n e = absurd (n refl)
    by (Some s) n e = rw e refl

-- one value more
pub sampled_more : (table : Table) (edits : Edits) (a i : ℕ) (values later : List Value) (v : Value)
    → later ≡ values ++ v ∷ []
    → spawn_of edits a ≢ None
    → i < length (class_of table edits a).props + 2 → option_map whole_of (Some v) ≡ named_value table edits a
    (handle_of i)
    → map whole_of values ≡ map (λ k. value_of table edits a (handle_of k)) (range_with_len 0 i)
    → map whole_of later ≡ map (λ k. value_of table edits a (handle_of k)) (range_with_len 0 (i + 1))
sampled_more table edits a i values later v is spawned h got before =
    let f : ℕ → ℤ = λ k. value_of table edits a (handle_of k) in
    ap (map whole_of) is ∙ map-append whole_of values (v ∷ []) ∙ ap (λ (xs : List ℤ). xs ++ whole_of v ∷ []) before
    ∙ ap (λ (z : ℤ). map f (range_with_len 0 i) ++ z ∷ []) (some_is (got ∙ named table edits a i spawned h))
    ∙ sym (map-range_with_len_more f 0 i i (omega arith))
  where
    some_is : {x y : ℤ} → Some x ≡ Some y → x ≡ y
    some_is h = ap (λ o. unwrap_or o (pos 0)) h

-- and there is one
pub never_none : (table : Table) (edits : Edits) (a i : ℕ) → spawn_of edits a ≢ None
    → i < length (class_of table edits a).props + 2 → option_map whole_of None ≡ named_value table edits a
    (handle_of i) → ⊥
never_none table edits a i spawned h got = none-some (value_of table edits a (handle_of i)) (got
    ∙ named table edits a i spawned h)

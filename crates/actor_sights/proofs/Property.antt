-- One property of an actor's class, and whether the player sees it.
use Rattle.std.proofs.Common.{◌≡◌, ℕ, ◌+◌, ◌-◌, ◌<◌, List, ◌∷◌, ◌++◌, [], length, get_or, map, Bool, true, false, ◌&&◌, Option, Some, refl, sym, ap, ◌∙◌, subst, arith, suc}
use Rattle.std.specs.Prelude.{ℤ, pos, nat_lt, ◌==◌, option_map, unwrap_or, slice_get}
use Rattle.std.proofs.lemmas.Bool.Decides.{nat_tests}
use Rattle.std.proofs.lemmas.Option.{slice_get_within, slice_get-map, get_or_from_slice_get}
use Rattle.std.proofs.lemmas.List.{append-nil, map-append, length-map}
use Rattle.std.proofs.lemmas.List.FromFn.{get_or-map-range_with_len, length-map-range_with_len}
use Rattle.protocol_model.specs.Cond.{visible}
use Rattle.protocol_model.specs.declared.Cond.{Cond}
use Rattle.protocol_model.specs.Value.{Table, Class, Prop, Pair, prop_at, props_of, handle_count}
use Rattle.protocol_model.specs.World.{Edits, class_of, owns, is_on, is_custom, value_of}
use Rattle.change_model.specs.Changes.{handle_of}
use Rattle.value_codec.specs.Values.{whole_of}
use Rattle.value_codec.specs.declared.value.Value.{Value}
use Rattle.value_codec.specs.declared.pair.Pair.{Pair as PairValue}
use Rattle.world_table.specs.Answers.{is_switched}
use Rattle.sender_records.specs.Handles.{pair_value, pairs_of}
use Rattle.actor_sights.specs.Sampled.{values_of}
use Rattle.actor_sights.specs.Visible.{visible_among}

-- a custom property alone asks its switch
asked_alone : (cond : Cond) (own on : Bool) → visible cond own (is_custom cond && on) ≡ visible cond own on
asked_alone Cond.Always own on = refl
asked_alone Cond.InitialOnly own on = refl
asked_alone Cond.OwnerOnly own on = refl
asked_alone Cond.SkipOwner own on = refl
asked_alone Cond.InitialOrOwner own on = refl
asked_alone Cond.Custom own on = refl

pub seen_as : (table : Table) (edits : Edits) (a h : ℕ) (own : Bool) (p : Prop)
    → prop_at (class_of table edits a) h ≡ Some p
    → visible p.cond own (is_switched table edits a h) ≡ visible p.cond own (is_on edits a h)
seen_as table edits a h own p at =
    ap (λ (o : Option Prop). visible p.cond own (unwrap_or (option_map (λ (q : Prop). is_custom q.cond) o) false &&
    is_on edits a h)) at
    ∙ asked_alone p.cond own (is_on edits a h)

pub unseen_none : (table : Table) (edits : Edits) (player a h : ℕ) (p : Prop)
    → visible p.cond (owns edits player a) (is_on edits a h) ≡ false
    → visible_among table edits player a ((h, p) ∷ []) ≡ []
unseen_none table edits player a h p e = rw e refl

pub seen_one : (table : Table) (edits : Edits) (player a h : ℕ) (p : Prop) → (h == 3) ≡ false
    → visible p.cond (owns edits player a) (is_on edits a h) ≡ true
    → visible_among table edits player a ((h, p) ∷ []) ≡ record { handle = h; value = value_of table edits a h } ∷ []
seen_one table edits player a h p role e = rw (e, role) refl

pub prop_within : (class : Class) (i : ℕ) (p : Prop) → prop_at class (i + 4) ≡ Some p → i + 3 < handle_count class
prop_within class i p at =
    slice_get_within (props_of class) (i + 3) p (subst (λ (n : ℕ). prop_at class n ≡ Some p) (next i) at)
  where
    next : (i : ℕ) → i + 4 ≡ suc (i + 3)
    next i = omega arith

pub own_place : (i : ℕ) → handle_of (i + 2) ≡ i + 4
own_place i = let x : nat_lt (i + 2) 2 ≡ false = grind (arith, nat_tests) in rw x (omega arith)

not_role : (i : ℕ) → (i + 4 == 3) ≡ false
not_role i = grind (arith, nat_tests)

pub counted : (table : Table) (edits : Edits) (a : ℕ) (values : List Value)
    → map whole_of values ≡ values_of table edits a → length values ≡ handle_count (class_of table edits a) - 1
counted table edits a values e =
    sym (length-map values whole_of) ∙ ap (λ (zs : List ℤ). length zs) e
    ∙ length-map-range_with_len (λ k. value_of table edits a (handle_of k)) 0
    (handle_count (class_of table edits a) - 1)

pub has_value : (table : Table) (edits : Edits) (a i : ℕ) (p : Prop) (values : List Value)
    → map whole_of values ≡ values_of table edits a
    → prop_at (class_of table edits a) (i + 4) ≡ Some p → i + 2 < length values
has_value table edits a i p values e at =
    let l = counted table edits a values e in
    let w = prop_within (class_of table edits a) i p at in
    omega (arith, l, w)

value_there : (table : Table) (edits : Edits) (a i : ℕ) (p : Prop) (values : List Value) (v : Value)
    → map whole_of values ≡ values_of table edits a → prop_at (class_of table edits a) (i + 4) ≡ Some p
    → slice_get values (i + 2) ≡ Some v → whole_of v ≡ value_of table edits a (i + 4)
value_there table edits a i p values v e at there =
    let f : ℕ → ℤ = λ k. value_of table edits a (handle_of k) in
    let n : ℕ = handle_count (class_of table edits a) - 1 in
    let w = prop_within (class_of table edits a) i p at in
    sym (get_or_from_slice_get (map whole_of values) (i + 2) (whole_of v) (pos 0)
    (slice_get-map whole_of values (i + 2) ∙ ap (option_map whole_of) there))
    ∙ ap (λ (zs : List ℤ). get_or zs (i + 2) (pos 0)) e
    ∙ get_or-map-range_with_len f 0 n (i + 2) (i + 2) (pos 0) (omega (arith, w)) (omega arith)
    ∙ ap (value_of table edits a) (own_place i)

-- a property that is seen goes with its value
pub pushed : (table : Table) (edits : Edits) (player a i : ℕ) (p : Prop) (cond : Cond) (own : Bool) (on : Bool)
    (pairs later : List PairValue) (values : List Value) (v : Value)
    → own ≡ owns edits player a → prop_at (class_of table edits a) (i + 4) ≡ Some p → cond ≡ p.cond
    → on ≡ is_switched table edits a (i + 4)
    → visible cond own on ≡ true → map whole_of values ≡ values_of table edits a → slice_get values (i + 2) ≡ Some v
    → later ≡ pairs ++ record { prop = i + 4; value = v } ∷ []
    → pairs_of later ≡ pairs_of pairs ++ visible_among table edits player a ((i + 4, p) ∷ [])
pushed table edits player a i p cond own on pairs later values v mine at is switch seen e there grown =
    ap pairs_of grown ∙ map-append pair_value pairs _
    ∙ ap (λ (z : ℤ). pairs_of pairs ++ record { handle = i + 4; value = z } ∷ [])
    (value_there table edits a i p values v e at there)
    ∙ ap (λ (more : List Pair). pairs_of pairs ++ more)
    (sym (seen_one table edits player a (i + 4) p (not_role i)
    (sym (seen_as table edits a (i + 4) (owns edits player a) p at) ∙ rw (sym mine, sym is, sym switch) seen)))

-- one that isn't seen doesn't go
pub unseen : (table : Table) (edits : Edits) (player a i : ℕ) (p : Prop) (cond : Cond) (own : Bool) (on : Bool)
    (pairs : List PairValue)
    → own ≡ owns edits player a → prop_at (class_of table edits a) (i + 4) ≡ Some p → cond ≡ p.cond
    → on ≡ is_switched table edits a (i + 4)
    → visible cond own on ≡ false
    → pairs_of pairs ≡ pairs_of pairs ++ visible_among table edits player a ((i + 4, p) ∷ [])
unseen table edits player a i p cond own on pairs mine at is switch seen =
    sym (append-nil (pairs_of pairs)) ∙ ap (λ (more : List Pair). pairs_of pairs ++ more)
    (sym (unseen_none table edits player a (i + 4) p
    (sym (seen_as table edits a (i + 4) (owns edits player a) p at) ∙ rw (sym mine, sym is, sym switch) seen)))

-- the i-th own property has the handle behind the built-in ones
pub own_at : (class : Class) (i : ℕ) (p : Prop) → slice_get class.props i ≡ Some p → prop_at class (i + 4) ≡ Some p
own_at class i p there = subst (λ (n : ℕ). prop_at class n ≡ Some p) (next i) there
  where
    next : (i : ℕ) → suc (suc (suc (suc i))) ≡ i + 4
    next i = omega arith

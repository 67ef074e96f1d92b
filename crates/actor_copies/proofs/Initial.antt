-- The values with which a copy of a class begins.
use Rattle.std.proofs.Common.{◌≡◌, ℕ, ℤ, pos, zero, suc, ◌+◌, ◌≤◌, List, [], ◌∷◌, ◌++◌, map, length, drop, Option, Some, unwrap_or, option_map, append_assoc, append-nil, refl, sym, ap, ◌∙◌, arith}
use Rattle.std.specs.Prelude.{slice_get}
use Rattle.std.proofs.lemmas.List.{map-append}
use Rattle.protocol_model.specs.Value as Model
use Rattle.class_layout.specs.Tables.{class_of}
use Rattle.class_members.specs.Members.{prop_of}
use Rattle.value_codec.specs.Values.{whole_of}
use Rattle.class_layout.specs.declared.class.Class.{Class}
use Rattle.class_members.specs.declared.members.Prop.{Prop}
use Rattle.value_codec.specs.declared.pair.Pair.{Pair}
use Rattle.class_layout.specs.declared.class.Segment.{Segment}
use Rattle.payload_reading.specs.Values.{pair_value, pair_values}
use Rattle.actor_copies.specs.Kept.{IsNumbered}
use Rattle.actor_copies.specs.Copies.{initial_values}

-- the initial values of properties, from this handle on
abbrev pub inits : (handle : ℕ) → List Prop → List Model.Pair
inits h [] = []
inits h (p ∷ props) = record { handle = h; value = whole_of p.init } ∷ inits (h + 1) props

abbrev model_inits : (handle : ℕ) → List Model.Prop → List Model.Pair
model_inits h [] = []
model_inits h (p ∷ props) = record { handle = h; value = p.init } ∷ model_inits (h + 1) props

-- x, y and role begin with 0
abbrev pub three : List Model.Pair
three = record { handle = 1; value = pos 0 } ∷ record { handle = 2; value = pos 0 } ∷ record {
  handle = 3;
  value =
      pos 0;
} ∷ []

joined : (a b : Model.Pair) (xs ys : List Model.Pair) → a ≡ b → xs ≡ ys → a ∷ xs ≡ b ∷ ys
joined a b xs ys e f = cc

by_handle : (f : ℕ → ℤ) (h : ℕ) (props : List Model.Prop)
    → ((i : ℕ) (p : Model.Prop) → slice_get props i ≡ Some p → f (h + i) ≡ p.init)
    → map (λ (entry : ℕ × Model.Prop). record { handle = entry.0; value = f entry.0 })
    (Model.numbered_from h props) ≡ model_inits h props
by_handle f h [] each = refl
by_handle f h (p ∷ props) each =
    let zero_is : h + 0 ≡ h = omega arith in
    joined (record { handle = h; value = f h }) (record { handle = h; value = p.init }) _ (model_inits (h + 1) props)
    (ap (λ (v : ℤ). record { handle = h; value = v }) (ap f (sym zero_is) ∙ each zero p refl))
    (by_handle f (h + 1) props (λ i q e. (let next : h + 1 + i ≡ h + suc i = omega arith in
    ap f next ∙ each (suc i) q e)))

at_handle : (class : Model.Class) (i : ℕ) (p : Model.Prop) → slice_get (Model.props_of class) i ≡ Some p
    → Model.initial_value class (1 + i) ≡ p.init
at_handle class i p e =
    let next : 1 + i ≡ suc i = omega arith in
    ap (Model.initial_value class) next ∙ ap (λ (o : Option Model.Prop). unwrap_or
    (option_map (λ (p : Model.Prop). p.init) o) (pos 0)) e

inits_same : (h : ℕ) (props : List Prop) → model_inits h (map prop_of props) ≡ inits h props
inits_same h [] = refl
inits_same h (p ∷ props) = ap (λ (l : List Model.Pair). record { handle = h; value = whole_of p.init } ∷ l)
    (inits_same (h + 1) props)

pub initial_is : (segments : List Segment) (c : Class)
    → initial_values (class_of segments c) ≡ three ++ inits 4 c.props
initial_is segments c =
    by_handle (Model.initial_value (class_of segments c)) 1 (Model.props_of (class_of segments c))
    (at_handle (class_of segments c))
    ∙ ap (λ (l : List Model.Pair). three ++ l) (inits_same 4 c.props)

-- the values put by now, and the others behind them
pub record InitsSoFar (list : List Pair) (props : List Prop) (handle index : ℕ) : Type 0 where
  pub so_far : pair_values list ++ inits handle (drop index props) ≡ three ++ inits 4 props
  pub stands : handle ≡ 4 + index

front : (xs : List Model.Pair) (a : Model.Pair) (ys : List Model.Pair) → (xs ++ a ∷ []) ++ ys ≡ xs ++ (a ∷ ys)
front xs a ys = append_assoc xs (a ∷ []) ys

drop_next : (props : List Prop) (i : ℕ) (p : Prop) → slice_get props i ≡ Some p
    → drop i props ≡ p ∷ drop (suc i) props
drop_next [] i p e = absurd (cc)
drop_next (q ∷ props) zero p e = let same : q ≡ p = cc in ap (λ (x : Prop). x ∷ props) same
drop_next (q ∷ props) (suc i) p e = drop_next props i p e

pub inits_step : (list : List Pair) (props : List Prop) (h i : ℕ) (p : Prop) → InitsSoFar list props h i
    → slice_get props i ≡ Some p → InitsSoFar (list ++ record { prop = h; value = p.init } ∷ []) props (h + 1) (i + 1)
inits_step list props h i p s e =
    let at = s.stands in
    let next : i + 1 ≡ suc i = omega arith in
    record {
      so_far =
          ap (λ (l : List Model.Pair). l ++ inits (h + 1) (drop (i + 1) props))
          (map-append pair_value list (record { prop = h; value = p.init } ∷ []))
          ∙ front (pair_values list) (record { handle = h; value = whole_of p.init })
          (inits (h + 1) (drop (i + 1) props))
          ∙ ap (λ (n : ℕ). pair_values list ++
          (record { handle = h; value = whole_of p.init } ∷ inits (h + 1) (drop n props))) next
          ∙ ap (λ (l : List Prop). pair_values list ++ inits h l) (sym (drop_next props i p e))
          ∙ s.so_far;
      stands = omega (arith, at);
    }

drop_all : (props : List Prop) (i : ℕ) → length props ≤ i → drop i props ≡ []
drop_all [] zero l = refl
drop_all [] (suc i) l = refl
drop_all (p ∷ props) zero l = absurd (omega (arith, l))
drop_all (p ∷ props) (suc i) l = drop_all props i (omega (arith, l))

pub inits_done : (segments : List Segment) (c : Class) (list : List Pair) (h i : ℕ) → InitsSoFar list c.props h i
    → length c.props ≤ i → pair_values list ≡ initial_values (class_of segments c)
inits_done segments c list h i s l =
    sym (append-nil (pair_values list)) ∙ ap (λ (props : List Prop). pair_values list ++ inits h props)
    (sym (drop_all c.props i l)) ∙ s.so_far ∙ sym (initial_is segments c)

-- values by handle stand by handle
handles_numbered : (f : ℕ → ℤ) (h : ℕ) (props : List Model.Prop) (list : List Pair)
    → pair_values list ≡ map (λ (entry : ℕ × Model.Prop). record { handle = entry.0; value = f entry.0 })
    (Model.numbered_from h props) → IsNumbered h list
handles_numbered f h [] [] e = tt
handles_numbered f h [] (p ∷ list) e = absurd (cc)
handles_numbered f h (q ∷ props) [] e = absurd (cc)
handles_numbered f h (q ∷ props) (p ∷ list) e =
    let first : ◌≡◌ {A = Model.Pair} (pair_value p) (record { handle = h; value = f h }) = cc in
    let rest : pair_values list ≡ map (λ (entry : ℕ × Model.Prop). record { handle = entry.0; value = f entry.0 })
    (Model.numbered_from (h + 1) props) = cc in
    (ap (λ (p : Model.Pair). p.handle) first, handles_numbered f (h + 1) props list rest)

pub values_numbered : (c : Class) (list : List Pair) → pair_values list ≡ initial_values (class_of [] c)
    → IsNumbered 1 list
values_numbered c list e = handles_numbered (Model.initial_value (class_of [] c)) 1
    (Model.props_of (class_of [] c)) list e

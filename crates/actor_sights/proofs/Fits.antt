-- Values that can be written: each is one of its handle's kind.
use Rattle.std.proofs.Common.{◌≡◌, ℕ, zero, suc, ◌+◌, List, ◌∷◌, ◌++◌, [], length, map, Bool, true, Option, Some, refl, sym, ap, ◌∙◌, subst, arith}
use Rattle.std.specs.Prelude.{slice_get, option_map, unwrap_or, IsTrue, ◌&&◌}
use Rattle.std.specs.List.{list_all}
use Rattle.std.proofs.lemmas.Bool.{and_parts, and_from}
use Rattle.std.proofs.lemmas.Option.{same_Some, none-some}
use Rattle.std.proofs.lemmas.List.{length-map}
use Rattle.std.proofs.lemmas.List.FromFn.{length-map-range_with_len}
use Rattle.protocol_model.specs.declared.Kind.{Kind}
use Rattle.protocol_model.specs.Payload.{kind_at}
use Rattle.protocol_model.specs.Value.{Class, Prop, prop_at}
use Rattle.change_model.specs.Changes.{handle_of}
use Rattle.value_codec.specs.Values.{value_fits, whole_of}
use Rattle.value_codec.specs.declared.pair.Pair.{Pair}
use Rattle.value_codec.specs.declared.value.Value.{Value}
use Rattle.payload_writing.specs.Values.{pair_fits, pairs_fit}
use Rattle.actor_sights.specs.Sampled.{AreOf}
use Rattle.actor_sights.proofs.Property.{own_place}

-- the i-th value is one of the kind of the i-th of these handles
abbrev AreBy : Class → (ℕ → ℕ) → List Value → Type 0
AreBy class g values = (i : ℕ) (p : Prop) (v : Value) → slice_get values i ≡ Some v → prop_at class (g i) ≡ Some p
    → IsTrue (value_fits p.kind v)

by_more : (class : Class) (g : ℕ → ℕ) (values : List Value) (v : Value) → AreBy class g values
    → ((p : Prop) → prop_at class (g (length values)) ≡ Some p → IsTrue (value_fits p.kind v))
    → AreBy class g (values ++ v ∷ [])
by_more class g [] v h new zero p x e at =
    subst (λ (y : Value). IsTrue (value_fits p.kind y)) (same_Some v x e) (new p at)
by_more class g [] v h new (suc i) p x e at = absurd (none-some x e)
by_more class g (y ∷ ys) v h new zero p x e at = h zero p x e at
by_more class g (y ∷ ys) v h new (suc i) p x e at =
    by_more class (λ i. g (suc i)) ys v (λ i p x e at. h (suc i) p x e at) new i p x e at

-- one value more
pub of_more : (class : Class) (values later : List Value) (v : Value) → later ≡ values ++ v ∷ []
    → AreOf class values
    → ((p : Prop) → prop_at class (handle_of (length values)) ≡ Some p → IsTrue (value_fits p.kind v))
    → AreOf class later
of_more class values later v is h new =
    subst (AreOf class) (sym is) (by_more class handle_of values v h new)

-- ---- pairs

pub fit_more : (class : Class) (pairs : List Pair) (p : Pair) → IsTrue (pairs_fit class pairs)
    → IsTrue (pair_fits class p) → IsTrue (pairs_fit class (pairs ++ p ∷ []))
fit_more class [] p h q = and_from (pair_fits class p) true q refl
fit_more class (x ∷ pairs) p h q =
    let b = and_parts (pair_fits class x) (pairs_fit class pairs) h in
    and_from (pair_fits class x) (pairs_fit class (pairs ++ p ∷ [])) b.0 (fit_more class pairs p b.1 q)

-- an own property with its value
pub own_fits : (class : Class) (i : ℕ) (p : Prop) (values : List Value) (v : Value)
    → prop_at class (i + 4) ≡ Some p → AreOf class values → slice_get values (i + 2) ≡ Some v
    → IsTrue (pair_fits class (record { prop = i + 4; value = v }))
own_fits class i p values v at h there =
    subst (λ (o : Option Prop). IsTrue (value_fits (unwrap_or (option_map (λ (p : Prop). p.kind) o) Kind.Bool) v))
    (sym at)
    (h (i + 2) p v there (ap (prop_at class) (own_place i) ∙ at))

-- The cells that a record has.
use Rattle.std.proofs.Common.{◌≡◌, ℕ, zero, suc, ◌+◌, ◌-◌, ◌≤◌, List, [], ◌∷◌, length, true, false, ◌&&◌, nat_le, nat_lt, Option, Some, None, option_map, refl, arith}
use Rattle.std.specs.Prelude.{slice_get}
use Rattle.std.specs.Bool.{then_some}
use Rattle.std.proofs.lemmas.Bool.Decides.{nat_tests}
use Rattle.std.proofs.lemmas.Option.{slice_get_within}
use Rattle.protocol_model.specs.Value.{Prop}
use Rattle.world_table.specs.declared.actor.Actor.{Actor}
use Rattle.world_table.specs.Kept.{place_in}

pub past_none : {A : Type 0} (xs : List A) (k : ℕ) → slice_get xs k ≡ None → length xs ≤ k
past_none [] k h = omega arith
past_none (x ∷ xs) zero h = absurd (cc)
past_none (x ∷ xs) (suc k) h = let rest = past_none xs k h in omega arith

-- a record has a place exactly for each property of its class
pub place_is : (r : Actor) (props : List Prop) (k : ℕ) → r.past ≡ r.first + length props
    → place_in r (suc (suc (suc (suc k)))) ≡ option_map (λ (p : Prop). r.first + k) (slice_get props k)
place_is r props k past = of (slice_get props k) refl
  where
    low : nat_le 4 (suc (suc (suc (suc k)))) ≡ true
    low = grind (arith, nat_tests)

    index : suc (suc (suc (suc k))) - 4 ≡ k
    index = omega arith

    of : (o : Option Prop) → slice_get props k ≡ o
        → then_some (nat_le 4 (suc (suc (suc (suc k)))) && nat_lt (suc (suc (suc (suc k))) - 4) (r.past - r.first))
        (r.first + (suc (suc (suc (suc k))) - 4))
        ≡ option_map (λ (p : Prop). r.first + k) o
    of None e =
        let over : nat_lt k (r.past - r.first) ≡ false = let l = past_none props k e in grind (arith, nat_tests) in
        rw (low, index, over) refl
    of (Some p) e =
        let under : nat_lt k (r.past - r.first)
        ≡ true = let l = slice_get_within props k p e in grind (arith, nat_tests) in
        rw (low, index, under) refl

-- Which pairs are held after a change of one.
use Rattle.std.proofs.Common.{◌≡◌, ◌≢◌, ℕ, ◌+◌, ◌-◌, ◌==◌, nat_eq, ◌&&◌, not, Bool, true, false, Option, None, arith, refl, sym, if◌then◌else◌}
use Rattle.std.proofs.Math.Path.{fun_ext}
use Rattle.std.specs.Prelude.{is_some, IsSome}
use Rattle.std.proofs.lemmas.Bool.Decides.{nat_tests}
use Rattle.graph_model.specs.Nodes.{Spot}
use Rattle.graph_nodes.specs.Held.{Spots, with_spot, without_pair}

pub held_placed : (spots : Spots) (s : Spot) (a p : ℕ) → spots s.actor s.player ≡ None
    → (if is_some (with_spot spots s a p) then 1 else 0)
    ≡ (if nat_eq s.player p && s.actor == a then 1 else 0) + (if is_some (spots a p) then 1 else 0)
held_placed spots s a p free = grind (arith, nat_tests)

pub held_moved : (spots : Spots) (s : Spot) (a p : ℕ) → IsSome (spots s.actor s.player)
    → is_some (with_spot spots s a p) ≡ is_some (spots a p)
held_moved spots s a p held = grind (arith, nat_tests)

pub held_removed : (spots : Spots) (actor player a p : ℕ)
    → (if is_some (without_pair spots actor player a p) then 1 else 0)
    ≡ (if is_some (spots a p) then 1 else 0) - (if nat_eq player p && actor == a then 1 else 0)
held_removed spots actor player a p = grind (arith, nat_tests)

kept : (b : Bool) (o : Option Spot) → (b ≡ true → o ≡ None) → (if b then None else o) ≡ o
kept true o none = sym (none refl)
kept false o none = refl

-- a pair that isn't held is taken out
pub without_unheld : (spots : Spots) (actor player : ℕ) → spots actor player ≡ None
    → without_pair spots actor player ≡ spots
without_unheld spots actor player none = fun_ext (λ (a : ℕ). fun_ext (λ (p : ℕ).
    kept (a == actor && p == player) (spots a p) (λ h.
    let e : a ≡ actor = grind (arith, nat_tests) in
    let f : p ≡ player = grind (arith, nat_tests) in
    rw (e, f) none)))

-- what the test of a player says
pub is_player : (p : ℕ) → not (p == 0) ≡ true → p ≢ 0
is_player p h = grind (arith, nat_tests)

pub no_player : (p : ℕ) → not (p == 0) ≡ false → p ≡ 0
no_player p h = grind (arith, nat_tests)

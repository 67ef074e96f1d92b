-- How a node's spots go along with one that is placed, moved or removed.
use Rattle.std.proofs.Common.{rules, ◌≡◌, ℕ, true, false, ◌&&◌, ◌==◌, Option, Some, None, refl, subst, arith, if◌then◌else◌}
use Rattle.std.specs.Prelude.{is_some, IsSome}
use Rattle.std.proofs.Math.Path.{fun_ext}
use Rattle.std.proofs.lemmas.Bool.Decides.{nat_tests}
use Rattle.graph_model.specs.Nodes.{Spot}
use Rattle.graph_nodes.specs.declared.any.AnyNode.{AnyNode}
use Rattle.graph_nodes.specs.Held.{Spots, CanPlace, takes, with_spot}
use Rattle.graph_nodes.specs.Any as any
use Rattle.rep_graph.specs.Turns.{with_pair_spot}

none_is : (o : Option Spot) → is_some o ≡ false → o ≡ None
none_is None h = refl
none_is (Some s) h = absurd (cc)

some_is : (o : Option Spot) → is_some o ≡ true → IsSome o
some_is None h = absurd (cc)
some_is (Some s) h = search rules

at_pair : (new : AnyNode) (spots : Spots) (actor player : ℕ) (s : Spot) → s.actor ≡ actor → s.player ≡ player
    → any.Stands new (with_spot spots s) → any.Stands new (with_pair_spot spots actor player (Some s))
at_pair new spots actor player s a p stands =
    subst (λ (q : ℕ). any.Stands new (with_pair_spot spots actor q (Some s))) p
    (subst (λ (b : ℕ). any.Stands new (with_pair_spot spots b s.player (Some s))) a stands)

pub placed : (old new : AnyNode) (spots : Spots) (actor player : ℕ) (s : Spot)
    → ((spots : Spots) → any.Stands old spots → CanPlace (any.row_of old) spots s → any.Stands new (with_spot spots s))
    → any.Stands old spots → is_some (spots actor player) ≡ false
    → (takes (any.row_of old) s ≡ true) × (s.actor ≡ actor) × (s.player ≡ player)
    → any.Stands new (with_pair_spot spots actor player (Some s))
placed old new spots actor player s step stands out is =
    let free : spots s.actor s.player ≡ None = rw (is.1, is.2) (none_is (spots actor player) out) in
    at_pair new spots actor player s is.1 is.2 (step spots stands (record { taken = is.0; free = free }))

none_put : (spots : Spots) (actor player a p : ℕ) → spots actor player ≡ None
    → spots a p ≡ (if a == actor && p == player then None else spots a p)
none_put spots actor player a p h = grind (arith, nat_tests)

pub left : (node : AnyNode) (spots : Spots) (actor player : ℕ) → any.Stands node spots
    → is_some (spots actor player) ≡ false → any.Stands node (with_pair_spot spots actor player None)
left node spots actor player stands out =
    subst (λ (f : Spots). any.Stands node f)
    (fun_ext (λ (a : ℕ). fun_ext (λ (p : ℕ).
    none_put spots actor player a p (none_is (spots actor player) out)))) stands

-- How the players' node goes along with a change of one pair.
use Rattle.std.proofs.Common.{◌≡◌, ℕ, [], ◌+◌, ◌-◌, ◌==◌, nat_eq, ◌&&◌, Bool, true, false, Option, Some, None, refl, arith, if◌then◌else◌}
use Rattle.std.specs.Prelude.{is_some, nat_lt}
use Rattle.std.proofs.lemmas.Bool.Decides.{nat_tests}
use Rattle.graph_model.specs.Nodes.{Spot, PlayerNode}
use Rattle.graph_nodes.specs.Held.{Spots, CanPlace, with_spot, without_pair, without_actor}
use Rattle.actor_lists.specs.Shared.{count_of, list_at}
use Rattle.graph_nodes.specs.Players.{Kept, Stands}
use Rattle.graph_nodes.proofs.Pairs.{held_placed, held_removed}

pub placed : (old new : Kept) (spots : Spots) (s : Spot)
    → ((k a : ℕ) → count_of a (list_at nat_eq new.lists k)
    ≡ (if nat_eq s.player k && s.actor == a then 1 else 0) + count_of a (list_at nat_eq old.lists k))
    → ((a p : ℕ) → count_of p (list_at nat_eq new.holders a)
    ≡ (if nat_eq s.actor a && s.player == p then 1 else 0) + count_of p (list_at nat_eq old.holders a))
    → Stands old spots → CanPlace PlayerNode spots s → Stands new (with_spot spots s)
placed old new spots s step back stands can = record {
  actors = λ a p. let n = step p a in let o = stands.actors a p in let h = held_placed spots s a p can.free in
      omega arith;
  holders = λ a p. let n = back a p in let o = stands.holders a p in let h = held_placed spots s a p can.free in
      grind (arith, nat_tests);
  players = λ a p t h. let o = stands.players a p t in grind (arith, nat_tests);
}

pub removed : (old new : Kept) (spots : Spots) (actor player : ℕ)
    → ((k a : ℕ) → count_of a (list_at nat_eq new.lists k)
    ≡ count_of a (list_at nat_eq old.lists k) - (if nat_eq player k && actor == a then 1 else 0))
    → ((a p : ℕ) → count_of p (list_at nat_eq new.holders a)
    ≡ count_of p (list_at nat_eq old.holders a) - (if nat_eq actor a && player == p then 1 else 0))
    → Stands old spots → Stands new (without_pair spots actor player)
removed old new spots actor player step back stands = record {
  actors = λ a p. let n = step p a in let o = stands.actors a p in let h = held_removed spots actor player a p in
      omega arith;
  holders = λ a p. let n = back a p in let o = stands.holders a p in let h = held_removed spots actor player a p in
      grind (arith, nat_tests);
  players = λ a p t h. let o = stands.players a p t in grind (arith, nat_tests);
}

-- one list further
pub taken_more : (x k n m : ℕ) (here : Bool) (old mid new : ℕ) → m ≡ n + (if x == k then 1 else 0)
    → mid ≡ old - (if here then n else 0) → new ≡ mid - (if nat_eq x k && here then 1 else 0)
    → new ≡ old - (if here then m else 0)
taken_more x k n m true old mid new more before now = grind (arith, nat_tests)
taken_more x k n m false old mid new more before now = grind (arith, nat_tests)

emptied : (actor a : ℕ) (spots : Spots) (p old new : ℕ) (o : Option Spot) (several : ℕ)
    → several ≡ (if is_some (spots actor p) then 1 else 0)
    → old ≡ (if is_some (spots a p) then 1 else 0) → new ≡ old - (if actor == a then several else 0)
    → new ≡ (if is_some (without_actor spots actor a p) then 1 else 0)
emptied actor a spots p old new o several e h n = grind (arith, nat_tests)

-- all pairs of an actor go
pub removed_all : (old new : Kept) (spots : Spots) (actor : ℕ)
    → ((k a : ℕ) → count_of a (list_at nat_eq new.lists k) ≡ count_of a (list_at nat_eq old.lists k) -
    (if actor == a then count_of k (list_at nat_eq old.holders actor) else 0))
    → ((a : ℕ) → list_at nat_eq new.holders a ≡ (if nat_eq actor a then [] else list_at nat_eq old.holders a))
    → Stands old spots → Stands new (without_actor spots actor)
removed_all old new spots actor step back stands = record {
  actors = λ a p. emptied actor a spots p _ _ (spots a p) _ (stands.holders actor p) (stands.actors a p) (step p a);
  holders = λ a p. let n = back a in let o = stands.holders a p in grind (arith, nat_tests);
  players = λ a p t h. let o = stands.players a p t in grind (arith, nat_tests);
}

-- an actor that is counted is held
pub is_counted : (n : ℕ) (o : Option Spot) → n ≡ (if is_some o then 1 else 0) → nat_lt 0 n ≡ is_some o
is_counted n None h = rw h refl
is_counted n (Some s) h = rw h refl

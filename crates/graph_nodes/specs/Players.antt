-- What the node of pairs of an actor and a player keeps.
use Rattle.std.specs.Prelude.{◌≡◌, ℕ, Bool, List, Some, is_some, nat_eq, if◌then◌else◌}
use Rattle.graph_model.specs.Nodes.{Spot}
use Rattle.graph_nodes.specs.Held.{Spots}
use Rattle.actor_lists.specs.Shared.{count_of, list_at}

pub record Kept : Type 0 where
  pub lists : List (ℕ × List ℕ)
  pub holders : List (ℕ × List ℕ)
  pub spent : Bool

-- each player's list has exactly the actors of its spots, and each actor's list the players of its spots
pub record Stands (node : Kept) (spots : Spots) : Type 0 where
  pub actors : (a p : ℕ) → count_of a (list_at nat_eq node.lists p) ≡ (if is_some (spots a p) then 1 else 0)
  pub holders : (a p : ℕ) → count_of p (list_at nat_eq node.holders a) ≡ (if is_some (spots a p) then 1 else 0)
  pub players : (a p : ℕ) (s : Spot) → spots a p ≡ Some s → s.player ≡ p

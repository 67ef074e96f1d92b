-- What a node gives to a viewer.
use Rattle.std.specs.Prelude.{◌≡◌, ℕ, ◌+◌, ◌<◌, ◌≤◌, ◌==◌, true, List, [], ◌∷◌, Some, if◌then◌else◌}
use Rattle.graph_model.specs.Nodes.{Node, Spot, Viewer, admits}
use Rattle.actor_lists.specs.Shared.{count_of}
use Rattle.graph_nodes.specs.Held.{Spots}

-- exactly the actors of the spots that the node's rule admits for the viewer, each once
pub record Gathers (node : Node) (spots : Spots) (viewer : Viewer) (actors : List ℕ) : Type 0 where
  pub once : (a : ℕ) → count_of a actors ≤ 1
  pub all : (a p : ℕ) (s : Spot) → spots a p ≡ Some s → admits node s viewer ≡ true → count_of a actors ≡ 1
  pub only : (a : ℕ) → 0 < count_of a actors
      → (p : ℕ) × (s : Spot) × (spots a p ≡ Some s) × (admits node s viewer ≡ true)

-- What the node of sleeping actors keeps: those relevant by distance as a grid, those relevant to all as a list.
use Rattle.std.specs.Prelude.{◌≡◌, ◌≢◌, ◌++◌, ℕ, Bool, false, List, Option, Some, None, if◌then◌else◌}
use Rattle.protocol_model.specs.Value.{is_always, is_owner_only}
use Rattle.graph_model.specs.Nodes.{Spot, Viewer, is_near}
use Rattle.graph_nodes.specs.Held.{Spots}
use Rattle.graph_nodes.specs.Always as always
use Rattle.graph_nodes.specs.Grid as grid

pub record Halves : Type 0 where
  pub near : grid.Kept
  pub always : always.Kept

pub record Kept : Type 0 where
  pub halves : Halves
  pub spent : Bool

-- the spot, if it passes
abbrev pub kept_if : (Spot → Bool) → Option Spot → Option Spot
kept_if test None = None
kept_if test (Some s) = if test s then Some s else None

-- the spots relevant by distance, and those relevant to all
abbrev pub near_of : Spots → Spots
near_of spots a p = kept_if (λ s. is_near s.reach) (spots a p)

abbrev pub always_of : Spots → Spots
always_of spots a p = kept_if (λ s. is_always s.reach) (spots a p)

-- each half has its part of these spots, none of which is relevant to its owner alone; no spot has a player
pub record Keeps (halves : Halves) (spots : Spots) : Type 0 where
  pub near : grid.Stands halves.near (near_of spots)
  pub always : always.Stands halves.always (always_of spots)
  pub reach : (a p : ℕ) (s : Spot) → spots a p ≡ Some s → is_owner_only s.reach ≡ false
  pub players : (a p : ℕ) → p ≢ 0 → spots a p ≡ None

abbrev pub Stands : Kept → Spots → Type 0
Stands node spots = Keeps node.halves spots

-- what both halves give to a viewer
abbrev pub given_in : Halves → Viewer → List ℕ
given_in halves v = grid.given_by halves.near v ++ halves.always.actors

abbrev pub given_by : Kept → Viewer → List ℕ
given_by node v = given_in node.halves v

-- What the teams' node keeps.
use Rattle.std.specs.Prelude.{◌≡◌, ◌≢◌, ◌==◌, ℕ, Bool, false, List, Option, Some, None, nat_eq, option_map, if◌then◌else◌}
use Rattle.std.specs.Map.{lookup}
use Rattle.graph_model.specs.Nodes.{Spot}
use Rattle.graph_nodes.specs.Held.{Spots}
use Rattle.actor_lists.specs.Shared.{count_of, list_at}

-- each actor's team, and each team's actors
pub record Members : Type 0 where
  pub teams : List (ℕ × ℕ)
  pub lists : List (ℕ × List ℕ)

pub record Kept : Type 0 where
  pub members : Members
  pub spent : Bool

-- the team of each actor that is held
abbrev pub Teams : Type 0
Teams = (actor : ℕ) → Option ℕ

abbrev pub no_teams : Teams
no_teams a = None

-- the team is that one
abbrev pub is_of : (team : ℕ) → Option ℕ → Bool
is_of t (Some u) = u == t
is_of t None = false

abbrev pub with_team : Teams → (actor team : ℕ) → Teams
with_team teams actor t a = if a == actor then Some t else teams a

abbrev pub without_actor : Teams → (actor : ℕ) → Teams
without_actor teams actor a = if a == actor then None else teams a

-- each actor is in the list of its team alone
pub record Keeps (members : Members) (teams : Teams) : Type 0 where
  pub each : (a : ℕ) → lookup (nat_eq a) members.teams ≡ teams a
  pub actors : (a t : ℕ) → count_of a (list_at nat_eq members.lists t) ≡ (if is_of t (teams a) then 1 else 0)

-- the team of each actor that has a spot without a player
abbrev pub teams_of : Spots → Teams
teams_of spots a = option_map (λ (s : Spot). s.team) (spots a 0)

-- each team's list has exactly the actors of these spots, which have no player
pub record Stands (node : Kept) (spots : Spots) : Type 0 where
  pub keeps : Keeps node.members (teams_of spots)
  pub players : (a p : ℕ) → p ≢ 0 → spots a p ≡ None

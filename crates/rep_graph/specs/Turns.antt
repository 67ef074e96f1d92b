-- What the parts of an edit do; steps between code and definitions, which only private contracts cite.
use Rattle.std.specs.Prelude.{◌≡◌, ◌≢◌, ℕ, ◌+◌, ◌*◌, ◌==◌, ◌∷◌, Bool, true, false, ◌&&◌, Option, Some, None, is_some, if◌then◌else◌}
use Rattle.std.specs.Option.{IfSome}
use Rattle.protocol_model.specs.Value.{Table}
use Rattle.protocol_model.specs.World.{Edits, spawn_count, given_of}
use Rattle.graph_model.specs.Nodes.{Node, PlayerNode, Spot}
use Rattle.graph_nodes.specs.declared.any.AnyNode.{AnyNode}
use Rattle.graph_nodes.specs.Held.{Spots, takes, is_bounded}
use Rattle.graph_nodes.specs.Any as any
use Rattle.class_layout.specs.Tables.{table_in}
use Rattle.world_table.specs.Answers.{edit_of, refusal_in, look_of}
use Rattle.world_table.specs.Kept as kept
use Rattle.world_table.specs.Stands as world
use Rattle.world_table.specs.Stands.{history_of}
use Rattle.world_table.specs.declared.edit.Edit.{Edit}
use Rattle.world_table.specs.declared.edit.Look.{Look}
use Rattle.rep_graph.specs.declared.standing.Standing.{Standing}
use Rattle.rep_graph.specs.Graph.{IsLawful}
use Rattle.rep_graph.specs.Standings.{standing_by, look_before, subject_of}

-- ---- spots

-- the same spots, and this one or none for a pair
abbrev pub with_pair_spot : Spots → (actor player : ℕ) → Option Spot → Spots
with_pair_spot spots actor player now a p = if a == actor && p == player then now else spots a p

-- a spot of that pair that the row takes, where there is one
abbrev pub IsFor : Node → (actor player : ℕ) → Option Spot → Type 0
IsFor row actor player now = IfSome now (λ s. (takes row s ≡ true) × (s.actor ≡ actor) × (s.player ≡ player))

-- of one actor other things are told, and this is how it stood and stands
pub record Differs (table : Table) (edits later : Edits) (actor : ℕ)
    (before after : Option Standing) (team : ℕ) : Type 0 where
  pub others : (b : ℕ) → b ≢ actor → history_of later b ≡ history_of edits b
  pub before_is : before ≡ standing_by table (history_of edits actor)
  pub after_is : after ≡ standing_by table (history_of later actor)
  pub team_is : team ≡ given_of later actor
  pub bounded : IfSome after (λ s. is_bounded s.reach ≡ true)

-- ---- pairs

-- pairs of an actor and a player
abbrev pub PairTest : Type 0
PairTest = (actor player : ℕ) → Bool

-- spots of exactly these pairs
pub record AreOf (held : PairTest) (spots : Spots) : Type 0 where
  pub same : (a p : ℕ) → is_some (spots a p) ≡ held a p
  pub players : (a p : ℕ) (s : Spot) → spots a p ≡ Some s → s.player ≡ p

-- the players' node, which stands for all spots of exactly these pairs
pub record HasPairs (node : AnyNode) (held : PairTest) : Type 0 where
  pub row_is : any.row_of node ≡ PlayerNode
  pub spots : (spots : Spots) → AreOf held spots → any.Stands node spots

-- the same pairs but for one
abbrev pub with_pair : PairTest → (actor player : ℕ) → Bool → PairTest
with_pair held actor player now a p = if a == actor && p == player then now else held a p

-- the same pairs, but this one's test in place of the owner's pair
abbrev pub with_owner : PairTest → (actor : ℕ) → Option ℕ → PairTest → PairTest
with_owner held actor None now = held
with_owner held actor (Some player) now = with_pair held actor player (now actor player)

-- the same pairs but for all of an actor
abbrev pub without_actor : PairTest → (actor : ℕ) → PairTest
without_actor held actor a p = if a == actor then false else held a p

-- how the actor looks in the world
abbrev pub PairLook : Table → Edits → (actor : ℕ) → Option Look → Type 0
PairLook table edits actor look = look ≡ look_of table edits actor

-- an accepted edit that may change pairs of an actor
pub record IsPairTurn (w : kept.Kept) (e : Edit) (actor : ℕ) (before after : Option Look) (edits : Edits) : Type 0 where
  pub accepted : refusal_in (table_in w.layout) edits e ≡ None
  pub world_is : world.Stands w (edit_of e ∷ edits)
  pub subject : subject_of (2 * (spawn_count edits + 1)) e ≡ Some actor
  pub before_is : before ≡ look_before (table_in w.layout) edits e
  pub after_is : PairLook (table_in w.layout) (edit_of e ∷ edits) actor after
  pub lawful : IsLawful edits

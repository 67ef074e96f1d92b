-- How what a driver keeps follows from what the server was told.
use Rattle.std.specs.Prelude.{◌≡◌, ℕ, ◌+◌, ◌≤◌, ◌<◌, List, [], ◌∷◌, length, Bool, true, false, Option, Some, ⊤}
use Rattle.std.specs.List.{AllByRecursion}
use Rattle.protocol_model.specs.Limits.{connection_limit}
use Rattle.protocol_model.specs.Value.{Table}
use Rattle.protocol_model.specs.World.{Edits, Spawned, spawn_of, lives}
use Rattle.connection_model.specs.Feed.{has_ended}
use Rattle.connection_model.specs.State.{state_of, is_closed}
use Rattle.class_layout.specs.Tables.{Layout, table_in}
use Rattle.world_table.specs.Kept.{Kept}
use Rattle.world_table.specs.Stands.{Stands as StandsWorld}
use Rattle.rep_graph.specs.Graph.{Graph, Stands as StandsGraph}
use Rattle.shadow_changes.specs.Samples.{Samples, Shadows, Keeps as KeepsSamples, samples_of}
use Rattle.sender_laws.specs.Values.{AreAbove as AreTicksAbove}
use Rattle.driver_laws.specs.Feeds.{AreShown, AreShort, IsOfWorld}
use Rattle.driver_sights.specs.Noted.{AreBefore}
use Rattle.driver_sights.specs.Graves.{AreGraves, is_buried}
use Rattle.driver_sights.specs.declared.graves.Grave.{Grave}
use Rattle.server_end.specs.declared.server_end.ServerEnd.{ServerEnd}
use Rattle.net_driver.specs.declared.chair.Chair.{Chair}
use Rattle.net_driver.specs.Served.{Seat, Served, past_for}
use Rattle.net_driver.specs.Ends.{IsPlace}

-- the classes, the world, the graph, the change lists, actors that were destroyed, the ends by key
-- and the players who joined, ascending, and the ticks so far; `greatest` is at least twice the
-- bunches that an end made
pub record Drive : Type 0 where
  pub layout : Layout
  pub world : Kept
  pub graph : Graph
  pub changes : Shadows
  pub graves : List Grave
  pub ends : List (Option ServerEnd)
  pub chairs : List Chair
  pub ticks : ℕ
  pub greatest : ℕ
  pub spent : Bool

-- a chair is that of the player, whose place is right about what the player's connection heard
pub record IsSeated (table : Table) (edits : Edits) (samples : Samples) (greatest : ℕ)
    (ends : List (Option ServerEnd)) (c : Chair) (s : Seat) : Type 0 where
  pub player : c.player ≡ s.number
  pub place : IsPlace table edits samples greatest ends s c.place

-- one by one
abbrev pub AreSeated : Table → Edits → Samples → (greatest : ℕ) → List (Option ServerEnd)
    → List Chair → List Seat → Type 0
AreSeated table edits samples greatest ends [] [] = ⊤
AreSeated table edits samples greatest ends [] (s ∷ seats) = ⊥
AreSeated table edits samples greatest ends (c ∷ chairs) [] = ⊥
AreSeated table edits samples greatest ends (c ∷ chairs) (s ∷ seats) =
    IsSeated table edits samples greatest ends c s
    × AreSeated table edits samples greatest ends chairs seats

-- each number is above this one
abbrev pub AreAbove : ℕ → List Seat → Type 0
AreAbove n [] = ⊤
AreAbove n (s ∷ seats) = (n < s.number) × AreAbove n seats

-- the players ascend
abbrev pub AreRising : List Seat → Type 0
AreRising [] = ⊤
AreRising (s ∷ seats) = AreAbove s.number seats × AreRising seats

-- what a seat tells alone: its budget is one; each actor that it was shown was spawned, as that
-- class; calls that wait are short; and while its end is alive there is a grave of each destroyed
-- actor of which something is left to close
pub record SeatFits (table : Table) (edits : Edits) (graves : List Grave) (s : Seat) : Type 0 where
  pub budget : 1 ≤ s.budget
  pub shown : AreShown (IsOfWorld table edits) s.feed
  pub waits : AreShort (past_for table s)
  pub left : (a : ℕ) → has_ended (past_for table s) ≡ false → lives edits a ≡ false
      → is_closed (state_of (past_for table s) a) ≡ false → is_buried graves a ≡ true

-- each actor that was spawned has a class of the table
abbrev pub AreThere : Table → Edits → Type 0
AreThere table edits = (a : ℕ) (spawned : Spawned) → spawn_of edits a ≡ Some spawned
    → spawned.class < length table

-- the driver stands for what the server was told
pub record Serves (d : Drive) (s : Served) : Type 0 where
  pub world : StandsWorld d.world s.edits
  pub layout : d.world.layout ≡ d.layout
  pub graph : StandsGraph d.graph (table_in d.layout) s.edits
  pub changes : KeepsSamples d.changes s.samples
  pub from_one : (a : ℕ) → AreTicksAbove 0 (samples_of s.samples a)
  pub there : AreThere (table_in d.layout) s.edits
  pub ticks : d.ticks ≡ s.ticks
  pub sampled : AreBefore (table_in d.layout) s.edits (s.ticks + 1) s.samples
  pub graves : AreGraves d.layout s.edits d.graves
  pub seated : AreSeated (table_in d.layout) s.edits s.samples d.greatest d.ends d.chairs s.seats
  pub fits : AllByRecursion (SeatFits (table_in d.layout) s.edits d.graves) s.seats
  pub rising : AreRising s.seats
  pub few : length s.seats ≤ connection_limit
  pub kept : d.spent ≡ false

-- want of memory ended the driver
abbrev pub IsSpent : Drive → Type 0
IsSpent d = d.spent ≡ true

use Rattle.std.proofs.Common.{◌≡◌, ◌≤◌, ◌*◌, List, drop}
use Rattle.protocol_model.specs.World.{Edits, spawn_count}
use Rattle.replication_model.specs.Story.{Player}
use Rattle.class_layout.specs.Tables.{Layout}
use Rattle.replay_core.specs.Stands.{Serving, Ascend, ArePlaces}
use Rattle.replay_core.proofs.Pairs.{SummedSoFar}
use Rattle.replay_core.proofs.settling.settled_pairs.Given as goal

abbrev pub invariant-loop-place : goal.invariant-loop-place
invariant-loop-place l = record {
  most : l.count ≤ 8192 * l.place-index;
  done : (layout : Layout) (edits : Edits) (players : List Player) → Serving layout l.driver edits players → Ascend 0 players
      → ArePlaces layout l.places players → l.spawned ≡ spawn_count edits
      → SummedSoFar layout edits players (drop l.place-index l.places) l.count;
}

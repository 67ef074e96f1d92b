use Rattle.std.proofs.Common.{◌≤◌, List}
use Rattle.protocol_model.specs.World.{Edits, spawn_count}
use Rattle.replication_model.specs.Story.{Player}
use Rattle.class_layout.specs.Tables.{Layout}
use Rattle.replay_core.specs.Stands.{Serving}
use Rattle.replay_core.proofs.settling.spawned.Given as goal

-- the first so many were spawned
abbrev pub invariant-loop-count : goal.invariant-loop-count
invariant-loop-count g l = (layout : Layout) (edits : Edits) (players : List Player) → Serving layout l.driver edits players
    → l.count ≤ spawn_count edits

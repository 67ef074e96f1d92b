use Rattle.std.proofs.Common.{◌≡◌, ◌≤◌, ℕ, List}
use Rattle.protocol_model.specs.World.{Edits}
use Rattle.replication_model.specs.Story.{Player}
use Rattle.class_layout.specs.Tables.{Layout}
use Rattle.replay_core.specs.Stands.{Serving}
use Rattle.replay_core.specs.Lines.{IsAt}
use Rattle.replay_core.proofs.Pairs.{settled_among}
use Rattle.replay_core.proofs.settling.settled_for.Given as goal

abbrev pub invariant-loop-before : goal.invariant-loop-before
invariant-loop-before l = record {
  most : l.count ≤ l.before;
  within : l.before ≤ l.spawned;
  done : (layout : Layout) (edits : Edits) (players : List Player) (i : ℕ) (p : Player) → Serving layout l.driver edits players
      → IsAt players i p → l.player ≡ p.number → l.count ≡ settled_among layout edits p l.before;
}

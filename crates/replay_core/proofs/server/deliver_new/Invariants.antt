use Rattle.std.proofs.Common.{◌≡◌, ℕ, List, ◌-◌, ◌≤◌, length, []}
use Rattle.protocol_model.specs.Side.{AtServer}
use Rattle.protocol_model.specs.World.{Edits}
use Rattle.replication_model.specs.Story.{Player, with_told}
use Rattle.class_layout.specs.Tables.{Layout, table_in}
use Rattle.replay_places.specs.Places.{IsPlace}
use Rattle.replay_places.proofs.NewOnes.{delivered}
use Rattle.replay_core.specs.Stands.{Serving}
use Rattle.replay_core.specs.Lines.{IsAt, IsDoneAt}
use Rattle.replay_core.proofs.server.deliver_new.Given as goal

abbrev pub invariant-loop-k : goal.invariant-loop-k
invariant-loop-k l = record {
  from : l.from ≡ l.fn.place.told_up;
  to : l.to ≡ length l.fn.place.up;
  within : l.k - l.from ≤ l.to - l.from;
  done : (layout : Layout) (edits : Edits) (players : List Player) (i : ℕ) (p : Player)
      → Serving layout l.fn.driver edits players
      → IsAt players i p → IsPlace layout l.fn.place p
      → IsDoneAt layout l.driver l.place l.fn.events l.events edits players i
      (delivered (table_in layout) edits AtServer l.every l.from (with_told AtServer l.to p, []) (l.k - l.from));
}

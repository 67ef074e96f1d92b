use Rattle.std.proofs.Common.{◌≡◌, ◌-◌, ◌≤◌, length, []}
use Rattle.protocol_model.specs.Side.{AtClient}
use Rattle.protocol_model.specs.World.{Edits}
use Rattle.replication_model.specs.Story.{Player, with_told}
use Rattle.class_layout.specs.Tables.{Layout, table_in}
use Rattle.replay_places.specs.Places.{IsPlace}
use Rattle.replay_places.specs.Doing.{IsDone}
use Rattle.replay_places.proofs.NewOnes.{delivered}
use Rattle.replay_places.proofs.place.Place.deliver_new.Given as goal

abbrev pub invariant-loop-place : goal.invariant-loop-place
invariant-loop-place l = record {
  from : l.from ≡ l.fn.self.told_down;
  to : l.to ≡ length l.fn.self.down;
  within : l.place - l.from ≤ l.to - l.from;
  done : (layout : Layout) (edits : Edits) (p : Player) → IsPlace layout l.fn.self p
      → IsDone layout l.self l.fn.events l.events
      (delivered (table_in layout) edits AtClient l.every l.from (with_told AtClient l.to p, []) (l.place - l.from));
}

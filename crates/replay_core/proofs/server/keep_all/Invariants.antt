use Rattle.std.proofs.Common.{◌≡◌, List, length}
use Rattle.std.specs.Vec.Iter.{into_iter_items, into_iter_len}
use Rattle.protocol_model.specs.World.{Edits}
use Rattle.replication_model.specs.Story.{Player}
use Rattle.class_layout.specs.Tables.{Layout, table_in}
use Rattle.replay_core.specs.Stands.{ArePlaces}
use Rattle.replay_core.specs.Lines.{AreTicked}
use Rattle.replay_core.proofs.Ticks.{KeptSoFar}
use Rattle.replay_core.proofs.server.keep_all.Given as goal

abbrev pub invariant-loop-i : goal.invariant-loop-i
invariant-loop-i l = record {
  whole : l.count ≡ length l.places.items;
  short : into_iter_len l.left ≡ length (into_iter_items l.left);
  kept : (layout : Layout) (edits : Edits) (players : List Player) → ArePlaces layout l.fn.places.items players
      → AreTicked (table_in layout) edits players l.fn.ticks
      → KeptSoFar layout edits players l.places.items (into_iter_items l.left) l.i l.fn.events l.events;
}

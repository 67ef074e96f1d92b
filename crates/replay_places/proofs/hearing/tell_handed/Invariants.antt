use Rattle.std.proofs.Common.{◌≡◌, ◌++◌, map}
use Rattle.std.specs.Vec.Iter.{into_iter_items, into_iter_len}
use Rattle.std.proofs.Common.{length}
use Rattle.class_layout.specs.Tables.{Layout, table_in}
use Rattle.handovers.specs.Handovers.{handover_of}
use Rattle.protocol_model.specs.Side.{AtClient}
use Rattle.replay_places.specs.Doing.{Adds, handover_reports}
use Rattle.replay_places.proofs.hearing.tell_handed.Given as goal

abbrev pub invariant-loop-handed : goal.invariant-loop-handed
invariant-loop-handed l = record {
  left : l.yielded ++ into_iter_items l.handed-iterator ≡ l.fn.calls;
  short : into_iter_len l.handed-iterator ≡ length (into_iter_items l.handed-iterator);
  told : (layout : Layout) → Adds (table_in layout) l.fn.events l.events
      (handover_reports AtClient l.player (map (handover_of layout) l.yielded));
}

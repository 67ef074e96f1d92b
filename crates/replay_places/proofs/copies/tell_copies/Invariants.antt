use Rattle.std.proofs.Common.{◌≡◌, ◌++◌, map, length}
use Rattle.std.specs.Vec.Iter.{into_iter_items, into_iter_len}
use Rattle.class_layout.specs.Tables.{Layout, table_in}
use Rattle.actor_copies.specs.Copies.{copy_value_of}
use Rattle.actor_copies.specs.Kept.{lent_items}
use Rattle.replay_places.specs.Doing.{Adds, copied_report}
use Rattle.replay_places.proofs.copies.tell_copies.Given as goal

abbrev pub invariant-loop-copy : goal.invariant-loop-copy
invariant-loop-copy l = record {
  short : into_iter_len l.copy-iterator ≡ length (into_iter_items l.copy-iterator);
  told : (layout : Layout) → Adds (table_in layout) l.initial.events l.events
      (map (copied_report l.player) (map (copy_value_of layout) (lent_items l.yielded)));
  left : l.yielded ++ into_iter_items l.copy-iterator ≡ into_iter_items l.initial.copy-iterator;
}

use Rattle.std.proofs.Common.{◌≡◌, true, not, map, take}
use Rattle.std.specs.List.{filter, list_all}
use Rattle.protocol_model.specs.Value.{Pair}
use Rattle.protocol_model.specs.World.{class_at}
use Rattle.connection_model.specs.Carry.{is_updatable}
use Rattle.class_layout.specs.Tables.{Layout, table_in, class_of}
use Rattle.sender_records.specs.Handles.{pair_value, handle_in}
use Rattle.sender_steps.specs.Sights.{seen_value}
use Rattle.sender_turns.proofs.turns.has_marked.Given as goal

abbrev pub invariant-loop-pair : goal.invariant-loop-pair
invariant-loop-pair l =
    (layout : Layout) → class_at (table_in layout) l.seen.class ≡ class_of layout.segments l.class
    → list_all (λ (p : Pair). not (handle_in l.handles.handles p.handle).marked)
    (filter (is_updatable (seen_value layout l.seen)) (map pair_value (take l.pair-index l.seen.values))) ≡ true

use Rattle.std.proofs.Common.{◌≡◌, take, List}
use Rattle.std.specs.List.{filter}
use Rattle.class_layout.specs.declared.class.Segment.{Segment}
use Rattle.class_layout.specs.Tables.{class_of}
use Rattle.sender_turns.specs.Updating.{is_marked_value}
use Rattle.sender_turns.proofs.updating.marked_values.Given as goal

abbrev pub invariant-loop-pair : goal.invariant-loop-pair
invariant-loop-pair l =
    (segments : List Segment) → l.due.items
    ≡ filter (is_marked_value (class_of segments l.class) l.seen.owns l.handles) (take l.pair-index l.seen.values)

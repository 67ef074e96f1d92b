use Rattle.std.proofs.Common.{◌≡◌, ◌++◌, map, take, drop}
use Rattle.std.specs.Prelude.{filter_map}
use Rattle.std.specs.List.{range_with_len}
use Rattle.value_codec.specs.Values.{whole_of}
use Rattle.shadow_changes.specs.Lists.{changed_at}
use Rattle.shadow_changes.proofs.change.changed.Given as goal

abbrev pub invariant-loop-i : goal.invariant-loop-i
invariant-loop-i l =
    (l.changes ≡ filter_map (changed_at l.initial.last.items l.values l.tick) (range_with_len 0 l.i))
    × (l.last.items ≡ map whole_of (take l.i l.values) ++ drop l.i l.initial.last.items)

use Rattle.std.proofs.Common.{◌≡◌, ◌++◌, filter_map}
use Rattle.slab.specs.Slab.{get as stored_at}
use Rattle.actor_copies.specs.Index.{listed}
use Rattle.actor_copies.specs.Kept.{lent_items}
use Rattle.actor_copies.proofs.copies.CopyList.in_order.Given as goal

abbrev pub invariant-loop-key : goal.invariant-loop-key
invariant-loop-key l =
    lent_items l.list.items ++ filter_map (stored_at l.self-inside.copies) l.key-iterator
    ≡ listed (stored_at l.self-inside.copies) l.self-inside.by_actor.entries

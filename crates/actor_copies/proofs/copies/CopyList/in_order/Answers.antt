use Rattle.std.proofs.Common.{List, ◌++◌, filter_map, ap, ◌∙◌}
use Rattle.std.specs.Borrow.{Bor}
use Rattle.slab.specs.Slab.{get as stored_at}
use Rattle.actor_copies.specs.declared.copy.ActorCopy.{ActorCopy}
use Rattle.actor_copies.specs.Kept.{lent_items}
use Rattle.actor_copies.proofs.Listed.{values_listed}
use Rattle.actor_copies.proofs.copies.CopyList.in_order.Goals as goal

pub loop-key-init : goal.loop-key-init
loop-key-init c =
    ap (λ (l : List (Bor ActorCopy)). lent_items l
    ++ filter_map (stored_at c.self.inside.copies) c.into_iter-key-iterator.result) c.new-list.ensures.items
    ∙ ap (filter_map (stored_at c.self.inside.copies))
    (c.into_iter-key-iterator.ensures.into_iter_gives ∙ c.values-key-items.ensures.rest)
    ∙ values_listed (stored_at c.self.inside.copies) c.self.inside.by_actor.entries

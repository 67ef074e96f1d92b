use Rattle.std.proofs.Common.{◌∙◌, refl, sym}
use Rattle.graph_nodes.specs.Dormant.{near_of}
use Rattle.graph_nodes.proofs.DormantLists.{on_take_near, on_take_always}
use Rattle.graph_nodes.proofs.dormant.Halves.take.Goals as goal

pub returns-then-holds : goal.returns-then-holds
returns-then-holds c =
    rw (← c.self.view_is) (on_take_near c.remove.result _ _ c.args.actor c.remove.ensures.stands refl
    (λ spots keeps. sym (c.holds.ensures (near_of spots) keeps.near) ∙ c.if-holds.true))

pub returns-else-holds : goal.returns-else-holds
returns-else-holds c =
    rw (← c.self.view_is)
    (on_take_always c.remove-else-holds.result _ _ c.args.actor c.remove-else-holds.ensures.stands refl
    (λ spots keeps. sym (c.holds.ensures (near_of spots) keeps.near) ∙ c.if-holds.false))

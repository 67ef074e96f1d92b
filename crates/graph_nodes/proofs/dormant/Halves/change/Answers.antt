use Rattle.std.proofs.Common.{◌≡◌, ◌∙◌, true, refl, sym}
use Rattle.graph_model.specs.Nodes.{is_near}
use Rattle.graph_nodes.specs.Held.{spot_in}
use Rattle.graph_nodes.specs.Dormant.{near_of}
use Rattle.graph_nodes.proofs.DormantLists.{on_move_near, on_move_over}
use Rattle.graph_nodes.proofs.dormant.Halves.change.Goals as goal

pub returns-in-Near : goal.returns-in-Near
returns-in-Near c =
    let near : is_near c.args.s.reach ≡ true = rw c.in-Near.is refl in
    rw (← c.self.view_is) (on_move_near c.moved.result _ _ (spot_in c.args.s) c.moved.ensures.stands refl near
    (λ spots keeps. sym (c.holds.ensures (near_of spots) keeps.near) ∙ c.if-holds.true))

pub returns-in_ok-take-in_default : goal.returns-in_ok-take-in_default
returns-in_ok-take-in_default c =
    on_move_over c.put.result _ _ _ (spot_in c.args.s) c.in_ok-take-in_default.ensures c.put.ensures

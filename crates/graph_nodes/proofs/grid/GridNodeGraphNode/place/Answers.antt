use Rattle.std.proofs.Common.{subst, sym}
use Rattle.graph_nodes.specs.Held.{spot_in}
use Rattle.graph_nodes.specs.Grid.{Kept, Stands, squares_of}
use Rattle.graph_nodes.proofs.GridLists.{stands_with, out}
use Rattle.graph_nodes.proofs.grid.GridNodeGraphNode.place.Goals as goal

pub returns-clause-stands : goal.returns-clause-stands
returns-clause-stands c = λ spots stands can.
    let inside = subst (λ (n : Kept). Stands n spots) (sym c.self.view_is) stands in
    stands_with _ spots (spot_in c.args.s) _ can.taken
    (rw c.square.ensures at (c.in_ok-enter.ensures (squares_of spots) inside.keeps
    (out spots (spot_in c.args.s) can.taken can.free)))
    inside

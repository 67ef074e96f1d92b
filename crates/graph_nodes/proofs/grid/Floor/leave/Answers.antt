use Rattle.std.proofs.Common.{subst, sym}
use Rattle.graph_nodes.specs.Grid.{Floor, Keeps, covers}
use Rattle.graph_nodes.proofs.GridLists.{left, but_none}
use Rattle.graph_nodes.proofs.grid.Floor.leave.Goals as goal

pub returns-in_ok-clear : goal.returns-in_ok-clear
returns-in_ok-clear c = λ squares keeps.
    left _ _ squares c.args.actor c.in-Some.square c.in-Some.ensures.updates.0
    (λ a cell. rw (but_none (covers c.in-Some.square cell) (covers c.none.result cell) (c.none.ensures cell)) at
    (c.in_ok-clear.ensures a cell))
    c.in-Some.ensures.value
    (subst (λ (f : Floor). Keeps f squares) (sym c.self.view_is) keeps)

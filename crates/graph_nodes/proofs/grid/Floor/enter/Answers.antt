use Rattle.std.proofs.Common.{subst, sym}
use Rattle.graph_nodes.specs.Grid.{Floor, Keeps, covers}
use Rattle.graph_nodes.proofs.GridLists.{entered, but_none}
use Rattle.graph_nodes.proofs.grid.Floor.enter.Goals as goal

pub returns : goal.returns
returns c = λ squares keeps none.
    entered _ _ squares c.args.actor c.args.square c.in_ok-insert.ensures.updates.0
    (λ a cell. rw (but_none (covers c.args.square cell) (covers c.none.result cell) (c.none.ensures cell)) at
    (c.in_ok-fill.ensures a cell))
    (subst (λ (f : Floor). Keeps f squares) (sym c.self.view_is) keeps) none

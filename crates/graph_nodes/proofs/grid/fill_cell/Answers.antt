use Rattle.std.proofs.Common.{◌∙◌, sym, arith}
use Rattle.graph_nodes.proofs.Rows.{is_passed, is_changed}
use Rattle.graph_nodes.proofs.grid.fill_cell.Goals as goal

pub returns-then-covers : goal.returns-then-covers
returns-then-covers c =
    λ a cell. rw (is_passed c.args.but c.args.cell cell (sym c.covers.ensures ∙ c.if-covers.true)) (omega arith)

pub returns : goal.returns
returns c = λ a cell.
    rw (is_changed c.args.but c.args.cell cell (sym c.covers.ensures ∙ c.if-covers.false)) (c.in_ok-add.ensures cell a)

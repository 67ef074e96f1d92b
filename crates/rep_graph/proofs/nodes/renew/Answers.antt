use Rattle.std.proofs.Common.{◌≡◌, ◌∙◌, sym, ap, subst, Option}
use Rattle.std.specs.Prelude.{is_some}
use Rattle.graph_model.specs.Nodes.{Spot}
use Rattle.graph_nodes.proofs.GridLists.{some_mapped}
use Rattle.graph_nodes.specs.Held.{spot_in}
use Rattle.graph_nodes.specs.Any as any
use Rattle.rep_graph.specs.Standings.{row_of}
use Rattle.rep_graph.specs.Turns.{IsFor, with_pair_spot}
use Rattle.rep_graph.proofs.Renewing.{spot_for}
use Rattle.rep_graph.proofs.nodes.renew.Goals as goal

pub returns-clause-spots : goal.returns-clause-spots
returns-clause-spots c = λ spots stands row was bounded.
    let held : is_some (spots c.args.actor 0) ≡ c.is_some-was.result =
    was ∙ ap (λ (o : Option Spot). is_some o) (sym c.spot_of_row.ensures)
    ∙ some_mapped spot_in c.spot_of_row.result ∙ sym c.is_some-was.ensures in
    let for = subst (λ (o : Option Spot). IsFor (row_of c.args.row) c.args.actor 0 o) (sym c.spot_of_row-spot.ensures)
    (spot_for c.args.row c.args.actor c.args.after.now c.args.team bounded) in
    subst (λ (o : Option Spot). any.Stands c.shift.new.node (with_pair_spot spots c.args.actor 0 o))
    c.spot_of_row-spot.ensures
    (c.in_ok-shift.ensures.spots spots stands held (rw row for))

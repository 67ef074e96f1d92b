use Rattle.std.proofs.Common.{◌∙◌, sym, subst}
use Rattle.graph_model.specs.Nodes.{Spot}
use Rattle.graph_nodes.specs.Teams.{Kept, Stands, teams_of}
use Rattle.graph_nodes.proofs.GridLists.{some_mapped}
use Rattle.graph_nodes.proofs.teams.TeamNode.holds.Goals as goal

pub returns : goal.returns
returns c = λ spots stands.
    let inside = subst (λ (n : Kept). Stands n spots) (sym c.self.view_is) stands in
    c.has.ensures (teams_of spots) inside.keeps ∙ some_mapped (λ (s : Spot). s.team) (spots c.args.actor 0)

use Rattle.std.proofs.Common.{◌∙◌, sym, subst}
use Rattle.graph_nodes.specs.Players.{Kept, Stands}
use Rattle.graph_nodes.proofs.PlayerLists.{is_counted}
use Rattle.graph_nodes.proofs.players.PlayerNode.holds.Goals as goal

pub returns : goal.returns
returns c = λ spots stands.
    let inside = subst (λ (n : Kept). Stands n spots) (sym c.self.view_is) stands in
    c.has.ensures ∙ is_counted _ (spots c.args.actor c.args.player) (inside.holders c.args.actor c.args.player)

use Rattle.std.proofs.Common.{◌∙◌, subst, sym}
use Rattle.graph_nodes.specs.Held.{Spots, player_in}
use Rattle.graph_nodes.specs.Grid.{Kept, Stands, squares_of}
use Rattle.graph_nodes.proofs.Pairs.{without_unheld, is_player, no_player}
use Rattle.graph_nodes.proofs.GridLists.{stands_without}
use Rattle.graph_nodes.proofs.grid.GridNodeGraphNode.remove.Goals as goal

pub returns-then-has_player-clause-stands : goal.returns-then-has_player-clause-stands
returns-then-has_player-clause-stands c = λ spots stands.
    let player = player_in c.args.player in
    let none = stands.players c.args.actor player
    (is_player player (sym c.has_player.ensures ∙ c.if-has_player.true)) in
    subst (λ (s : Spots). Stands c.args.self.now s) (sym (without_unheld spots c.args.actor player none)) stands

pub returns-clause-stands : goal.returns-clause-stands
returns-clause-stands c = λ spots stands.
    let player = player_in c.args.player in
    let inside = subst (λ (n : Kept). Stands n spots) (sym c.self.view_is) stands in
    stands_without _ spots c.args.actor player _ (c.in_ok-leave.ensures (squares_of spots) inside.keeps) inside
    (no_player player (sym c.has_player.ensures ∙ c.if-has_player.false))

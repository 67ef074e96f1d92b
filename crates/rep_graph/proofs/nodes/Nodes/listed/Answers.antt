use Rattle.std.proofs.Common.{sym, subst, List, ℕ}
use Rattle.std.specs.Prelude.{Contains}
use Rattle.graph_model.specs.Nodes.{GridNode, AlwaysNode, PlayerNode, DormantNode, TeamNode}
use Rattle.graph_nodes.specs.Any.{given_by}
use Rattle.graph_nodes.specs.Held.{viewer_in}
use Rattle.rep_graph.proofs.Gathered.{listed_is}
use Rattle.rep_graph.proofs.Rising.{counted, contained}
use Rattle.rep_graph.proofs.Listing.{at_row, GiveFive, five_appended, five_list, list_five}
use Rattle.rep_graph.proofs.nodes.Nodes.listed.Goals as goal

pub returns : goal.returns
returns c = λ table edits player keeps view.
    let v = viewer_in c.args.viewer.now in
    let n = c.args.self.now in
    let give : GiveFive table edits (viewer_in c.args.viewer.now)
    (given_by c.args.self.now.grid (viewer_in c.args.viewer.now))
    (given_by c.args.self.now.always (viewer_in c.args.viewer.now))
    (given_by c.args.self.now.players (viewer_in c.args.viewer.now))
    (given_by c.args.self.now.dormant (viewer_in c.args.viewer.now))
    (given_by c.args.self.now.teams (viewer_in c.args.viewer.now)) = record {
      grid_is = at_row GridNode n.grid table edits v keeps.four.grid c.in_ok-gather_from.ensures.gathers;
      always_is = at_row AlwaysNode n.always table edits v keeps.four.always c.in_ok-gather_from-2.ensures.gathers;
      players_is = at_row PlayerNode n.players table edits v keeps.players
          c.in_ok-gather_from-3.ensures.gathers;
      dormant_is = at_row DormantNode n.dormant table edits v keeps.four.dormant
          c.in_ok-gather_from-4.ensures.gathers;
      teams_is = at_row TeamNode n.teams table edits v keeps.four.teams c.in_ok-gather_from-5.ensures.gathers;
    } in
    let all = five_appended _ _ _ _ _ _ _ _ _ _ _ c.new-lists.ensures c.in_ok-gather_from.ensures.given
    c.in_ok-gather_from-2.ensures.given c.in_ok-gather_from-3.ensures.given c.in_ok-gather_from-4.ensures.given
    c.in_ok-gather_from-5.ensures.given in
    listed_is table edits player (viewer_in c.args.viewer.now) c.in_ok-actors.actors view keeps.lawful
    c.in_ok-actors.ensures.ascending
    (λ a. let same = c.in_ok-actors.ensures.same a in (
      λ h. five_list table edits v a _ _ _ _ _ give
          (counted _ a (subst (λ (xs : List ℕ). Contains xs a) all (same.0 h))),
      λ h. same.1 (subst (λ (xs : List ℕ). Contains xs a) (sym all)
          (contained _ a (list_five table edits v a _ _ _ _ _ give h))),
    ))

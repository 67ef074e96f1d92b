use Rattle.std.proofs.Common.{◌≡◌, refl, sym, subst, Option}
use Rattle.std.specs.Prelude.{is_some}
use Rattle.graph_model.specs.Nodes.{Spot, GridNode, AlwaysNode, DormantNode, TeamNode}
use Rattle.graph_nodes.specs.Any as any
use Rattle.rep_graph.specs.declared.standing.Row.TheVariants as named
use Rattle.rep_graph.specs.Spots.{world_spots}
use Rattle.rep_graph.specs.Turns.{IsFor, with_pair_spot}
use Rattle.rep_graph.proofs.Renewing.{renewed, teams_renewed, spot_for}
use Rattle.rep_graph.proofs.nodes.Nodes.renew_spots.Goals as goal

pub returns-clause-four : goal.returns-clause-four
returns-clause-four c = λ table edits later d four. record {
  grid = renewed GridNode _ _ table edits later c.args.actor c.args.before.now c.args.after.now c.args.team refl
      (λ s t u. refl) d four.grid c.in_ok-renew.ensures.row c.in_ok-renew.ensures.spots;
  always = renewed AlwaysNode _ _ table edits later c.args.actor c.args.before.now c.args.after.now c.args.team refl
      (λ s t u. refl) d four.always c.in_ok-renew-2.ensures.row c.in_ok-renew-2.ensures.spots;
  dormant = renewed DormantNode _ _ table edits later c.args.actor c.args.before.now c.args.after.now c.args.team refl
      (λ s t u. refl) d four.dormant c.in_ok-renew-3.ensures.row c.in_ok-renew-3.ensures.spots;
  teams =
      let for = subst (λ (o : Option Spot). IsFor TeamNode c.args.actor 0 o) (sym c.spot_of_row-spot.ensures)
      (spot_for named.Team c.args.actor c.args.after.now c.args.team d.bounded) in
      let was : is_some (world_spots TeamNode table edits c.args.actor 0) ≡ c.is_given-was.result =
      sym (c.is_given-was.ensures (world_spots TeamNode table edits) four.teams.row_is four.teams.spots) in
      let step = c.in_ok-shift.ensures.spots (world_spots TeamNode table edits) four.teams.spots was
      (rw four.teams.row_is for) in
      teams_renewed _ _ table edits later c.args.actor c.args.before.now c.args.after.now c.args.team d four.teams
      c.in_ok-shift.ensures.row
      (subst (λ (o : Option Spot). any.Stands c.shift.new.node
      (with_pair_spot (world_spots TeamNode table edits) c.args.actor 0 o)) c.spot_of_row-spot.ensures step);
}

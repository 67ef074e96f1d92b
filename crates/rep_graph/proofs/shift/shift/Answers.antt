use Rattle.std.proofs.Common.{◌∙◌}
use Rattle.graph_nodes.specs.Held.{spot_in, player_in}
use Rattle.rep_graph.proofs.Shifting.{placed, left}
use Rattle.rep_graph.proofs.shift.shift.Goals as goal

pub returns-in_ok-place-in-Some-clause-spots : goal.returns-in_ok-place-in-Some-clause-spots
returns-in_ok-place-in-Some-clause-spots c = λ spots stands was is.
    rw c.in-Some.is
    (placed c.args.node.now c.place.new.self spots c.args.actor (player_in c.args.player) (spot_in c.in-Some.spot)
    c.in_ok-place-in-Some.ensures.stands stands (was ∙ c.if-was.false) (rw c.in-Some.is at is))

pub returns-else-was-2-clause-spots : goal.returns-else-was-2-clause-spots
returns-else-was-2-clause-spots c = λ spots stands was is.
    rw c.in-None.is (left c.args.node.now spots c.args.actor (player_in c.args.player) stands (was ∙ c.if-was-2.false))

pub returns-in_ok-remove-in-None-clause-spots : goal.returns-in_ok-remove-in-None-clause-spots
returns-in_ok-remove-in-None-clause-spots c = λ spots stands was is.
    rw c.in-None.is (c.in_ok-remove-in-None.ensures.stands spots stands)

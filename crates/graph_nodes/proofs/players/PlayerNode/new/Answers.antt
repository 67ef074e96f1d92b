use Rattle.std.proofs.Common.{ap}
use Rattle.actor_lists.specs.Shared.{count_of}
use Rattle.graph_nodes.proofs.players.PlayerNode.new.Goals as goal

pub returns-clause-stands : goal.returns-clause-stands
returns-clause-stands c = record {
  actors = λ a p. ap (count_of a) (c.new.ensures p);
  holders = λ a p. ap (count_of p) (c.new-2.ensures a);
  players = λ a p s h. absurd (cc);
}

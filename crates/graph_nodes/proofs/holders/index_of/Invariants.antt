use Rattle.std.proofs.Common.{◌≡◌, take}
use Rattle.actor_lists.specs.Shared.{count_of}
use Rattle.graph_nodes.proofs.holders.index_of.Given as goal

abbrev pub invariant-loop-index : goal.invariant-loop-index
invariant-loop-index l = count_of l.player (take l.index l.players) ≡ 0

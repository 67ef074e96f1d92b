use Rattle.std.proofs.Common.{◌≡◌, take}
use Rattle.actor_lists.specs.Shared.{count_of}
use Rattle.actor_lists.proofs.pieces.index_of.Given as goal

abbrev pub invariant-loop-index : goal.invariant-loop-index
invariant-loop-index l = count_of l.actor (take l.index l.actors) ≡ 0

use Rattle.std.proofs.Common.{◌≡◌, take}
use Rattle.std.specs.Prelude.{nat_lt}
use Rattle.actor_lists.specs.Shared.{count_of}
use Rattle.actor_lists.proofs.pieces.has.Given as goal

abbrev pub invariant-loop-other : goal.invariant-loop-other
invariant-loop-other l = l.found ≡ nat_lt 0 (count_of l.actor (take l.other-index l.actors))

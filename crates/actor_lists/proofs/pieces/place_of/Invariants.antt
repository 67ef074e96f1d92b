use Rattle.std.proofs.Common.{◌≡◌, take}
use Rattle.actor_lists.specs.Shared.{count_of, all_actors}
use Rattle.actor_lists.proofs.pieces.place_of.Given as goal

abbrev pub invariant-loop-place : goal.invariant-loop-place
invariant-loop-place l = count_of l.actor (all_actors (take l.place l.pieces)) ≡ 0

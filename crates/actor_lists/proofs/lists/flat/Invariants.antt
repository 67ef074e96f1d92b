use Rattle.std.proofs.Common.{◌≡◌, take}
use Rattle.actor_lists.specs.Shared.{all_actors}
use Rattle.actor_lists.proofs.lists.flat.Given as goal

abbrev pub invariant-loop-piece : goal.invariant-loop-piece
invariant-loop-piece l = l.all.items ≡ all_actors (take l.piece-index l.pieces)

use Rattle.std.proofs.Common.{◌≡◌, ◌++◌, length, take}
use Rattle.actor_lists.specs.Shared.{all_actors}
use Rattle.actor_lists.proofs.lists.share_all.Given as goal

abbrev pub invariant-loop-piece : goal.invariant-loop-piece
invariant-loop-piece l = record {
  first : l.first ≡ length l.fn.kept.items;
  before : take (length l.fn.kept.items) l.kept.items ≡ l.fn.kept.items;
  shared : all_actors l.kept.items ≡ all_actors l.fn.kept.items ++ all_actors (take l.piece-index l.pieces);
}

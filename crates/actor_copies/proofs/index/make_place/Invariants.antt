use Rattle.std.proofs.Common.{◌≡◌, ℕ, length}
use Rattle.actor_copies.specs.Index.{key_on}
use Rattle.actor_copies.proofs.index.make_place.Given as goal

abbrev pub invariant-loop-place : goal.invariant-loop-place
invariant-loop-place l = record {
  same : (n : ℕ) → key_on l.keys.items n ≡ key_on l.initial.keys.items n;
  len : length l.keys.items ≡ l._place;
}

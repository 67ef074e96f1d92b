use Rattle.std.proofs.Common.{◌≡◌, ℕ, None, slice_index_or, vec_len}
use Rattle.shadow_changes.proofs.shadows.reach.Given as goal

abbrev pub invariant-loop : goal.invariant-loop
invariant-loop l =
    ((other : ℕ) → slice_index_or l.lists.items other None ≡ slice_index_or l.initial.lists.items other None)
    × (vec_len l.lists ≡ l.counter)

use Rattle.std.proofs.Common.{ℕ}
use Rattle.shadow_changes.specs.Lists.{AreListed}
use Rattle.shadow_changes.proofs.Putting.{IsPutOver}
use Rattle.shadow_changes.proofs.noted.note_all.Given as goal

abbrev pub invariant-loop-change : goal.invariant-loop-change
invariant-loop-change l = (count newest : ℕ) → AreListed count newest 0 l.initial.changes.items
    → AreListed count newest 0 l.newer
    → IsPutOver count newest l.change-index l.initial.changes.items l.newer l.changes.items

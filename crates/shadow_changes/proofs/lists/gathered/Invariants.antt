use Rattle.std.proofs.Common.{◌≡◌, ℕ, ◌-◌, take, drop}
use Rattle.shadow_changes.specs.Lists.{AreListed, AreFalling, tick_of, newest_in}
use Rattle.shadow_changes.proofs.lists.gathered.Given as goal

abbrev pub invariant-loop-i : goal.invariant-loop-i
invariant-loop-i l = (count newest : ℕ) → AreFalling count newest l.lists.items
    → AreListed count newest 0 l.changes.items
    × ((h : ℕ) → tick_of l.changes.items h ≡ newest_in (drop (l.end - l.i) (take l.end l.lists.items)) h)

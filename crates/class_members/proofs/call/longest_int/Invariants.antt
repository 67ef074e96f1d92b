use Rattle.std.proofs.Common.{ℕ, ◌-◌, ◌<◌, ◌≤◌, ◌^◌}
use Rattle.class_members.proofs.call.longest_int.Given as goal

abbrev pub invariant-loop-width : goal.invariant-loop-width
invariant-loop-width l = record {
  most : l.width ≤ 16;
  less : (i : ℕ) → i < l.width → 2 ^ i < l.max;
}

-- proposed from the loop's first test
abbrev pub decreases-loop-width : goal.decreases-loop-width
decreases-loop-width l = 16 - l.width

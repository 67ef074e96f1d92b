use Rattle.std.proofs.Common.{◌≡◌, ◌-◌, ◌*◌, ◌<◌, ◌≤◌, ℕ}
use Rattle.reliable_window.specs.Bits.{bit_in}
use Rattle.outgoing_channels.proofs.index_set.IndexSet.least_outside.Given as goal

abbrev pub invariant-loop-k : goal.invariant-loop-k
invariant-loop-k l = record {
  within : l.at ≤ 512;
  inside : (j : ℕ) → 1 ≤ j → j < 64 * l.at → bit_in l.other j ≡ 0 → bit_in l.self j ≡ 1;
}

abbrev pub decreases-loop-k : goal.decreases-loop-k
decreases-loop-k l = 512 - l.at

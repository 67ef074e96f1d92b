use Rattle.std.proofs.Common.{◌≡◌, ◌*◌, ◌<◌, ◌≤◌, ℕ}
use Rattle.reliable_window.specs.Bits.{bit_in}
use Rattle.outgoing_channels.proofs.index_set.next_bit.Given as goal

abbrev pub invariant-loop-k : goal.invariant-loop-k
invariant-loop-k l = (j : ℕ) → l.from ≤ j → j < 64 * l.k → bit_in l.words j ≡ 0

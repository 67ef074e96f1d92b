use Rattle.std.proofs.Common.{◌≡◌, ℕ, length}
use Rattle.incoming_channels.specs.Channels.{in_at}
use Rattle.incoming_channels.proofs.channels.grow.Given as goal

abbrev pub invariant-loop-count : goal.invariant-loop-count
invariant-loop-count l = record {
  same : (ch : ℕ) → in_at l.slots.items ch ≡ in_at l.initial.slots.items ch;
  len : length l.slots.items ≡ l._count;
}

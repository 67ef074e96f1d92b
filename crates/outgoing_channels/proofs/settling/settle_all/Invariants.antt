use Rattle.std.proofs.Common.{◌≡◌, ◌-◌, ◌*◌, ◌<◌, ◌≤◌, ℕ, length, take}
use Rattle.std.specs.List.{sum_by}
use Rattle.outgoing_channels.specs.Slots.{outgoing_of, slot_at, kept_of, WindowFits, Marks, MovesOut}
use Rattle.outgoing_channels.proofs.settling.settle_all.Given as goal

abbrev pub invariant-loop-channel : goal.invariant-loop-channel
invariant-loop-channel l = record {
  slots : length l.slots.items ≡ length l.fn.slots.items;
  within : l.at ≤ 32768;
  done : (c : ℕ) → c < l.at → MovesOut l.to (outgoing_of (slot_at l.fn.slots.items c)) (outgoing_of (slot_at l.slots.items c));
  fits : (c : ℕ) → c < l.at → WindowFits l.to (slot_at l.slots.items c).next (slot_at l.slots.items c).window;
  todo : (c : ℕ) → l.at ≤ c → slot_at l.slots.items c ≡ slot_at l.fn.slots.items c;
  marks : Marks l.active l.slots.items;
  sum : l.sum ≡ sum_by (λ s. length (kept_of s)) (take l.at l.slots.items);
  small : l.sum ≤ 256 * l.at;
}

abbrev pub decreases-loop-channel : goal.decreases-loop-channel
decreases-loop-channel l = 32768 - l.at

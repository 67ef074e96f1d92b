use Rattle.std.proofs.Common.{◌-◌, ◌<◌, ◌≤◌, ℕ, None}
use Rattle.reliable_window.specs.Out.{FindsDue}
use Rattle.outgoing_channels.specs.Slots.{window_at, from_on}
use Rattle.outgoing_channels.proofs.channels.due_from.Given as goal

abbrev pub invariant-loop-next : goal.invariant-loop-next
invariant-loop-next l = record {
  least : l.channel ≤ l.at;
  most : l.at ≤ 65536;
  none : (c : ℕ) → l.channel ≤ c → c < l.at → FindsDue (window_at l.slots.items c) (from_on l.channel l.from c) None;
}

abbrev pub decreases-loop-next : goal.decreases-loop-next
decreases-loop-next l = 65536 - l.at

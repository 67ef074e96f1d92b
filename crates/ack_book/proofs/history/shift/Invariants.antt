use Rattle.std.proofs.Common.{◌≡◌, ℕ, ◌+◌, ◌-◌, ◌*◌, ◌/◌, ◌%◌, ◌^◌, ◌<◌, slice_index, nat_lt, if◌then◌else◌}
use Rattle.ack_book.specs.History.{bit_in}
use Rattle.ack_book.proofs.history.shift.Given as goal

abbrev pub invariant-loop-w : goal.invariant-loop-w
invariant-loop-w l =
    (k i : ℕ) → k < l.w → i < 32 → slice_index l.words k / 2 ^ i % 2 ≡ (if nat_lt (32 * k + i) l.by then 0 else bit_in l.old (32 * k + i - l.by))

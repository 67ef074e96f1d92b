use Rattle.std.proofs.Common.{◌≡◌, ℕ, ◌<◌, ◌^◌, length, slice_index, nat_lt, if◌then◌else◌}
use Rattle.ack_book.proofs.history.first_words.Given as goal

abbrev pub invariant-loop-w : goal.invariant-loop-w
invariant-loop-w l = record {
  len : length l.kept ≡ 8;
  fits : (k : ℕ) → slice_index l.kept k < 2 ^ 32;
  each : (k : ℕ) → k < 8 → slice_index l.kept k ≡ (if nat_lt k l.w then slice_index l.words k else 0);
}

use Rattle.std.proofs.Common.{◌≡◌, ℕ, ◌<◌, ◌≤◌, ◌+◌, ◌-◌, ◌%◌, ◌==◌, false, slice_index_or, length, vec_capacity}
use Rattle.ack_book.specs.History.{bit_in}
use Rattle.ack_book.specs.Book.{fates_kept}
use Rattle.ack_book.proofs.ring.mark_named.Given as goal

abbrev pub invariant-loop-number : goal.invariant-loop-number
invariant-loop-number l = record {
  len : length l.ring.items ≡ fates_kept;
  capacity : vec_capacity l.ring ≡ vec_capacity l.initial.ring;
  named : (n : ℕ) → l.from < n → n < l.number → l.to < n + fates_kept → slice_index_or l.ring.items (n % fates_kept) false ≡ (bit_in l.words (l.first + (l.to - n)) == 1);
  kept : (n : ℕ) → n ≤ l.from → l.to < n + fates_kept → slice_index_or l.ring.items (n % fates_kept) false ≡ slice_index_or l.initial.ring.items (n % fates_kept) false;
}

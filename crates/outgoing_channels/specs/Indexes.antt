-- Words of a set of indexes that have one, and words that lack one.
use Rattle.std.specs.Prelude.{◌≡◌, ℕ, ◌-◌, ◌<◌, ◌==◌, ◌^◌, List, slice_index, if◌then◌else◌}
use Rattle.reliable_window.specs.Bits.{bit_in}

-- words of 64 bits for all indexes
abbrev pub index_words : ℕ
index_words = 512

-- bit k tells whether word k isn't empty
abbrev pub AreFilled : (words filled : List ℕ) → Type 0
AreFilled words filled = (k : ℕ) → k < index_words → bit_in filled k ≡ (if slice_index words k == 0 then 0 else 1)

-- bit k tells whether word k isn't full
abbrev pub HaveGaps : (words gaps : List ℕ) → Type 0
HaveGaps words gaps = (k : ℕ) → k < index_words → bit_in gaps k ≡ (if slice_index words k == 2 ^ 64 - 1 then 0 else 1)

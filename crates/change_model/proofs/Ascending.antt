-- Changes ascend by handle.
use Rattle.std.specs.Prelude.{◌≡◌, refl, ℕ, zero, suc, ◌+◌, ◌<◌, ◌≤◌, List, ◌∷◌, map, length, Option, Some, None, filter_map, slice_index}
use Rattle.std.specs.List.{range_with_len}
use Rattle.std.specs.List.Sorted.{IsStrictlyIncreasing}
use Rattle.std.proofs.Common.{arith}
use Rattle.std.proofs.lemmas.Bool.Decides.{nat_tests}
use Rattle.change_model.specs.Changes.{Sample, Change, noted_tick, handle_of, change_of, changes_since, value_count}

-- the handles of the changes found among the numbers from k on
abbrev handles : (samples : List Sample) (tick k n : ℕ) → List ℕ
handles samples tick k n = map (λ (c : Change). c.handle) (filter_map (change_of samples tick) (range_with_len k n))

-- they rise, and the first is that of k or above
record Rises (k : ℕ) (hs : List ℕ) : Type 0 where
  rising : IsStrictlyIncreasing hs
  first : 0 < length hs → handle_of k ≤ slice_index hs 0

next_handle : (k : ℕ) → handle_of k < handle_of (k + 1)
next_handle k = grind (arith, nat_tests)

-- one more before those that rise
with_first : (k : ℕ) (hs : List ℕ) → Rises (k + 1) hs → Rises k (handle_of k ∷ hs)
with_first k hs h = record {
  rising = above hs h;
  first = λ some. grind (arith, nat_tests);
}
  where
    above : (hs : List ℕ) → Rises (k + 1) hs → IsStrictlyIncreasing (handle_of k ∷ hs)
    above hs h zero within =
        let low = h.first (omega arith) in let next = next_handle k in omega arith
    above hs h (suc j) within = let e : suc j + 1 ≡ suc (j + 1) = omega arith in rw e (h.rising j (omega arith))

without_first : (k : ℕ) (hs : List ℕ) → Rises (k + 1) hs → Rises k hs
without_first k hs h = record {
  rising = h.rising;
  first = λ some. let low = h.first some in let next = next_handle k in omega arith;
}

rises : (samples : List Sample) (tick k n : ℕ) → Rises k (handles samples tick k n)
rises samples tick k zero = record {
  rising = λ j within. absurd (omega arith);
  first = λ some. absurd (omega arith);
}
rises samples tick k (suc n) =
    by_noted (noted_tick samples tick k) refl (rises samples tick (k + 1) n)
  where
    by_noted : (noted : Option ℕ) → noted_tick samples tick k ≡ noted
        → Rises (k + 1) (handles samples tick (k + 1) n) → Rises k (handles samples tick k (suc n))
    by_noted None e h = rw e (without_first k (handles samples tick (k + 1) n) h)
    by_noted (Some t) e h = rw e (with_first k (handles samples tick (k + 1) n) h)

pub changes_ascend : (samples : List Sample) (tick : ℕ)
    → IsStrictlyIncreasing (map (λ (c : Change). c.handle) (changes_since samples tick))
changes_ascend samples tick = (rises samples tick 0 (value_count samples)).rising

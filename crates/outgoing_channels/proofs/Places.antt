-- The next due bunch is the first by channel and number.
use Rattle.std.proofs.Common.{◌≡◌, inl, inr, ℕ, ◌<◌, ◌≤◌, Bool, true, false, ◌&&◌, refl, ap, ◌∙◌, arith, Some, None, option_map}
use Rattle.std.specs.List.{find, range_with_len, filter_map}
use Rattle.std.proofs.lemmas.Bool.{cases_Bool}
use Rattle.protocol_model.specs.Search.{is_among}
use Rattle.connection_model.specs.Feed.{Past}
use Rattle.connection_model.specs.Bunches.{made_count, channels_of, channel_in, is_due}
use Rattle.reliable_window.proofs.Least.{find_some, find_none}
use Rattle.connection_laws.proofs.Spans.{unused_count}
use Rattle.connection_laws.proofs.Holding.{among_ascending}
use Rattle.channel_laws.specs.Due.{due_on, is_from, next_due}
use Rattle.channel_laws.proofs.Orders.{ascending, find_at, find_nowhere, find_mapped}

-- no bunch of the channel that was made is due at or after the place
abbrev pub NoneDue : Past → (ch from c : ℕ) → Type 0
NoneDue past ch from c = (n : ℕ) → 1 ≤ n → n ≤ made_count past c → is_from ch from (c, n) ≡ true → is_due past c n ≡ false

and_false : (a b : Bool) → (b ≡ true → a ≡ false) → (a && b) ≡ false
and_false a true h = rw (h refl) refl
and_false true false h = refl
and_false false false h = refl

none_on : (past : Past) (ch from c : ℕ) → NoneDue past ch from c → find (is_from ch from) (due_on past c) ≡ None
none_on past ch from c none =
    find_mapped (is_from ch from) (is_due past c) (λ n. (c, n)) (range_with_len 1 (made_count past c))
    ∙ ap (option_map (λ n. (c, n)))
    (find_none (λ n. is_due past c n && is_from ch from (c, n)) 1 (made_count past c)
    (λ n lo hi. and_false (is_due past c n) (is_from ch from (c, n)) (none n lo (omega arith))))

pub next_due_none : (past : Past) (ch from : ℕ) → ((c : ℕ) → NoneDue past ch from c) → next_due past ch from ≡ None
next_due_none past ch from none =
    find_nowhere (is_from ch from) (due_on past) (channels_of past) (λ c. none_on past ch from c (none c))

pub next_due_is : (past : Past) (ch from c n : ℕ) → 1 ≤ n → n ≤ made_count past c → is_due past c n ≡ true
    → is_from ch from (c, n) ≡ true
    → ((k : ℕ) → k < c → NoneDue past ch from k)
    → ((k : ℕ) → 1 ≤ k → k < n → is_from ch from (c, k) ≡ true → is_due past c k ≡ false)
    → next_due past ch from ≡ Some (c, n)
next_due_is past ch from c n lo hi due here none before =
    find_at (is_from ch from) (due_on past) c (c, n) (channels_of past) (ascending (filter_map channel_in past))
    (among_ascending (filter_map channel_in past) c used)
    (λ k lt. none_on past ch from k (none k lt))
    (find_mapped (is_from ch from) (is_due past c) (λ k. (c, k)) (range_with_len 1 (made_count past c))
    ∙ ap (option_map (λ k. (c, k)))
    (find_some (λ k. is_due past c k && is_from ch from (c, k)) 1 (made_count past c) n lo (omega arith)
    (λ k low under. and_false (is_due past c k) (is_from ch from (c, k)) (before k low under))
    (rw (due, here) refl)))
  where
    used : is_among c (filter_map channel_in past) ≡ true
    used = elim (cases_Bool (is_among c (filter_map channel_in past))) [
      | inl e ↦ e
      | inr e ↦ absurd (omega (arith, unused_count c past e))
    ]

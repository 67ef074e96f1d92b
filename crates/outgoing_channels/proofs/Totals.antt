-- The sum of what the channels keep is the sum of spans.
use Rattle.std.proofs.Common.{◌≡◌, inl, inr, ℕ, zero, suc, ◌+◌, ◌<◌, ◌≤◌, List, [], ◌∷◌, length, get_or, true, false, refl, sym, ap, ◌∙◌, arith, ⊎_elim}
use Rattle.std.specs.List.{sum_by, range_with_len, filter_map}
use Rattle.std.proofs.lemmas.Bool.{cases_lt, cases_eq, cases_Bool, false≢true}
use Rattle.std.proofs.lemmas.List.{get_or_past}
use Rattle.std.proofs.lemmas.List.Sums.{sum_by-cons}
use Rattle.protocol_model.specs.Search.{is_among}
use Rattle.connection_model.specs.Feed.{Past}
use Rattle.connection_model.specs.Bunches.{span, span_sum, channel_in}
use Rattle.connection_laws.proofs.Searches.{among_cons, among_here, among_there}
use Rattle.connection_laws.proofs.Sums.{sum_once, sum_new}
use Rattle.connection_laws.proofs.Spans.{span_sum_is, unused_span}
use Rattle.connection_laws.proofs.Overrun.{sum_within}
use Rattle.outgoing_channels.specs.Made.{Outgoing, out_at, unused}

among_range : (n len k : ℕ) → k ≤ n → n < k + len → is_among n (range_with_len k len) ≡ true
among_range n zero k lo hi = absurd (omega arith)
among_range n (suc len) k lo hi = ⊎_elim
    (λ (e : k ≡ n). among_here k (range_with_len (k + 1) len) n e)
    (λ (ne : k ≡ n → ⊥). among_there k (range_with_len (k + 1) len) n (among_range n len (k + 1) (omega (arith, ne)) (omega arith)))
    (cases_eq k n)

below_range : (n len k : ℕ) → n < k → is_among n (range_with_len k len) ≡ false
below_range n zero k h = refl
below_range n (suc len) k h = elim (cases_Bool (is_among n (range_with_len k (suc len)))) [
  | inr e ↦ e
  | inl e ↦ elim (among_cons k (range_with_len (k + 1) len) n e) [
    | inl q ↦ absurd (omega arith)
    | inr q ↦ absurd (false≢true (sym (below_range n len (k + 1) (omega arith)) ∙ q))
  ]
]

-- over the places of a list
sum_places : {A : Type 0} (f : A → ℕ) (d : A) (xs : List A) (g : ℕ → ℕ) (k : ℕ)
    → ((i : ℕ) → i < length xs → g (k + i) ≡ f (get_or xs i d))
    → sum_by f xs ≡ sum_once g (range_with_len k (length xs))
sum_places f d [] g k h = refl
sum_places f d (x ∷ xs) g k h =
    let here : g k ≡ f x = (let z : k + 0 ≡ k = omega arith in ap g (sym z) ∙ h 0 (omega arith)) in
    omega (
      arith,
      sum_by-cons f x xs,
      sum_new g k (range_with_len (k + 1) (length xs)) (below_range k (length xs) (k + 1) (omega arith)),
      here,
      sum_places f d xs g (k + 1) (λ i low. (let e : k + 1 + i ≡ k + suc i = omega arith in ap g e ∙ h (suc i) (omega arith))),
    )

-- the channels keep what their spans say
pub total_is : (past : Past) (out : List Outgoing) → ((ch : ℕ) → length (out_at out ch).kept ≡ span past ch)
    → sum_by (λ (o : Outgoing). length o.kept) out ≡ span_sum past
total_is past out h =
    omega (
      arith,
      sum_places (λ (o : Outgoing). length o.kept) unused out (span past) 0 (λ i low. (let e : 0 + i ≡ i = omega arith in ap (span past) e ∙ sym (h i))),
      span_sum_is past,
      sum_within (filter_map channel_in past) (range_with_len 0 (length out)) (span past) (span past) (λ n. omega arith) (λ n e. unused_span n past e),
      sum_within (range_with_len 0 (length out)) (filter_map channel_in past) (span past) (span past) (λ n. omega arith) (λ n e. beyond n e),
    )
  where
    beyond : (n : ℕ) → is_among n (range_with_len 0 (length out)) ≡ false → span past n ≡ 0
    beyond n e = ⊎_elim
        (λ (low : n < length out). absurd (false≢true (sym e ∙ among_range n (length out) 0 (omega arith) (omega arith))))
        (λ (high : length out ≤ n). sym (h n) ∙ ap (λ (o : Outgoing). length o.kept) (get_or_past out n unused high))
        (cases_lt n (length out))

-- The next due bunch that is found is the one of the past.
use Rattle.std.proofs.Common.{◌≡◌, ℕ, ◌+◌, ◌-◌, ◌<◌, ◌≤◌, List, length, true, false, Option, Some, None, option_map, sym, ap, ◌∙◌, arith, ⊎_elim}
use Rattle.std.proofs.lemmas.Bool.{cases_lt}
use Rattle.std.proofs.lemmas.Bool.Decides.{nat_tests}
use Rattle.circular_buffer.proofs.Places.{slice_get-some}
use Rattle.connection_model.specs.Feed.{Past}
use Rattle.connection_model.specs.Bunches.{made_count, least_unarrived, is_due}
use Rattle.reliable_window.specs.Out.{FindsDue}
use Rattle.channel_laws.specs.Due.{is_from, next_due}
use Rattle.outgoing_channels.proofs.Places.{NoneDue, next_due_none, next_due_is}
use Rattle.outgoing_channels.specs.Made.{Outgoing, window_of}
use Rattle.outgoing_channels.specs.Keeps.{KeepsOut}
use Rattle.outgoing_channels.specs.declared.slot.OutSlot.{OutSlot}
use Rattle.outgoing_channels.specs.Slots.{from_on, outgoing_of, slot_at, FindsPlace}
use Rattle.outgoing_channels.proofs.Bunches.{first_is, least_most, early_not_due, kept_due}

-- a place at or after another has a number that counts
from_there : (channel from c n : ℕ) → is_from channel from (c, n) ≡ true → (channel ≤ c) × (from_on channel from c ≤ n)
from_there channel from c n h = grind (arith, nat_tests)

there_from : (channel from c n : ℕ) → channel ≤ c → from_on channel from c ≤ n → is_from channel from (c, n) ≡ true
there_from channel from c n h g = grind (arith, nat_tests)

-- none that counts is due where none is found
none_found : (past : Past) (c : ℕ) (o : Outgoing) (at : ℕ) → KeepsOut past c o → FindsDue (window_of o) at None
    → (n : ℕ) → 1 ≤ n → n ≤ made_count past c → at ≤ n → is_due past c n ≡ false
none_found past c o at h none n lo hi from = ⊎_elim
    (λ (low : n < least_unarrived past c). early_not_due past c n lo low)
    (λ (high : least_unarrived past c ≤ n).
    let first = first_is past c o h in
    let i : ℕ = n - (o.next - length o.kept) in
    let some = slice_get-some o.kept i (omega (arith, first, h.count, (least_most past c).1)) in
    let place : least_unarrived past c + i ≡ n = omega (arith, first) in
    ap (is_due past c) (sym place) ∙ sym (kept_due past c (least_unarrived past c + i) some.0 (h.each i some.0 some.1)) ∙ none i some.0 some.1 (omega (arith, first)))
    (cases_lt n (least_unarrived past c))

pub none_due : (past : Past) (channel from c : ℕ) (o : Outgoing) → KeepsOut past c o
    → (channel ≤ c → FindsDue (window_of o) (from_on channel from c) None)
    → NoneDue past channel from c
none_due past channel from c o h none n lo hi there =
    let at = from_there channel from c n there in
    none_found past c o (from_on channel from c) h (none at.0) n lo hi at.1

-- where none is found on any channel there is none
pub next_none : (past : Past) (channel from : ℕ) (outs : ℕ → Outgoing) → ((c : ℕ) → KeepsOut past c (outs c))
    → ((c : ℕ) → channel ≤ c → FindsDue (window_of (outs c)) (from_on channel from c) None) → next_due past channel from ≡ None
next_none past channel from outs h none =
    next_due_none past channel from (λ c. none_due past channel from c (outs c) (h c) (none c))

pub next_found : (past : Past) (channel from c n : ℕ) (outs : ℕ → Outgoing) → ((c : ℕ) → KeepsOut past c (outs c))
    → channel ≤ c
    → FindsDue (window_of (outs c)) (from_on channel from c) (Some n)
    → ((k : ℕ) → channel ≤ k → k < c → FindsDue (window_of (outs k)) (from_on channel from k) None)
    → next_due past channel from ≡ Some (c, n)
next_found past channel from c n outs h le found none =
    next_due_is past channel from c n (omega (arith, first, (least_most past c).0, found.1)) (omega (arith, first, (h c).count, (least_most past c).1, found.2)) due
    (there_from channel from c n le found.0)
    (λ k lt. none_due past channel from k (outs k) (h k) (λ q. none k q lt))
    (λ k lo lt there. ⊎_elim
    (λ (low : k < least_unarrived past c). early_not_due past c k lo low)
    (λ (high : least_unarrived past c ≤ k).
    let j : ℕ = k - (o.next - length o.kept) in
    let s = slice_get-some o.kept j (omega (arith, first, found.2)) in
    let place : least_unarrived past c + j ≡ k = omega (arith, first) in
    ap (is_due past c) (sym place) ∙ sym (kept_due past c (least_unarrived past c + j) s.0 ((h c).each j s.0 s.1))
    ∙ found.4 j s.0 s.1 (omega (arith, first, (from_there channel from c k there).1)) (omega (arith, first)))
    (cases_lt k (least_unarrived past c)))
  where
    o : Outgoing
    o = outs c

    first : o.next - length o.kept ≡ least_unarrived past c
    first = first_is past c o (h c)

    due : is_due past c n ≡ true
    due =
        let i : ℕ = n - (o.next - length o.kept) in
        let s = slice_get-some o.kept i (omega (arith, found.1, found.2)) in
        let place : least_unarrived past c + i ≡ n = omega (arith, first, found.1) in
        ap (is_due past c) (sym place) ∙ sym (kept_due past c (least_unarrived past c + i) s.0 ((h c).each i s.0 s.1))
        ∙ found.3 s.0 s.1

-- what is found among the slots
pub place_found : (past : Past) (channel from : ℕ) (slots : List OutSlot) (found : Option (ℕ × ℕ))
    → ((c : ℕ) → KeepsOut past c (outgoing_of (slot_at slots c))) → FindsPlace slots channel from found
    → option_map (λ (p : ℕ × ℕ). (p.0, p.1)) found ≡ next_due past channel from
place_found past channel from slots None h none =
    sym (next_none past channel from (λ c. outgoing_of (slot_at slots c)) h none)
place_found past channel from slots (Some (c, n)) h found =
    sym (next_found past channel from c n (λ c. outgoing_of (slot_at slots c)) h found.0 found.1 found.2)

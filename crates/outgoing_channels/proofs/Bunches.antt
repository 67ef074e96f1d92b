-- What a channel keeps says which of its bunches have arrived and which are due.
use Rattle.std.proofs.Common.{◌≡◌, ℕ, ◌+◌, ◌-◌, ◌<◌, ◌≤◌, inl, inr, [], length, Bool, true, false, not, nat_lt, Option, Some, None, unwrap_or, option_map, slice_get, refl, sym, ap, subst, ◌∙◌, arith, ⊎_elim}
use Rattle.std.proofs.lemmas.Bool.{cases_lt, cases_Bool}
use Rattle.std.proofs.lemmas.Bool.Decides.{nat_tests}
use Rattle.circular_buffer.proofs.Places.{slice_get-some}
use Rattle.protocol_model.specs.Search.{newest_of}
use Rattle.connection_model.specs.Feed.{Past}
use Rattle.connection_model.specs.Bunches.{made_count, has_arrived, is_due, least_unarrived}
use Rattle.connection_model.specs.Items.{made_as}
use Rattle.reliable_window.specs.Out.{slot_due, slot_arrived, item_kept}
use Rattle.reliable_window.specs.declared.slot.Slot.{Slot}
use Rattle.reliable_window.proofs.Least.{least_low, least_high, least_below}
use Rattle.channel_laws.specs.Known.{known}
use Rattle.channel_laws.specs.Alike.{Alike}
use Rattle.channel_laws.specs.Known.{arrived_by, needed_by}
use Rattle.channel_laws.proofs.Known.{arrived_is, due_is, arrived_not_due}
use Rattle.channel_laws.proofs.Alike.{same_known, same_least, same_span}
use Rattle.channel_laws.proofs.Making.{unmade_none}
use Rattle.outgoing_channels.specs.declared.made_bunch.MadeBunch.{MadeBunch}
use Rattle.outgoing_channels.specs.Made.{Outgoing, bunch_made, window_of}
use Rattle.outgoing_channels.specs.Keeps.{KeepsBunch, KeepsOut, kept_bunch}

pub kept_due : (past : Past) (ch n : ℕ) (k : Slot MadeBunch) → KeepsBunch past ch n k → slot_due k ≡ is_due past ch n
kept_due past ch n k h = go k.carrier h.fate ∙ ap (needed_by (known past)) h.carrier ∙ sym (due_is past ch n)
  where
    go : (o : Option ℕ) → ((p : ℕ) → o ≡ Some p → k.fate ≡ known past p)
        → ◌≡◌ {A = Bool} (elim o [ None ↦ true | Some p ↦ not (unwrap_or k.fate true) ]) (needed_by (known past) o)
    go None f = refl
    go (Some p) f = ap (λ (x : Option Bool). not (unwrap_or x true)) (f p refl)

pub kept_arrived : (past : Past) (ch n : ℕ) (k : Slot MadeBunch) → KeepsBunch past ch n k
    → slot_arrived k ≡ has_arrived past ch n
kept_arrived past ch n k h = go k.carrier h.fate ∙ ap (arrived_by (known past)) h.carrier ∙ sym (arrived_is past ch n)
  where
    go : (o : Option ℕ) → ((p : ℕ) → o ≡ Some p → k.fate ≡ known past p)
        → ◌≡◌ {A = Bool} (elim o [ None ↦ false | Some p ↦ unwrap_or k.fate false ]) (arrived_by (known past) o)
    go None f = refl
    go (Some p) f = ap (λ (x : Option Bool). unwrap_or x false) (f p refl)

-- ---- where the kept bunches begin

pub least_most : (past : Past) (ch : ℕ)
    → (1 ≤ least_unarrived past ch) × (least_unarrived past ch ≤ made_count past ch + 1)
least_most past ch =
    (least_low (λ n. not (has_arrived past ch n)) (made_count past ch) 1, omega (arith, least_high (λ n. not (has_arrived past ch n)) (made_count past ch) 1))

-- the window's first number is the least that hasn't arrived
pub first_is : (past : Past) (ch : ℕ) (o : Outgoing) → KeepsOut past ch o
    → o.next - length o.kept ≡ least_unarrived past ch
first_is past ch o h = omega (arith, h.next, h.count, (least_most past ch).1)

not_flip : (b : Bool) → not b ≡ false → b ≡ true
not_flip true e = refl
not_flip false e = cc

-- all before it have arrived, so none of them is due
pub early_arrived : (past : Past) (ch n : ℕ) → 1 ≤ n → n < least_unarrived past ch → has_arrived past ch n ≡ true
early_arrived past ch n lo hi =
    not_flip (has_arrived past ch n) (least_below (λ k. not (has_arrived past ch k)) (made_count past ch) 1 n lo hi)

pub early_not_due : (past : Past) (ch n : ℕ) → 1 ≤ n → n < least_unarrived past ch → is_due past ch n ≡ false
early_not_due past ch n lo hi = arrived_not_due past ch n (early_arrived past ch n lo hi)

-- ---- a bunch by its number

not_true : (n m : ℕ) → m ≤ n → nat_lt n m ≡ false
not_true n m h = grind (arith, nat_tests)

is_true : (n m : ℕ) → n < m → nat_lt n m ≡ true
is_true n m h = grind (arith, nat_tests)

pub bunch_is : (past : Past) (ch : ℕ) (o : Outgoing) (n : ℕ) → KeepsOut past ch o
    → option_map bunch_made (item_kept (window_of o) n) ≡ kept_bunch past ch n
bunch_is past ch o n h = ⊎_elim
    (λ (low : n < least_unarrived past ch).
    rw (is_true n (o.next - length o.kept) (omega (arith, first)), is_true n (least_unarrived past ch) low) refl)
    (λ (high : least_unarrived past ch ≤ n).
    rw (not_true n (o.next - length o.kept) (omega (arith, first)), not_true n (least_unarrived past ch) high)
    (kept (slice_get o.kept (n - (o.next - length o.kept))) refl high))
    (cases_lt n (least_unarrived past ch))
  where
    first : o.next - length o.kept ≡ least_unarrived past ch
    first = first_is past ch o h

    kept : (x : Option (Slot MadeBunch)) → slice_get o.kept (n - (o.next - length o.kept)) ≡ x
        → least_unarrived past ch ≤ n
        → option_map bunch_made (option_map (λ (s : Slot MadeBunch). s.item) x) ≡ newest_of (made_as ch n) past
    kept (Some k) e high =
        let place : least_unarrived past ch + (n - (o.next - length o.kept)) ≡ n = omega (arith, first) in
        sym (ap (λ i. newest_of (made_as ch i) past) (sym place) ∙ (h.each (n - (o.next - length o.kept)) k e).bunch)
    kept None e high = ⊎_elim
        (λ (within : n - (o.next - length o.kept) < length o.kept). absurd (let some = slice_get-some o.kept (n - (o.next - length o.kept)) within in cc (e, some.1)))
        (λ (past_all : length o.kept ≤ n - (o.next - length o.kept)). sym (unmade_none past ch n (omega (arith, first, h.count, (least_most past ch).1))))
        (cases_lt (n - (o.next - length o.kept)) (length o.kept))

-- a channel that was never used has none
pub no_bunch : (n : ℕ) → option_map bunch_made (item_kept (window_of (record { next = 1; kept = [] })) n) ≡ None
no_bunch n = elim (cases_Bool (nat_lt n (1 - 0))) [ inl e ↦ rw e refl | inr e ↦ rw e refl ]

-- ---- pasts that tell the same

pub bunch_alike : (one other : Past) (ch n : ℕ) (k : Slot MadeBunch) → Alike one other → KeepsBunch one ch n k
    → KeepsBunch other ch n k
bunch_alike one other ch n k a h = record {
  bunch = a.made.made ch n ∙ h.bunch;
  carrier = h.carrier ∙ sym (a.made.carriers ch n);
  fate = λ p e. h.fate p e ∙ sym (same_known one other a p);
}

pub out_alike : (one other : Past) (ch : ℕ) (o : Outgoing) → Alike one other → KeepsOut one ch o → KeepsOut other ch o
out_alike one other ch o a h = record {
  next = h.next ∙ ap (λ (k : ℕ). k + 1) (sym (a.made.count ch));
  count = h.count ∙ sym (same_span one other a ch);
  each = λ i k at. subst (λ (n : ℕ). KeepsBunch other ch (n + i) k) (sym (same_least one other a ch)) (bunch_alike one other ch (least_unarrived one ch + i) k a (h.each i k at));
}

-- What the channels show of their fields.
use Rattle.std.proofs.Common.{◌≡◌, ℕ, ◌-◌, ◌<◌, ◌≤◌, List, [], ◌∷◌, map, length, Bool, slice_get, refl, sym, ap, subst, subst₂, ◌∙◌, arith, ⊎_elim}
use Rattle.std.proofs.lemmas.Bool.{cases_lt, cases_eq}
use Rattle.std.proofs.lemmas.List.{get_or_past, length-set}
use Rattle.reliable_window.specs.Out.{carried_by}
use Rattle.std.specs.List.{sum_by}
use Rattle.std.proofs.lemmas.List.Sums.{sum_by-cons}
use Rattle.std.proofs.Math.ListN.{get_or-map}
use Rattle.connection_model.specs.Feed.{Past}
use Rattle.outgoing_channels.specs.declared.slot.OutSlot.{OutSlot}
use Rattle.outgoing_channels.specs.declared.mark.Mark.{Mark}
use Rattle.outgoing_channels.specs.Made.{Made, Outgoing, out_at, window_of}
use Rattle.outgoing_channels.specs.Keeps.{KeepsOut, KeepsMade}
use Rattle.outgoing_channels.specs.Slots.{outgoing_of, slot_at, kept_of, empty_slot, SlotFits, IsDueAt, MovesOut, MakesParts, CarriesOut}

-- the fields as they show
abbrev pub shown : (slots : List OutSlot) → (span_sum high count : ℕ) → Made
shown slots span_sum high count = record {
  out = map outgoing_of slots;
  span_sum = span_sum;
  high = high;
  count = count;
}

pub slot_shown : (slots : List OutSlot) (ch : ℕ) → out_at (map outgoing_of slots) ch ≡ outgoing_of (slot_at slots ch)
slot_shown slots ch = get_or-map outgoing_of slots ch empty_slot

pub as_shown : (v w : Made) (past : Past) → v ≡ w → KeepsMade w past → KeepsMade v past
as_shown v w past e h = rw e h

pub keeps_slot : (slots : List OutSlot) (sum high count : ℕ) (past : Past) (ch : ℕ)
    → KeepsMade (shown slots sum high count) past → KeepsOut past ch (outgoing_of (slot_at slots ch))
keeps_slot slots sum high count past ch h =
    subst (λ (o : Outgoing). KeepsOut past ch o) (slot_shown slots ch) (h.out ch)

-- a slot where a due bunch stands was made
pub due_within : (slots : List OutSlot) (ch n : ℕ) → IsDueAt (window_of (outgoing_of (slot_at slots ch))) n
    → ch < length slots
due_within slots ch n due = ⊎_elim
    (λ (low : ch < length slots). low)
    (λ (high : length slots ≤ ch). absurd (let none = ap (λ s. slice_get (kept_of s) (n - (s.next - length (kept_of s)))) (get_or_past slots ch empty_slot high) in cc (none, due.2)))
    (cases_lt ch (length slots))

-- slots that fit go on to fit where one of them changes
pub fits_after : (high count more : ℕ) (xs ys : List OutSlot) (ch : ℕ) → ((c : ℕ) → SlotFits high count (slot_at xs c))
    → ((c : ℕ) → (c ≡ ch → ⊥) → slot_at ys c ≡ slot_at xs c) → count ≤ more → SlotFits high more (slot_at ys ch)
    → (c : ℕ) → SlotFits high more (slot_at ys c)
fits_after high count more xs ys ch fits others le here c = ⊎_elim
    (λ (q : c ≡ ch). subst (λ (k : ℕ). SlotFits high more (slot_at ys k)) (sym q) here)
    (λ (ne : c ≡ ch → ⊥). subst (λ (s : OutSlot). SlotFits high more s) (sym (others c ne))
    (let f = fits c in record { least = f.least; most = omega (arith, f.most); window = f.window }))
    (cases_eq c ch)

pub shown_other : (xs ys : List OutSlot) (ch : ℕ) → ((c : ℕ) → (c ≡ ch → ⊥) → slot_at ys c ≡ slot_at xs c)
    → (c : ℕ) → (c ≡ ch → ⊥) → out_at (map outgoing_of ys) c ≡ out_at (map outgoing_of xs) c
shown_other xs ys ch others c ne = slot_shown ys c ∙ ap outgoing_of (others c ne) ∙ sym (slot_shown xs c)

pub moves_shown : (to : ℕ) (xs ys : List OutSlot) (ch : ℕ)
    → MovesOut to (outgoing_of (slot_at xs ch)) (outgoing_of (slot_at ys ch))
    → MovesOut to (out_at (map outgoing_of xs) ch) (out_at (map outgoing_of ys) ch)
moves_shown to xs ys ch h =
    subst₂ (λ (a b : Outgoing). MovesOut to a b) (sym (slot_shown xs ch)) (sym (slot_shown ys ch)) h

-- a sum over what is shown
pub sum_shown : (xs : List OutSlot)
    → sum_by (λ s. length (kept_of s)) xs ≡ sum_by (λ (o : Outgoing). length o.kept) (map outgoing_of xs)
sum_shown [] = refl
sum_shown (x ∷ xs) =
    omega (
      arith,
      sum_by-cons (λ s. length (kept_of s)) x xs,
      sum_by-cons (λ (o : Outgoing). length o.kept) (outgoing_of x) (map outgoing_of xs),
      sum_shown xs,
    )

pub makes_shown : (mk : Mark) (payload : List Bool) (xs ys : List OutSlot) (ch : ℕ)
    → MakesParts mk ch payload (outgoing_of (slot_at xs ch)) (outgoing_of (slot_at ys ch))
    → MakesParts mk ch payload (out_at (map outgoing_of xs) ch) (out_at (map outgoing_of ys) ch)
makes_shown mk payload xs ys ch h =
    subst₂ (λ (a b : Outgoing). MakesParts mk ch payload a b) (sym (slot_shown xs ch)) (sym (slot_shown ys ch)) h

pub carries_shown : (n packet : ℕ) (xs ys : List OutSlot) (ch : ℕ)
    → CarriesOut n packet (outgoing_of (slot_at xs ch)) (outgoing_of (slot_at ys ch))
    → CarriesOut n packet (out_at (map outgoing_of xs) ch) (out_at (map outgoing_of ys) ch)
carries_shown n packet xs ys ch h =
    subst₂ (λ (a b : Outgoing). CarriesOut n packet a b) (sym (slot_shown xs ch)) (sym (slot_shown ys ch)) h

-- a bunch that is carried leaves as many
pub carries_length : (n packet : ℕ) (a b : Outgoing) → IsDueAt (window_of a) n → CarriesOut n packet a b
    → length b.kept ≡ length a.kept
carries_length n packet a b due h =
    ap length (h.kept due.1 due.2) ∙ length-set a.kept (n - (a.next - length a.kept)) (carried_by packet due.1)

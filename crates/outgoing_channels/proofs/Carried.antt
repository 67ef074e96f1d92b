-- The channels go on to stand for what a packet carries.
use Rattle.std.proofs.Common.{◌≡◌, ℕ, ◌+◌, ◌-◌, ◌<◌, ◌≤◌, List, ◌∷◌, length, set, true, Some, slice_get, sym, ap, subst, ◌∙◌, arith, ⊎_elim}
use Rattle.std.proofs.lemmas.Bool.{cases_lt, cases_eq}
use Rattle.std.proofs.lemmas.List.{length-set}
use Rattle.circular_buffer.proofs.Places.{slice_get-some, slice_get-set_same, slice_get-set_other}
use Rattle.protocol_model.specs.Packet.{Bunch}
use Rattle.connection_model.specs.Feed.{Past, Sent, Item, Carries}
use Rattle.connection_model.specs.Fates.{high_of}
use Rattle.connection_model.specs.Bunches.{made_count, least_unarrived, is_due}
use Rattle.reliable_window.specs.Out.{carried_by}
use Rattle.reliable_window.specs.declared.slot.Slot.{Slot}
use Rattle.channel_laws.specs.Known.{known}
use Rattle.channel_laws.proofs.Known.{unknown}
use Rattle.channel_laws.proofs.Carrying.{carrier_here, carrier_number, carrier_channel, carries_more}
use Rattle.channel_laws.specs.Sendings.{sent_with}
use Rattle.channel_laws.proofs.Growing.{least_with, span_with, sum_with}
use Rattle.outgoing_channels.specs.declared.made_bunch.MadeBunch.{MadeBunch}
use Rattle.outgoing_channels.specs.Made.{Made, Outgoing, out_at, window_of}
use Rattle.outgoing_channels.specs.Keeps.{KeepsBunch, KeepsOut, KeepsMade}
use Rattle.outgoing_channels.specs.Slots.{CarriesOut, IsDueAt}
use Rattle.outgoing_channels.proofs.Bunches.{first_is, least_most, early_not_due, kept_due}

-- a due bunch that was made is kept
pub due_at : (past : Past) (ch n : ℕ) (o : Outgoing) → KeepsOut past ch o → is_due past ch n ≡ true → 1 ≤ n
    → n ≤ made_count past ch → IsDueAt (window_of o) n
due_at past ch n o h due lo hi =
    let first = first_is past ch o h in
    let least : least_unarrived past ch ≤ n = ⊎_elim
    (λ (low : n < least_unarrived past ch). absurd (let no = early_not_due past ch n lo low in cc (no, due)))
    (λ (high : least_unarrived past ch ≤ n). high)
    (cases_lt n (least_unarrived past ch)) in
    let some = slice_get-some o.kept (n - (o.next - length o.kept)) (omega (arith, first, h.count, (least_most past ch).1)) in
    let place : least_unarrived past ch + (n - (o.next - length o.kept)) ≡ n = omega (arith, first) in (
      omega (arith, first),
      some.0,
      some.1,
      kept_due past ch (least_unarrived past ch + (n - (o.next - length o.kept))) some.0 (h.each (n - (o.next - length o.kept)) some.0 some.1) ∙ ap (is_due past ch) place ∙ due,
    )

-- and a due bunch that is kept was made
pub due_back : (past : Past) (ch n : ℕ) (o : Outgoing) → KeepsOut past ch o → IsDueAt (window_of o) n
    → (is_due past ch n ≡ true) × (1 ≤ n) × (n ≤ made_count past ch)
due_back past ch n o h at =
    let first = first_is past ch o h in
    let i : ℕ = n - (o.next - length o.kept) in
    let place : least_unarrived past ch + i ≡ n = omega (arith, first, at.0) in
    let within : i < length o.kept = Rattle.std.proofs.lemmas.Option.slice_get_within o.kept i at.1 at.2 in (
      ap (is_due past ch) (sym place) ∙ sym (kept_due past ch (least_unarrived past ch + i) at.1 (h.each i at.1 at.2)) ∙ at.3,
      omega (arith, place, (least_most past ch).0),
      omega (arith, place, within, h.count, (least_most past ch).1),
    )

module _ (packet t : ℕ) (items : List Item) (past : Past) (ch n : ℕ) (b : Bunch) (above : high_of past < packet) (due : is_due (Sent packet t items ∷ past) ch n ≡ true) where
  abbrev pub before : Past
  before = Sent packet t items ∷ past

  abbrev pub later : Past
  later = sent_with packet t items (Carries ch n b) past

  carried_bunch : (k : Slot MadeBunch) → KeepsBunch before ch n k → KeepsBunch later ch n (carried_by packet k)
  carried_bunch k h = record {
    bunch = h.bunch;
    carrier = sym (carrier_here packet t items past ch n b);
    fate = λ p e. (let same : packet ≡ p = cc in sym (ap (known past) (sym same) ∙ unknown past packet above));
  }

  pub out_carried : (old new : Outgoing) → KeepsOut before ch old → IsDueAt (window_of old) n
      → CarriesOut n packet old new → KeepsOut later ch new
  out_carried old new h at carries = record {
    next = carries.next ∙ h.next;
    count = ap length written ∙ length-set old.kept i (carried_by packet at.1) ∙ h.count ∙ sym (span_with packet t items past ch n b above due ch);
    each = λ j k there. subst (λ (l : ℕ). KeepsBunch later ch (l + j) k) (sym (least_with packet t items past ch n b above due ch)) (each j k there);
  }
    where
      some_is : {A : Type 0} (a c : A) → Some a ≡ Some c → a ≡ c
      some_is a c e = cc

      i : ℕ
      i = n - (old.next - length old.kept)

      least : ℕ
      least = least_unarrived before ch

      written : new.kept ≡ set old.kept i (carried_by packet at.1)
      written = carries.kept at.1 at.2

      within : i < length old.kept
      within = Rattle.std.proofs.lemmas.Option.slice_get_within old.kept i at.1 at.2

      place : least + i ≡ n
      place = omega (arith, first_is before ch old h, at.0)

      each : (j : ℕ) (k : Slot MadeBunch) → slice_get new.kept j ≡ Some k → KeepsBunch later ch (least + j) k
      each j k there = ⊎_elim
          (λ (e : j ≡ i).
          let same : carried_by packet at.1 ≡ k = some_is _ _ (sym (slice_get-set_same old.kept i (carried_by packet at.1) within) ∙ ap (λ xs. slice_get xs i) (sym written) ∙ ap (slice_get new.kept) (sym e) ∙ there) in
          let here : least + j ≡ n = omega (arith, place) in
          subst (λ (x : ℕ). KeepsBunch later ch x k) (sym here)
          (subst (λ (x : Slot MadeBunch). KeepsBunch later ch n x) same (carried_bunch at.1 (subst (λ (x : ℕ). KeepsBunch before ch x at.1) place (h.each i at.1 at.2)))))
          (λ (ne : j ≡ i → ⊥).
          let k_was = h.each j k (sym (slice_get-set_other old.kept i j (carried_by packet at.1) ne) ∙ ap (λ xs. slice_get xs j) (sym written) ∙ there) in record {
            bunch = k_was.bunch;
            carrier = k_was.carrier ∙ sym (carrier_number packet t items past ch n (least + j) b (λ e. ne (omega (arith, place))));
            fate = k_was.fate;
          })
          (cases_eq j i)

  pub out_beside : (c : ℕ) (o : Outgoing) → (ch ≡ c → ⊥) → KeepsOut before c o → KeepsOut later c o
  out_beside c o ne h = record {
    next = h.next;
    count = h.count ∙ sym (span_with packet t items past ch n b above due c);
    each =
        λ j k there. subst (λ (l : ℕ). KeepsBunch later c (l + j) k) (sym (least_with packet t items past ch n b above due c))
        (let was = h.each j k there in record {
          bunch = was.bunch;
          carrier = was.carrier ∙ sym (carrier_channel packet t items past ch n c (least_unarrived before c + j) b ne);
          fate = was.fate;
        });
  }

  pub keeps_carried : (m new : Made) → KeepsMade m before → 1 ≤ n → n ≤ made_count past ch
      → CarriesOut n packet (out_at m.out ch) (out_at new.out ch)
      → ((c : ℕ) → (c ≡ ch → ⊥) → out_at new.out c ≡ out_at m.out c)
      → new.span_sum ≡ m.span_sum → new.high ≡ m.high → KeepsMade new later
  keeps_carried m new h lo hi carries others sum high = record {
    out = λ c. ⊎_elim
        (λ (q : c ≡ ch). subst (λ (x : ℕ). KeepsOut later x (out_at new.out x)) (sym q) (out_carried (out_at m.out ch) (out_at new.out ch) (h.out ch) (due_at before ch n (out_at m.out ch) (h.out ch) due lo hi) carries))
        (λ (ne : c ≡ ch → ⊥). subst (λ (o : Outgoing). KeepsOut later c o) (sym (others c ne)) (out_beside c (out_at m.out c) (λ e. ne (sym e)) (h.out c)))
        (cases_eq c ch);
    span_sum = sum ∙ h.span_sum ∙ sym (sum_with packet t items past ch n b above due);
    few = omega (arith, sum, h.few);
    high = high ∙ h.high;
    carried = carries_more packet t items past ch n b h.carried lo hi (omega arith);
  }

-- The channels go on to stand for what the end makes.
use Rattle.std.proofs.Common.{◌≡◌, ℕ, ◌+◌, ◌-◌, ◌<◌, ◌≤◌, [], length, true, false, Some, slice_get, refl, sym, ap, subst, ◌∙◌, arith, ⊎_elim}
use Rattle.std.proofs.lemmas.Bool.{cases_lt, cases_eq}
use Rattle.std.proofs.lemmas.Option.{slice_get_within}
use Rattle.protocol_model.specs.Payload.{Message, Opens, Closes, Updates, Calls, Gone, message_bits, parts_of}
use Rattle.connection_model.specs.Feed.{Past}
use Rattle.connection_model.specs.Bunches.{made_count, least_unarrived, room, after_making, made_bunch, is_opening, is_closing, is_sleeping, has_exports}
use Rattle.reliable_window.specs.declared.slot.Slot.{Slot}
use Rattle.connection_laws.specs.Fates.{CarriesMade}
use Rattle.connection_laws.proofs.Counts.{made_count_made, made_count_elsewhere}
use Rattle.connection_laws.proofs.Arrivals.{carrier_made}
use Rattle.connection_laws.proofs.Spans.{span_made, span_elsewhere, span_sum_made}
use Rattle.channel_laws.specs.Alike.{Alike}
use Rattle.channel_laws.proofs.Alike.{same_sum, same_high, same_carries}
use Rattle.channel_laws.proofs.Making.{made_part, made_before, made_elsewhere}
use Rattle.channel_laws.proofs.Growing.{least_made, least_elsewhere, known_made, high_made, uncarried_above, carries_after}
use Rattle.outgoing_channels.specs.declared.made_bunch.MadeBunch.{MadeBunch}
use Rattle.outgoing_channels.specs.declared.mark.Mark.{Mark}
use Rattle.outgoing_channels.specs.declared.mark.Mark.TheVariants as mark
use Rattle.outgoing_channels.specs.Made.{Made, Outgoing, out_at, bunch_made, part_of, uncarried, IsMarked, opens_of, closes_of, sleeps_of, exports_of}
use Rattle.outgoing_channels.specs.Keeps.{KeepsBunch, KeepsOut, KeepsMade}
use Rattle.outgoing_channels.specs.Slots.{MakesParts}
use Rattle.outgoing_channels.proofs.Bunches.{out_alike, least_most}

-- ---- nothing was made

pub keeps_new : KeepsMade (record { out = []; span_sum = 0; high = 0; count = 0 }) []
keeps_new = record {
  out = λ ch. record { next = refl; count = refl; each = λ i k at. absurd cc };
  span_sum = refl;
  few = omega arith;
  high = refl;
  carried = λ ch n k e. absurd cc;
}

-- ---- pasts that tell the same

pub keeps_alike : (m : Made) (one other : Past) → Alike one other → KeepsMade m one → KeepsMade m other
keeps_alike m one other a h = record {
  out = λ ch. out_alike one other ch (out_at m.out ch) a (h.out ch);
  span_sum = h.span_sum ∙ sym (same_sum one other a);
  few = h.few;
  high = h.high ∙ sym (same_high one other a);
  carried = same_carries one other a.made h.carried;
}

-- ---- a message

record SaysSame (mk : Mark) (m : Message) : Type 0 where
  opens : opens_of mk ≡ is_opening m
  closes : closes_of mk ≡ is_closing m
  sleeps : sleeps_of mk ≡ is_sleeping m
  exports : exports_of mk ≡ has_exports m

no_exports : (m : Message) → is_opening m ≡ false → has_exports m ≡ false
no_exports (Opens exports actor class values) e = absurd cc
no_exports (Closes actor sleeps) e = refl
no_exports (Updates actor class values) e = refl
no_exports (Calls actor number call args) e = refl
no_exports (Gone actor) e = refl

no_sleep : (m : Message) → is_closing m ≡ false → is_sleeping m ≡ false
no_sleep (Opens exports actor class values) e = refl
no_sleep (Closes actor sleeps) e = absurd cc
no_sleep (Updates actor class values) e = refl
no_sleep (Calls actor number call args) e = refl
no_sleep (Gone actor) e = refl

not_closing : (m : Message) → is_opening m ≡ true → is_closing m ≡ false
not_closing (Opens exports actor class values) e = refl
not_closing (Closes actor sleeps) e = absurd cc
not_closing (Updates actor class values) e = absurd cc
not_closing (Calls actor number call args) e = absurd cc
not_closing (Gone actor) e = absurd cc

not_opening : (m : Message) → is_closing m ≡ true → is_opening m ≡ false
not_opening (Opens exports actor class values) e = absurd cc
not_opening (Closes actor sleeps) e = refl
not_opening (Updates actor class values) e = absurd cc
not_opening (Calls actor number call args) e = absurd cc
not_opening (Gone actor) e = absurd cc

says_same : (mk : Mark) (m : Message) → IsMarked mk m → SaysSame mk m
says_same mark.Plain m h = record {
  opens = sym h.0;
  closes = sym h.1;
  sleeps = sym (no_sleep m h.1);
  exports = sym (no_exports m h.0);
}
says_same (mark.Opens exports) m h = record {
  opens = sym h.0;
  closes = sym (not_closing m h.0);
  sleeps = sym (no_sleep m (not_closing m h.0));
  exports = sym h.1;
}
says_same (mark.Closes sleeps) m h = record {
  opens = sym (not_opening m h.0);
  closes = sym h.0;
  sleeps = sym h.1;
  exports = sym (no_exports m (not_opening m h.0));
}

-- a part that is made is the bunch of its number
part_is : (mk : Mark) (m : Message) (ch n i : ℕ) → IsMarked mk m
    → made_bunch ch n m i ≡ bunch_made (part_of mk ch (message_bits m) n i)
part_is mk m ch n i h =
    let s = says_same mk m h in
    rw (sym s.opens, sym s.closes, sym s.sleeps, sym s.exports) refl

-- ---- the channel on which it is made

module _ (past : Past) (ch : ℕ) (m : Message) (c : CarriesMade past) where
  abbrev pub later : Past
  later = after_making past ch m

  old_bunch : (n : ℕ) (k : Slot MadeBunch) → n ≤ made_count past ch → KeepsBunch past ch n k → KeepsBunch later ch n k
  old_bunch n k low h = record {
    bunch = made_before past ch m n low ∙ h.bunch;
    carrier = h.carrier ∙ sym (carrier_made past ch m ch n);
    fate = λ p e. h.fate p e ∙ sym (known_made past ch m p);
  }

  new_bunch : (mk : Mark) (j : ℕ) → IsMarked mk m → j < parts_of m
      → KeepsBunch later ch (made_count past ch + 1 + j) (uncarried (part_of mk ch (message_bits m) (made_count past ch + 1 + j) j))
  new_bunch mk j is low = record {
    bunch = made_part past ch m j low ∙ ap Some (part_is mk m ch (made_count past ch + 1 + j) j is);
    carrier = sym (carrier_made past ch m ch (made_count past ch + 1 + j) ∙ uncarried_above past c ch (made_count past ch + 1 + j) (omega arith));
    fate = λ p e. absurd cc;
  }

  pub out_made : (mk : Mark) (old new : Outgoing) → IsMarked mk m → KeepsOut past ch old
      → MakesParts mk ch (message_bits m) old new → KeepsOut later ch new
  out_made mk old new is h made = record {
    next = made.next ∙ omega (arith, h.next, made_count_made past ch m);
    count = made.count ∙ omega (arith, h.count, span_made past c ch m);
    each = λ i k at. subst (λ (l : ℕ). KeepsBunch later ch (l + i) k) (sym (least_made past c ch m)) (each i k at);
  }
    where
      some_is : {A : Type 0} (a b : A) → Some a ≡ Some b → a ≡ b
      some_is a b e = cc

      least : ℕ
      least = least_unarrived past ch

      each : (i : ℕ) (k : Slot MadeBunch) → slice_get new.kept i ≡ Some k → KeepsBunch later ch (least + i) k
      each i k at = ⊎_elim
          (λ (low : i < length old.kept). old_bunch (least + i) k (omega (arith, h.count, (least_most past ch).1)) (h.each i k (sym (made.before i low) ∙ at)))
          (λ (high : length old.kept ≤ i).
          let within : i < length new.kept = slice_get_within new.kept i k at in
          let j : ℕ = i - length old.kept in
          let e : length old.kept + j ≡ i = omega arith in
          let place : least + i ≡ made_count past ch + 1 + j = omega (arith, h.count, (least_most past ch).1) in
          let number : old.next + j ≡ made_count past ch + 1 + j = omega (arith, h.next) in
          let low : j < parts_of m = omega (arith, made.count) in
          let there = ap (slice_get new.kept) (sym e) in
          let is_k : uncarried (part_of mk ch (message_bits m) (made_count past ch + 1 + j) j) ≡ k =
          some_is _ _ (ap (λ n. Some (uncarried (part_of mk ch (message_bits m) n j))) (sym number) ∙ sym (made.parts j low) ∙ sym there ∙ at) in
          subst (λ (n : ℕ). KeepsBunch later ch n k) (sym place) (subst (λ (x : Slot MadeBunch). KeepsBunch later ch (made_count past ch + 1 + j) x) is_k (new_bunch mk j is low)))
          (cases_lt i (length old.kept))

  pub out_elsewhere : (d : ℕ) (o : Outgoing) → (ch ≡ d → ⊥) → KeepsOut past d o → KeepsOut later d o
  out_elsewhere d o ne h = record {
    next = h.next ∙ ap (λ (k : ℕ). k + 1) (sym (made_count_elsewhere past d ch m ne));
    count = h.count ∙ sym (span_elsewhere past d ch m ne);
    each = λ i k at. subst (λ (l : ℕ). KeepsBunch later d (l + i) k) (sym (least_elsewhere past d ch m ne))
        (let b = h.each i k at in record {
          bunch = made_elsewhere past d ch m (least_unarrived past d + i) ne ∙ b.bunch;
          carrier = b.carrier ∙ sym (carrier_made past ch m d (least_unarrived past d + i));
          fate = λ p e. b.fate p e ∙ sym (known_made past ch m p);
        });
  }

-- the channels once a message is made
pub keeps_made : (m new : Made) (past : Past) (ch : ℕ) (mk : Mark) (msg : Message) → KeepsMade m past
    → IsMarked mk msg → parts_of msg ≤ room past ch
    → MakesParts mk ch (message_bits msg) (out_at m.out ch) (out_at new.out ch)
    → ((c : ℕ) → (c ≡ ch → ⊥) → out_at new.out c ≡ out_at m.out c)
    → new.span_sum ≡ m.span_sum + parts_of msg → new.high ≡ m.high
    → KeepsMade new (after_making past ch msg)
keeps_made m new past ch mk msg h is fits made others sum high = record {
  out = λ c. ⊎_elim
      (λ (q : c ≡ ch). subst (λ (x : ℕ). KeepsOut (after_making past ch msg) x (out_at new.out x)) (sym q) (out_made past ch msg h.carried mk (out_at m.out ch) (out_at new.out ch) is (h.out ch) made))
      (λ (ne : c ≡ ch → ⊥). subst (λ (o : Outgoing). KeepsOut (after_making past ch msg) c o) (sym (others c ne)) (out_elsewhere past ch msg h.carried c (out_at m.out c) (λ e. ne (sym e)) (h.out c)))
      (cases_eq c ch);
  span_sum = omega (arith, sum, h.span_sum, span_sum_made past h.carried ch msg);
  few = omega (arith, sum, h.span_sum, fits, h.few);
  high = high ∙ h.high ∙ sym (high_made past ch msg);
  carried = carries_after past h.carried ch msg;
}

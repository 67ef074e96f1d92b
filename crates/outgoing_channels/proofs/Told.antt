-- The channels go on to stand for a move of fates.
use Rattle.std.proofs.Common.{◌≡◌, ℕ, ◌+◌, ◌-◌, ◌<◌, ◌≤◌, List, length, map, Bool, true, false, not, Option, Some, None, option_map, slice_get, refl, sym, ap, subst, ◌∙◌, arith, length-drop, ⊎_elim}
use Rattle.std.specs.List.{sum_by}
use Rattle.std.proofs.lemmas.Bool.{cases_lt}
use Rattle.std.proofs.lemmas.List.{length-map}
use Rattle.std.proofs.lemmas.Option.{slice_get-map}
use Rattle.circular_buffer.proofs.Places.{slice_get-some, slice_get-drop}
use Rattle.connection_model.specs.Feed.{Past}
use Rattle.connection_model.specs.Bunches.{made_count, least_unarrived, has_arrived, carrier_of, span_sum}
use Rattle.channel_laws.specs.Moves.{IsMove}
use Rattle.reliable_window.specs.Out.{moved_to, fate_then}
use Rattle.reliable_window.specs.declared.slot.Slot.{Slot}
use Rattle.reliable_window.proofs.Least.{least_is}
use Rattle.connection_laws.proofs.Spans.{span_falls, span_sum_falls}
use Rattle.channel_laws.specs.Known.{known, known_then}
use Rattle.channel_laws.specs.Alike.{SameMade}
use Rattle.channel_laws.specs.Known.{arrived_by}
use Rattle.channel_laws.proofs.Known.{arrived_is}
use Rattle.channel_laws.proofs.Alike.{same_carries}
use Rattle.channel_laws.proofs.Moves.{move_made, move_high, move_known}
use Rattle.outgoing_channels.specs.declared.made_bunch.MadeBunch.{MadeBunch}
use Rattle.outgoing_channels.specs.Made.{Made, Outgoing, out_at}
use Rattle.outgoing_channels.specs.Keeps.{KeepsBunch, KeepsOut, KeepsMade}
use Rattle.outgoing_channels.specs.Slots.{MovesOut}
use Rattle.outgoing_channels.proofs.Bunches.{least_most, early_arrived, kept_arrived}
use Rattle.outgoing_channels.proofs.Totals.{total_is}

module _ (from to : ℕ) (past after : Past) (move : IsMove from to past after) where
  same : SameMade past after
  same = move_made from to past after move

  -- a kept bunch whose packet's fate is told
  moved_bunch : (ch n : ℕ) (k : Slot MadeBunch) → KeepsBunch past ch n k → KeepsBunch after ch n (moved_to to k)
  moved_bunch ch n k h = go k.carrier k.fate refl refl
    where
      go : (o : Option ℕ) (f : Option Bool) → k.carrier ≡ o → k.fate ≡ f → KeepsBunch after ch n (moved_to to k)
      go None f e q = subst (λ (x : Slot MadeBunch). KeepsBunch after ch n x) (stays k e) (record {
        bunch = same.made ch n ∙ h.bunch;
        carrier = h.carrier ∙ sym (same.carriers ch n);
        fate = λ p r. absurd (cc (e, r));
      })
        where
          stays : (s : Slot MadeBunch) → s.carrier ≡ None → s ≡ moved_to to s
          stays s e = at s.carrier e
            where
              at : (c : Option ℕ) → c ≡ None
                  → s ≡ (elim c [ None ↦ s | Some p ↦ record s { fate = fate_then to p s.fate } ])
              at None e = refl
              at (Some p) e = absurd cc
      go (Some p) f e q = subst (λ (x : Slot MadeBunch). KeepsBunch after ch n x) (tells k e) (record {
        bunch = same.made ch n ∙ h.bunch;
        carrier = h.carrier ∙ sym (same.carriers ch n);
        fate = λ r s. (let is : p ≡ r = some_is p r (sym e ∙ s) in
            ap (fate_then to p) (h.fate p e) ∙ then_is (known past p) ∙ sym (move_known from to past after move p) ∙ ap (known after) is);
      })
        where
          some_is : (a c : ℕ) → Some a ≡ Some c → a ≡ c
          some_is a c e = cc

          then_is : (x : Option Bool) → fate_then to p x ≡ known_then to p x
          then_is None = refl
          then_is (Some y) = refl

          tells : (s : Slot MadeBunch) → s.carrier ≡ Some p → record s { fate = fate_then to p s.fate } ≡ moved_to to s
          tells s e = at s.carrier e
            where
              some_same : (a c : ℕ) → Some a ≡ Some c → a ≡ c
              some_same a c e = cc

              at : (c : Option ℕ) → c ≡ Some p
                  → record s { fate = fate_then to p s.fate } ≡ (elim c [ None ↦ s | Some r ↦ record s { fate = fate_then to r s.fate } ])
              at None e = absurd cc
              at (Some r) e = ap (λ (x : ℕ). record s { fate = fate_then to x s.fate }) (sym (some_same r p e))

  -- what had arrived has
  still : (ch n : ℕ) → has_arrived past ch n ≡ true → has_arrived after ch n ≡ true
  still ch n h =
      arrived_is after ch n ∙ ap (arrived_by (known after)) (same.carriers ch n)
      ∙ go (carrier_of past ch n) (sym (arrived_is past ch n) ∙ h)
    where
      kept : (p : ℕ) (x : Option Bool) → Rattle.std.specs.Prelude.unwrap_or x false ≡ true
          → Rattle.std.specs.Prelude.unwrap_or (known_then to p x) false ≡ true
      kept p None e = absurd cc
      kept p (Some b) e = e

      go : (o : Option ℕ) → arrived_by (known past) o ≡ true → arrived_by (known after) o ≡ true
      go None e = absurd cc
      go (Some p) e =
          ap (λ (x : Option Bool). Rattle.std.specs.Prelude.unwrap_or x false) (move_known from to past after move p)
          ∙ kept p (known past p) e

  pub out_moved : (ch : ℕ) (old new : Outgoing) → KeepsOut past ch old → MovesOut to old new → KeepsOut after ch new
  out_moved ch old new h m = record {
    next = m.next ∙ h.next ∙ ap (λ (k : ℕ). k + 1) (sym (same.count ch));
    count = omega (arith, ap length m.kept, length-drop m.gone slots, length-map old.kept (moved_to to), h.count, least_after, same.count ch, (least_most past ch).1, m.most);
    each = λ j k there. subst (λ (l : ℕ). KeepsBunch after ch (l + j) k) (sym least_after) (each j k there);
  }
    where
      slots : List (Slot MadeBunch)
      slots = map (moved_to to) old.kept

      least : ℕ
      least = least_unarrived past ch

      long : length slots ≡ length old.kept
      long = length-map old.kept (moved_to to)

      keeps : (i : ℕ) (k : Slot MadeBunch) → slice_get slots i ≡ Some k → KeepsBunch after ch (least + i) k
      keeps i k there = go (slice_get old.kept i) refl (sym (slice_get-map (moved_to to) old.kept i) ∙ there)
        where
          some_slot : (a c : Slot MadeBunch) → Some a ≡ Some c → a ≡ c
          some_slot a c e = cc

          go : (o : Option (Slot MadeBunch)) → slice_get old.kept i ≡ o → option_map (moved_to to) o ≡ Some k
              → KeepsBunch after ch (least + i) k
          go None e x = absurd cc
          go (Some s) e x =
              let is : moved_to to s ≡ k = some_slot _ _ x in
              subst (λ (u : Slot MadeBunch). KeepsBunch after ch (least + i) u) is (moved_bunch ch (least + i) s (h.each i s e))

      below : (n : ℕ) → 1 ≤ n → n < least + m.gone → has_arrived after ch n ≡ true
      below n lo hi = ⊎_elim
          (λ (low : n < least). still ch n (early_arrived past ch n lo low))
          (λ (high : least ≤ n).
          let some = slice_get-some slots (n - least) (omega (arith, long, m.most)) in
          let place : least + (n - least) ≡ n = omega arith in
          ap (has_arrived after ch) (sym place) ∙ sym (kept_arrived after ch (least + (n - least)) some.0 (keeps (n - least) some.0 some.1)) ∙ m.arrived (n - least) some.0 (omega arith) some.1)
          (cases_lt n least)

      next_late : least + m.gone < 1 + made_count after ch → not (has_arrived after ch (least + m.gone)) ≡ true
      next_late low =
          let some = slice_get-some slots m.gone (omega (arith, long, h.count, same.count ch)) in
          let front : slice_get new.kept 0 ≡ Some some.0 = ap (λ xs. slice_get xs 0) m.kept ∙ slice_get-drop m.gone slots 0 m.gone (omega arith) ∙ some.1 in
          ap not (sym (kept_arrived after ch (least + m.gone) some.0 (keeps m.gone some.0 some.1)) ∙ m.left some.0 front)

      least_after : least_unarrived after ch ≡ least + m.gone
      least_after =
          least_is (λ n. not (has_arrived after ch n)) (made_count after ch) 1 (least + m.gone) (omega (arith, (least_most past ch).0)) (omega (arith, m.most, h.count, same.count ch, (least_most past ch).1))
          (λ n lo hi. ap not (below n lo hi)) next_late

      each : (j : ℕ) (k : Slot MadeBunch) → slice_get new.kept j ≡ Some k → KeepsBunch after ch (least + m.gone + j) k
      each j k there =
          let place : least + (m.gone + j) ≡ least + m.gone + j = omega arith in
          subst (λ (n : ℕ). KeepsBunch after ch n k) place
          (keeps (m.gone + j) k (sym (slice_get-drop m.gone slots j (m.gone + j) refl) ∙ ap (λ xs. slice_get xs j) (sym m.kept) ∙ there))

  pub keeps_moved : (m new : Made) → KeepsMade m past → ((ch : ℕ) → MovesOut to (out_at m.out ch) (out_at new.out ch))
      → new.span_sum ≡ sum_by (λ (o : Outgoing). length o.kept) new.out → new.high ≡ to → KeepsMade new after
  keeps_moved m new h moves sum high = record {
    out = out;
    span_sum = total;
    few = omega (arith, total, h.span_sum, h.few, falls);
    high = high ∙ sym (move_high from to past after move);
    carried = same_carries past after same h.carried;
  }
    where
      out : (ch : ℕ) → KeepsOut after ch (out_at new.out ch)
      out ch = out_moved ch (out_at m.out ch) (out_at new.out ch) (h.out ch) (moves ch)

      total : new.span_sum ≡ span_sum after
      total = sum ∙ total_is after new.out (λ ch. (out ch).count)

      falls : span_sum after ≤ span_sum past
      falls = span_sum_falls past after same.channels (λ ch. span_falls past after ch (same.count ch) (still ch))

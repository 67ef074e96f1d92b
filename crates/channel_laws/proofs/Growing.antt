-- What a message that is made leaves of spans, carriers and what has arrived; and what a packet under way does.
use Rattle.std.proofs.Common.{◌≡◌, inl, inr, ℕ, ◌<◌, List, ◌∷◌, Bool, true, false, not, refl, sym, ap, ◌∙◌, subst, arith, Option, Some, None, unwrap_or}
use Rattle.std.proofs.lemmas.Bool.{cases_eq}
use Rattle.protocol_model.specs.Packet.{Bunch}
use Rattle.protocol_model.specs.Payload.{Message, parts_of}
use Rattle.protocol_model.specs.Search.{least_from, greatest_of}
use Rattle.connection_model.specs.Feed.{Past, Sent, Item, Carries}
use Rattle.connection_model.specs.Fates.{last_sent, sent_in, high_of}
use Rattle.connection_model.specs.Bunches.{made_count, has_arrived, is_due, carrier_of, least_unarrived, span, span_sum, after_making}
use Rattle.connection_laws.specs.Fates.{CarriesMade}
use Rattle.connection_laws.proofs.Moves.{made_ignored}
use Rattle.connection_laws.proofs.Counts.{made_count_made, made_count_elsewhere, made_count_grows}
use Rattle.connection_laws.proofs.Arrivals.{arrival_made, carrier_made, moved_made}
use Rattle.connection_laws.proofs.Spans.{least_like, least_longer, least_is_unarrived, span_like}
use Rattle.channel_laws.specs.Known.{known, known_by}
use Rattle.channel_laws.specs.Known.{arrived_by, needed_by}
use Rattle.channel_laws.proofs.Known.{arrived_is, due_is, unknown}
use Rattle.channel_laws.proofs.Alike.{sum_same}
use Rattle.channel_laws.proofs.Carrying.{carrier_here, carrier_number, carrier_channel}
use Rattle.channel_laws.specs.Sendings.{sent_with}

-- ---- a message is made

pub least_made : (past : Past) → CarriesMade past → (ch : ℕ) (m : Message)
    → least_unarrived (after_making past ch m) ch ≡ least_unarrived past ch
least_made past h ch m =
    least_like (λ n. not (has_arrived (after_making past ch m) ch n)) (λ n. not (has_arrived past ch n)) (λ n. ap not (arrival_made past ch m ch n)) (made_count (after_making past ch m) ch) 1
    ∙ ap (λ k. least_from (λ n. not (has_arrived past ch n)) k 1) (made_count_made past ch m)
    ∙ least_longer (λ n. not (has_arrived past ch n)) (parts_of m) (made_count past ch) 1 (least_is_unarrived past h ch)

pub least_elsewhere : (past : Past) (c ch : ℕ) (m : Message) → (ch ≡ c → ⊥)
    → least_unarrived (after_making past ch m) c ≡ least_unarrived past c
least_elsewhere past c ch m ne =
    least_like (λ n. not (has_arrived (after_making past ch m) c n)) (λ n. not (has_arrived past c n)) (λ n. ap not (arrival_made past ch m c n)) (made_count (after_making past ch m) c) 1
    ∙ ap (λ k. least_from (λ n. not (has_arrived past c n)) k 1) (made_count_elsewhere past c ch m ne)

pub known_made : (past : Past) (ch : ℕ) (m : Message) (p : ℕ) → known (after_making past ch m) p ≡ known past p
known_made past ch m p = ap (λ ms. known_by ms p) (moved_made past ch m)

pub high_made : (past : Past) (ch : ℕ) (m : Message) → high_of (after_making past ch m) ≡ high_of past
high_made past ch m = ap greatest_of (moved_made past ch m)

-- a bunch above the last was never carried
pub uncarried_above : (past : Past) → CarriesMade past → (ch n : ℕ) → made_count past ch < n
    → carrier_of past ch n ≡ None
uncarried_above past h ch n lt = by (carrier_of past ch n) refl
  where
    by : (o : Option ℕ) → carrier_of past ch n ≡ o → o ≡ None
    by None e = refl
    by (Some k) e = absurd (omega (arith, (h ch n k e).1))

pub carries_after : (past : Past) → CarriesMade past → (ch : ℕ) (m : Message) → CarriesMade (after_making past ch m)
carries_after past h ch m = λ c n k e.
    let was = h c n k (sym (carrier_made past ch m c n) ∙ e) in
    let last : last_sent (after_making past ch m) ≡ last_sent past = ap greatest_of (made_ignored sent_in (λ c n m i. refl) past ch m) in
    (was.0, omega (arith, was.1, made_count_grows past c ch m), was.2, omega (arith, was.3, last))

-- ---- a packet under way carries a due bunch

due_not_arrived : (f : ℕ → Option Bool) (o : Option ℕ) → needed_by f o ≡ true → arrived_by f o ≡ false
due_not_arrived f None e = refl
due_not_arrived f (Some p) e = fates (f p) e
  where
    fates : (x : Option Bool) → not (unwrap_or x true) ≡ true → unwrap_or x false ≡ false
    fates None h = refl
    fates (Some true) h = cc
    fates (Some false) h = refl

-- what has arrived stays
pub arrived_with : (packet t : ℕ) (items : List Item) (past : Past) (ch n : ℕ) (b : Bunch) → high_of past < packet
    → is_due (Sent packet t items ∷ past) ch n ≡ true → (c k : ℕ)
    → has_arrived (sent_with packet t items (Carries ch n b) past) c k ≡ has_arrived (Sent packet t items ∷ past) c k
arrived_with packet t items past ch n b above due c k = elim (cases_eq ch c) [
  | inr ne ↦ same (carrier_channel packet t items past ch n c k b ne)
  | inl q ↦ elim (cases_eq n k) [
    | inr ne ↦ same (ap (λ x. carrier_of later x k) (sym q) ∙ carrier_number packet t items past ch n k b ne ∙ ap (λ x. carrier_of before x k) q)
    | inl r ↦ subst (λ (x : ℕ). has_arrived later x k ≡ has_arrived before x k) q (subst (λ (x : ℕ). has_arrived later ch x ≡ has_arrived before ch x) r here)
  ]
]
  where
    before : Past
    before = Sent packet t items ∷ past

    later : Past
    later = sent_with packet t items (Carries ch n b) past

    same : carrier_of later c k ≡ carrier_of before c k → has_arrived later c k ≡ has_arrived before c k
    same e = arrived_is later c k ∙ ap (arrived_by (known before)) e ∙ sym (arrived_is before c k)

    here : has_arrived later ch n ≡ has_arrived before ch n
    here =
        arrived_is later ch n ∙ ap (arrived_by (known before)) (carrier_here packet t items past ch n b)
        ∙ ap (λ (x : Option Bool). unwrap_or x false) (unknown past packet above)
        ∙ sym (due_not_arrived (known before) (carrier_of before ch n) (sym (due_is before ch n) ∙ due))
        ∙ sym (arrived_is before ch n)

module _ (packet t : ℕ) (items : List Item) (past : Past) (ch n : ℕ) (b : Bunch) (above : high_of past < packet) (due : is_due (Sent packet t items ∷ past) ch n ≡ true) where
  pub least_with : (c : ℕ)
      → least_unarrived (sent_with packet t items (Carries ch n b) past) c ≡ least_unarrived (Sent packet t items ∷ past) c
  least_with c =
      least_like _ _ (λ k. ap not (arrived_with packet t items past ch n b above due c k)) (made_count past c) 1

  pub span_with : (c : ℕ)
      → span (sent_with packet t items (Carries ch n b) past) c ≡ span (Sent packet t items ∷ past) c
  span_with c =
      span_like (Sent packet t items ∷ past) (sent_with packet t items (Carries ch n b) past) c refl (arrived_with packet t items past ch n b above due c)

  pub sum_with : span_sum (sent_with packet t items (Carries ch n b) past) ≡ span_sum (Sent packet t items ∷ past)
  sum_with = sum_same (Sent packet t items ∷ past) (sent_with packet t items (Carries ch n b) past) refl span_with

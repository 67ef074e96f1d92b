-- One more bunch is received on an index.
use Rattle.std.proofs.Common.{◌≡◌, ◌⊎◌, inl, inr, ℕ, ◌+◌, ◌%◌, ◌<◌, ◌≤◌, List, [], ◌∷◌, Bool, true, false, cond, not, eqb, nat_lt, ◌==◌, ◌||◌, ◌&&◌, length, refl, sym, ap, ◌∙◌, subst, arith, Option, Some, None, ℤ, pos}
use Rattle.std.specs.Bool.{then_some}
use Rattle.std.specs.List.{slice_get, cons_option, filter_map}
use Rattle.std.proofs.lemmas.Bool.{cases_Bool, false≢true, cases_eq, cases_lt, cond_both, or_cases, not-true, not-false, eqb-true, ltb-true, eq-eqb, ne_eqb, or_parts, and_parts}
use Rattle.std.proofs.lemmas.List.{length-map}
use Rattle.protocol_model.specs.Packet.{Bunch}
use Rattle.protocol_model.specs.Payload.{Message}
use Rattle.protocol_model.specs.Bits.{near}
use Rattle.protocol_model.specs.Search.{is_among, newest_of}
use Rattle.connection_model.specs.Feed.{Past, Ticked, Made, Waits, Sent, Took, Ended}
use Rattle.connection_model.specs.Bunches.{made_bunch}
use Rattle.connection_model.specs.Items.{made_as}
use Rattle.connection_model.specs.Windows.{Received, numbers_of, next_of, number_as, Offer, Repeat, Ready, Held, offer_of, with_offer, with_bunch, as_number}
use Rattle.connection_laws.proofs.Searches.{among_cons, among_here, among_there, least_low, least_below, least_end, newest_hit, newest_miss}
use Rattle.connection_laws.proofs.Holding.{room_taken}
use Rattle.connection_laws.proofs.NearNumber.{near_seq}

-- the number was received
abbrev pub has : List Received → ℕ → Bool
has got n = is_among n (numbers_of got)

-- ---- the next number

-- what is below the next number was received
pub below_next : (got : List Received) (n : ℕ) → 1 ≤ n → n < next_of got → has got n ≡ true
below_next got n lo hi = not-false (has got n) (least_below (λ k. not (has got k)) (length got) 1 n lo hi)

-- the next number is above 0
pub next_low : (got : List Received) → 1 ≤ next_of got
next_low got = least_low (λ k. not (has got k)) (length got) 1

-- the next number was not received
pub next_new : (got : List Received) → has got (next_of got) ≡ false
next_new got = elim (least_end (λ k. not (has got k)) (length got) 1) [
  | inl e ↦ not-true (has got (next_of got)) e
  | inr e ↦ elim (cases_Bool (has got (next_of got))) [
    | inr t ↦ t
    | inl t ↦ (
        let all : 1 + length got ≤ length (numbers_of got) = room_taken (1 + length got) (numbers_of got) (λ i lo hi. each i lo hi e t) in
        absurd (omega (arith, length-map got (λ (r : Received). r.0))))
  ]
]
  where
    each : (i : ℕ) → 1 ≤ i → i ≤ 1 + length got → next_of got ≡ 1 + length got → has got (next_of got) ≡ true → has got i ≡ true
    each i lo hi e t = elim (cases_eq i (next_of got)) [
      | inl q ↦ ap (has got) q ∙ t
      | inr q ↦ below_next got i lo (omega (arith, q, e))
    ]

-- ---- a bunch whose number is read

-- one more bunch: what was received with it
pub with_cases : (got : List Received) (b : Bunch) (n : ℕ) → 1 ≤ n → number_as got b ≡ pos n
    → ((with_bunch got b ≡ got) × (has got n ≡ true)) ⊎ ((with_bunch got b ≡ (n, b) ∷ got) × (has got n ≡ false))
with_cases got b n lo e =
    subst (λ (z : ℤ). ((with_offer got b (offer_of got z) ≡ got) × (has got n ≡ true)) ⊎ ((with_offer got b (offer_of got z) ≡ (n, b) ∷ got) × (has got n ≡ false))) (sym e)
    (cond_both (n == next_of got) Ready (cond (nat_lt n (next_of got) || has got n) Repeat (Held n))
    (λ (o : Offer). ((with_offer got b o ≡ got) × (has got n ≡ true)) ⊎ ((with_offer got b o ≡ (n, b) ∷ got) × (has got n ≡ false)))
    (λ q. (let same : n ≡ next_of got = eqb-true n (next_of got) q in
    inr (ap (λ (k : ℕ). (k, b) ∷ got) (sym same), ap (has got) same ∙ next_new got)))
    (λ q. cond_both (nat_lt n (next_of got) || has got n) Repeat (Held n)
    (λ (o : Offer). ((with_offer got b o ≡ got) × (has got n ≡ true)) ⊎ ((with_offer got b o ≡ (n, b) ∷ got) × (has got n ≡ false)))
    (λ r. inl (refl, old r)) (λ r. inr (refl, (or_parts (nat_lt n (next_of got)) (has got n) r).1))))
  where
    old : (nat_lt n (next_of got) || has got n) ≡ true → has got n ≡ true
    old r = elim (or_cases (nat_lt n (next_of got)) (has got n) r) [
      | inl t ↦ below_next got n lo (ltb-true n (next_of got) t)
      | inr t ↦ t
    ]

-- ---- what was received is what was made

-- what was received was made, as it was made; all that was made but the last 256 was received
pub record Good (made : ℕ → Option Bunch) (count : ℕ) (got : List Received) : Type 0 where
  pub within : (n : ℕ) → has got n ≡ true → (1 ≤ n) × (n ≤ count)
  pub same : (n : ℕ) → has got n ≡ true → newest_of (as_number n) got ≡ made n
  pub span : (n : ℕ) → 1 ≤ n → n + 256 ≤ count → has got n ≡ true

-- the number of a bunch that may come now
pub record InSpan (count n : ℕ) : Type 0 where
  pub low : 1 ≤ n
  pub high : n ≤ count
  pub close : count < n + 256

-- the next number is at most one above those made, and few are between
pub next_within : (made : ℕ → Option Bunch) (count : ℕ) (got : List Received) → Good made count got → (next_of got ≤ count + 1) × (count < next_of got + 256)
next_within made count got g = (upper, lower)
  where
    upper : next_of got ≤ count + 1
    upper = elim (cases_lt (count + 1) (next_of got)) [
      | inl q ↦ (let w : (1 ≤ count + 1) × (count + 1 ≤ count) = g.within (count + 1) (below_next got (count + 1) (omega arith) q) in absurd (omega (arith, w.1)))
      | inr q ↦ q
    ]

    lower : count < next_of got + 256
    lower = elim (cases_lt count (next_of got + 256)) [
      | inl q ↦ q
      | inr q ↦ absurd (false≢true (sym (next_new got) ∙ g.span (next_of got) (next_low got) q))
    ]

-- its number is read right
pub seq_read : (made : ℕ → Option Bunch) (count : ℕ) (got : List Received) (b : Bunch) (n : ℕ) → Good made count got → InSpan count n → b.seq ≡ n % 1024 → number_as got b ≡ pos n
seq_read made count got b n g w e =
    let next = next_within made count got g in
    ap (λ (s : ℕ). near s (pos (next_of got)) 1024) e ∙ near_seq n (next_of got) (omega (arith, next.0, w.close)) (omega (arith, next.1, w.high))

-- ---- the list afterwards

-- one more number was received, of a bunch that was made
pub record After (made : ℕ → Option Bunch) (count : ℕ) (got new : List Received) (n : ℕ) : Type 0 where
  pub good : Good made count new
  pub more : (m : ℕ) → has got m ≡ true → has new m ≡ true
  pub here : has new n ≡ true

-- a bunch of the number is found first
as_same : (n : ℕ) (b : Bunch) (got : List Received) → newest_of (as_number n) ((n, b) ∷ got) ≡ Some b
as_same n b got = newest_hit (as_number n) (n, b) got b (ap (λ (t : Bool). then_some t b) (eq-eqb n n refl))

-- a bunch of another number is found behind one
pub as_other : (m n : ℕ) (b : Bunch) (got : List Received) → (n ≡ m → ⊥) → newest_of (as_number m) ((n, b) ∷ got) ≡ newest_of (as_number m) got
as_other m n b got ne = newest_miss (as_number m) (n, b) got (ap (λ (t : Bool). then_some t b) (ne_eqb n m ne))

-- a bunch whose number is read right is received as it was made
pub received_after : (made : ℕ → Option Bunch) (count : ℕ) (got : List Received) (b : Bunch) (n : ℕ) → Good made count got → InSpan count n → b.seq ≡ n % 1024 → made n ≡ Some b
    → After made count got (with_bunch got b) n
received_after made count got b n g w e m = elim (with_cases got b n w.low (seq_read made count got b n g w e)) [
  | inl q ↦ subst (λ (new : List Received). After made count got new n) (sym q.0) (record { good = g; more = λ k h. h; here = q.1 })
  | inr q ↦ subst (λ (new : List Received). After made count got new n) (sym q.0) (record {
    good = record {
      within = λ k h. elim (among_cons n (numbers_of got) k h) [
        | inl r ↦ (omega (arith, w.low, r), omega (arith, w.high, r))
        | inr r ↦ g.within k r
      ];
      same = λ k h. found k h q.1;
      span = λ k lo hi. among_there n (numbers_of got) k (g.span k lo hi);
    };
    more = λ k h. among_there n (numbers_of got) k h;
    here = among_here n (numbers_of got) n refl;
  })
]
  where
    found : (k : ℕ) → has ((n, b) ∷ got) k ≡ true → has got n ≡ false → newest_of (as_number k) ((n, b) ∷ got) ≡ made k
    found k h none = elim (among_cons n (numbers_of got) k h) [
      | inl r ↦ subst (λ (x : ℕ). newest_of (as_number x) ((n, b) ∷ got) ≡ made x) r (as_same n b got ∙ sym m)
      | inr r ↦ as_other k n b got (λ s. false≢true (sym none ∙ ap (has got) s ∙ r)) ∙ g.same k r
    ]

-- ---- a bunch as it was made

-- what a bunch that was made says of itself
pub record MadeFacts (ch n : ℕ) (b : Bunch) : Type 0 where
  pub reliable : b.reliable ≡ true
  pub channel : b.channel ≡ ch
  pub seq : b.seq ≡ n % 1024

-- a bunch as it is made says its channel and number
facts_of : (c k : ℕ) (m : Message) (i : ℕ) → MadeFacts c k (made_bunch c k m i)
facts_of c k m i = record { reliable = refl; channel = refl; seq = refl }

-- it says its channel and number
pub made_facts : (ch n : ℕ) (past : Past) (b : Bunch) → newest_of (made_as ch n) past ≡ Some b → MadeFacts ch n b
made_facts ch n [] b e = absurd (let no : (let o : Option Bunch = None in o) ≡ Some b = e in cc)
made_facts ch n (Ticked t s ∷ past) b e = made_facts ch n past b e
made_facts ch n (Waits m ∷ past) b e = made_facts ch n past b e
made_facts ch n (Sent k t items ∷ past) b e = made_facts ch n past b e
made_facts ch n (Took k es ds ∷ past) b e = made_facts ch n past b e
made_facts ch n (Ended g ∷ past) b e = made_facts ch n past b e
made_facts ch n (Made c k m i ∷ past) b e = by (eqb c ch && eqb k n) refl e (λ q. made_facts ch n past b q)
  where
    same : (x y : Bunch) → (let o : Option Bunch = Some x in o) ≡ Some y → x ≡ y
    same x y q = cc

    by : (t : Bool) → (eqb c ch && eqb k n) ≡ t → slice_get (cons_option (then_some t (made_bunch c k m i)) (filter_map (made_as ch n) past)) 0 ≡ Some b
        → (newest_of (made_as ch n) past ≡ Some b → MadeFacts ch n b) → MadeFacts ch n b
    by false t q ih = ih q
    by true t q ih =
        let p : (eqb c ch ≡ true) × (eqb k n ≡ true) = and_parts (eqb c ch) (eqb k n) t in
        subst (MadeFacts ch n) (same (made_bunch c k m i) b q)
        (subst (λ (x : ℕ). MadeFacts x n (made_bunch c k m i)) (eqb-true c ch p.0) (subst (λ (x : ℕ). MadeFacts c x (made_bunch c k m i)) (eqb-true k n p.1) (facts_of c k m i)))

-- No honest bunch finds 512 held.
use Rattle.std.proofs.Common.{◌≡◌, inl, inr, ℕ, zero, suc, ◌+◌, ◌-◌, ◌<◌, ◌≤◌, ◌==◌, ◌&&◌, List, [], ◌∷◌, ◌++◌, filter, length, Bool, true, false, cond, not, nat_lt, refl, sym, ap, ◌∙◌, subst, arith, if◌then◌else◌}
use Rattle.std.specs.List.{filter_map}
use Rattle.std.proofs.lemmas.Bool.{cases_Bool, false≢true, cases_eq, cases_lt, cond_both, eqb-true, eqb-false, eq-eqb, ne_eqb, ltb-true, not-false}
use Rattle.std.proofs.lemmas.List.{length-map}
use Rattle.protocol_model.specs.declared.Version.{Version}
use Rattle.protocol_model.specs.Packet.{Bunch}
use Rattle.protocol_model.specs.Search.{is_among, each_once}
use Rattle.connection_model.specs.Feed.{End, Past, Entry, Told, Acked, Heard}
use Rattle.connection_model.specs.Fates.{entries_of}
use Rattle.connection_model.specs.Bunches.{made_count, channel_in, has_arrived, least_unarrived, span}
use Rattle.connection_model.specs.Windows.{Received, numbers_of, next_of, number_as, Offer, Repeat, Ready, Held, offer_of, with_offer, with_bunch, with_entry, received_by, received_on, channel_heard, held_on, held_count}
use Rattle.connection_laws.specs.Run.{IsRun}
use Rattle.connection_laws.specs.Delivered.{NeverOverruns}
use Rattle.connection_laws.proofs.Searches.{among_cons, among_append, among_here, among_there, least_below}
use Rattle.connection_laws.proofs.Sums.{sum_once, sum_in_order, sum_again, sum_new, sum_without, sum_with, sum_more}
use Rattle.connection_laws.proofs.Holding.{without, without_shorter}
use Rattle.connection_laws.proofs.Spans.{span_sum_is, unused_span, spans_fit}
use Rattle.connection_laws.proofs.Receiving.{has, next_new, next_low}
use Rattle.connection_laws.proofs.Applied.{offer_cases}
use Rattle.connection_laws.proofs.Transfer.{Transfers, arrived_received}

-- ---- a sum over fewer numbers of less

-- with one number left out
abbrev but : ℕ → (ℕ → ℕ) → ℕ → ℕ
but c f n = if n == c then 0 else f n

-- a number that is left out counts for nothing
but_here : (c : ℕ) (f : ℕ → ℕ) → but c f c ≡ 0
but_here c f = ap (λ (b : Bool). if b then 0 else f c) (eq-eqb c c refl)

-- the others count as before
but_there : (c : ℕ) (f : ℕ → ℕ) (n : ℕ) → (c ≡ n → ⊥) → but c f n ≡ f n
but_there c f n ne = ap (λ (b : Bool). if b then 0 else f n) (ne_eqb n c (λ e. ne (sym e)))

-- a sum over numbers is at most one over those among which all that count are
pub sum_within : (ms ns : List ℕ) (f g : ℕ → ℕ) → ((n : ℕ) → f n ≤ g n) → ((n : ℕ) → is_among n ms ≡ false → f n ≡ 0) → sum_once f ns ≤ sum_once g ms
sum_within ms [] f g h none = omega arith
sum_within ms (c ∷ ns) f g h none = by (is_among c ns) refl (sum_within ms ns f g h none) (sum_within ms ns (but c f) (but c g) less fewer)
  where
    less : (n : ℕ) → but c f n ≤ but c g n
    less n = elim (cases_eq c n) [
      | inl e ↦ subst (λ (k : ℕ). but c f k ≤ but c g k) e (omega (arith, but_here c f))
      | inr ne ↦ omega (arith, but_there c f n ne, but_there c g n ne, h n)
    ]

    fewer : (n : ℕ) → is_among n ms ≡ false → but c f n ≡ 0
    fewer n e = elim (cases_eq c n) [
      | inl q ↦ subst (λ (k : ℕ). but c f k ≡ 0) q (but_here c f)
      | inr ne ↦ but_there c f n ne ∙ none n e
    ]

    there : (k : ℕ → ℕ) (n : ℕ) → (c ≡ n → ⊥) → k n ≡ but c k n
    there k n ne = sym (but_there c k n ne)

    by : (b : Bool) → is_among c ns ≡ b → sum_once f ns ≤ sum_once g ms → sum_once (but c f) ns ≤ sum_once (but c g) ms → sum_once f (c ∷ ns) ≤ sum_once g ms
    by true e again rest = omega (arith, sum_again f c ns e, again)
    by false e again rest = elim (cases_Bool (is_among c ms)) [
      | inl q ↦ omega (
        arith,
        sum_new f c ns e,
        rest,
        h c,
        sum_without (but c f) f c (f c) (omega (arith, but_here c f)) (there f) ns e,
        sum_with (but c g) g c (g c) (omega (arith, but_here c g)) (there g) ms q,
      )
      | inr q ↦ omega (arith, sum_new f c ns e, none c q, again)
    ]

-- ---- different numbers take room

-- no number stands twice
abbrev pub AreDistinct : List ℕ → Type 0
AreDistinct [] = Unit {0}
AreDistinct (n ∷ ns) = (is_among n ns ≡ false) × AreDistinct ns

-- what is not among a list is not among its rest
not_there : (n k : ℕ) (ns : List ℕ) → is_among n (k ∷ ns) ≡ false → is_among n ns ≡ false
not_there n k ns e = elim (cases_Bool (is_among n ns)) [ inl q ↦ absurd (false≢true (sym e ∙ among_there k ns n q)) | inr q ↦ q ]

-- what is left was there
without_less : (k n : ℕ) (ns : List ℕ) → is_among n (without k ns) ≡ true → is_among n ns ≡ true
without_less k n [] h = h
without_less k n (x ∷ ns) h =
    cond_both (x == k) ns (x ∷ without k ns) (λ (l : List ℕ). is_among n l ≡ true → is_among n (x ∷ ns) ≡ true) (λ e q. among_there x ns n q)
    (λ e q. elim (among_cons x (without k ns) n q) [ inl r ↦ among_here x ns n r | inr r ↦ among_there x ns n (without_less k n ns r) ]) h

-- different numbers stay different without one
without_distinct : (k : ℕ) (ns : List ℕ) → AreDistinct ns → AreDistinct (without k ns)
without_distinct k [] h = tt
without_distinct k (x ∷ ns) h =
    cond_both (x == k) ns (x ∷ without k ns) AreDistinct (λ e. h.1) (λ e. (still, without_distinct k ns h.1))
  where
    still : is_among x (without k ns) ≡ false
    still = elim (cases_Bool (is_among x (without k ns))) [ inl q ↦ absurd (false≢true (sym h.0 ∙ without_less k x ns q)) | inr q ↦ q ]

-- a number left out of different ones is gone
without_it : (k : ℕ) (ns : List ℕ) → AreDistinct ns → is_among k (without k ns) ≡ true → ⊥
without_it k [] d h = false≢true h
without_it k (x ∷ ns) d h =
    cond_both (x == k) ns (x ∷ without k ns) (λ (l : List ℕ). is_among k l ≡ true → ⊥) (λ e q. false≢true (sym (subst (λ (y : ℕ). is_among y ns ≡ false) (eqb-true x k e) d.0) ∙ q))
    (λ e q. elim (among_cons x (without k ns) k q) [ inl r ↦ eqb-false x k e r | inr r ↦ without_it k ns d.1 r ]) h

-- different numbers in a row of so many are at most as many
pub distinct_fit : (room a : ℕ) (ns : List ℕ) → AreDistinct ns → ((n : ℕ) → is_among n ns ≡ true → (a < n) × (n ≤ a + room)) → length ns ≤ room
distinct_fit zero a [] d h = omega arith
distinct_fit zero a (n ∷ ns) d h = (let b : (a < n) × (n ≤ a + 0) = h n (among_here n ns n refl) in absurd (omega (arith, b.0, b.1)))
distinct_fit (suc room) a ns d h = elim (cases_Bool (is_among (suc a) ns)) [
  | inl e ↦ omega (arith, without_shorter (suc a) ns e, distinct_fit room (suc a) (without (suc a) ns) (without_distinct (suc a) ns d) (λ n q. within n (without_less (suc a) n ns q) (λ r. without_it (suc a) ns d (subst (λ (k : ℕ). is_among k (without (suc a) ns) ≡ true) r q))))
  | inr e ↦ omega (arith, distinct_fit room (suc a) ns d (λ n q. within n q (λ r. false≢true (sym e ∙ subst (λ (k : ℕ). is_among k ns ≡ true) r q))))
]
  where
    within : (n : ℕ) → is_among n ns ≡ true → (n ≡ suc a → ⊥) → (suc a < n) × (n ≤ suc a + room)
    within n q ne = (let b : (a < n) × (n ≤ a + suc room) = h n q in (omega (arith, b.0, ne), omega (arith, b.1)))

-- ---- what is held on an index

-- one more that is new leaves them different
offered_distinct : (got : List Received) (b : Bunch) (o : Offer) → AreDistinct (numbers_of got) → ((n : ℕ) → o ≡ Held n → has got n ≡ false) → AreDistinct (numbers_of (with_offer got b o))
offered_distinct got b Repeat d h = d
offered_distinct got b Ready d h = (next_new got, d)
offered_distinct got b (Held n) d h = (h n refl, d)

-- so does an entry
entry_distinct : (ch : ℕ) (got : List Received) (entry : Entry) → AreDistinct (numbers_of got) → AreDistinct (numbers_of (with_entry got ch entry))
entry_distinct ch got (Told head) d = d
entry_distinct ch got (Acked n) d = d
entry_distinct ch got (Heard b) d =
    cond_both (b.reliable && b.channel == ch) (with_bunch got b) got (λ (l : List Received). AreDistinct (numbers_of l))
    (λ e. offered_distinct got b (offer_of got (number_as got b)) d
    (offer_cases got (number_as got b) (λ (o : Offer). (n : ℕ) → o ≡ Held n → has got n ≡ false) (λ n q. absurd (never_repeat n q)) (λ n q. absurd (never_ready n q)) (λ k above new n q. ap (has got) (sym (same k n q)) ∙ new)))
    (λ e. d)
  where
    never_repeat : (n : ℕ) → (let o : Offer = Repeat in o) ≡ Held n → ⊥
    never_repeat n q = cc

    never_ready : (n : ℕ) → (let o : Offer = Ready in o) ≡ Held n → ⊥
    never_ready n q = cc

    same : (k n : ℕ) → (let o : Offer = Held k in o) ≡ Held n → k ≡ n
    same k n q = cc

-- so do the entries of a packet
received_by_distinct : (es : List Entry) (ch : ℕ) → AreDistinct (numbers_of (received_by es ch))
received_by_distinct [] ch = tt
received_by_distinct (entry ∷ es) ch = entry_distinct ch (received_by es ch) entry (received_by_distinct es ch)

-- the numbers above the next
above_in : (t : Received → Bool) (got : List Received) (n : ℕ) → is_among n (numbers_of (filter t got)) ≡ true → is_among n (numbers_of got) ≡ true
above_in t [] n h = h
above_in t (r ∷ got) n h =
    cond_both (t r) (r ∷ filter t got) (filter t got) (λ (l : List Received). is_among n (numbers_of l) ≡ true → is_among n (numbers_of (r ∷ got)) ≡ true)
    (λ e q. elim (among_cons r.0 (numbers_of (filter t got)) n q) [ inl s ↦ among_here r.0 (numbers_of got) n s | inr s ↦ among_there r.0 (numbers_of got) n (above_in t got n s) ])
    (λ e q. among_there r.0 (numbers_of got) n (above_in t got n q)) h

-- those that pass are different
above_distinct : (t : Received → Bool) (got : List Received) → AreDistinct (numbers_of got) → AreDistinct (numbers_of (filter t got))
above_distinct t [] d = tt
above_distinct t (r ∷ got) d =
    cond_both (t r) (r ∷ filter t got) (filter t got) (λ (l : List Received). AreDistinct (numbers_of l))
    (λ e. (still, above_distinct t got d.1)) (λ e. above_distinct t got d.1)
  where
    still : is_among r.0 (numbers_of (filter t got)) ≡ false
    still = elim (cases_Bool (is_among r.0 (numbers_of (filter t got)))) [ inl q ↦ absurd (false≢true (sym d.0 ∙ above_in t got r.0 q)) | inr q ↦ q ]

-- those above the next number are above it
above_next : (next : ℕ) (got : List Received) (n : ℕ) → is_among n (numbers_of (filter (λ (r : Received). nat_lt next r.0) got)) ≡ true → next < n
above_next next [] n h = absurd (false≢true h)
above_next next (r ∷ got) n h =
    cond_both (nat_lt next r.0) (r ∷ filter (λ (r : Received). nat_lt next r.0) got) (filter (λ (r : Received). nat_lt next r.0) got) (λ (l : List Received). is_among n (numbers_of l) ≡ true → next < n)
    (λ e q. elim (among_cons r.0 (numbers_of (filter (λ (r : Received). nat_lt next r.0) got)) n q) [ inl s ↦ omega (arith, ltb-true next r.0 e, s) | inr s ↦ above_next next got n s ])
    (λ e q. above_next next got n q) h

-- where nothing was heard nothing is held
unheard : (es : List Entry) (ch : ℕ) → is_among ch (filter_map channel_heard es) ≡ false → received_by es ch ≡ []
unheard [] ch e = refl
unheard (Told head ∷ es) ch e = unheard es ch e
unheard (Acked n ∷ es) ch e = unheard es ch e
unheard (Heard b ∷ es) ch e =
    let other : (b.channel == ch) ≡ false = ne_eqb b.channel ch (λ q. false≢true (sym e ∙ among_here b.channel (filter_map channel_heard es) ch q)) in
    ap (λ (t : Bool). cond (b.reliable && t) (with_bunch (received_by es ch) b) (received_by es ch)) other
    ∙ nothing b.reliable (unheard es ch (not_there ch b.channel (filter_map channel_heard es) e))
  where
    nothing : (r : Bool) → received_by es ch ≡ [] → cond (r && false) (with_bunch (received_by es ch) b) (received_by es ch) ≡ []
    nothing true q = q
    nothing false q = q

-- ---- the law

module _ (end : End) (from to : Past) (run : IsRun end from) (v : Version) (g : Transfers v from to) where
  -- the least that hasn't arrived is at most the next
  least_at_most : (ch : ℕ) → least_unarrived from ch ≤ next_of (received_on to ch)
  least_at_most ch = elim (cases_lt (next_of (received_on to ch)) (least_unarrived from ch)) [
    | inr q ↦ q
    | inl q ↦ absurd (false≢true (sym (next_new (received_on to ch)) ∙ arrived_received v end from to run g ch (next_of (received_on to ch))
        (not-false (has_arrived from ch (next_of (received_on to ch))) (least_below (λ n. not (has_arrived from ch n)) (made_count from ch) 1 (next_of (received_on to ch)) (next_low (received_on to ch)) q))))
  ]

  -- these numbers and some more are held or may be
  room_above : (ch : ℕ) (more : List ℕ) → AreDistinct (more ++ numbers_of (filter (λ (r : Received). nat_lt (next_of (received_on to ch)) r.0) (received_on to ch)))
      → ((n : ℕ) → is_among n more ≡ true → (next_of (received_on to ch) < n) × (n ≤ made_count from ch)) → length (more ++ numbers_of (filter (λ (r : Received). nat_lt (next_of (received_on to ch)) r.0) (received_on to ch))) ≤ span from ch
  room_above ch more d h =
      let least : least_unarrived from ch ≤ next_of (received_on to ch) = least_at_most ch in
      let fit : length (more ++ numbers_of (filter (λ (r : Received). nat_lt (next_of (received_on to ch)) r.0) (received_on to ch))) ≤ made_count from ch - next_of (received_on to ch) =
      distinct_fit (made_count from ch - next_of (received_on to ch)) (next_of (received_on to ch)) (more ++ numbers_of (filter (λ (r : Received). nat_lt (next_of (received_on to ch)) r.0) (received_on to ch))) d each in
      omega arith
    where
      each : (n : ℕ) → is_among n (more ++ numbers_of (filter (λ (r : Received). nat_lt (next_of (received_on to ch)) r.0) (received_on to ch))) ≡ true
          → (next_of (received_on to ch) < n) × (n ≤ next_of (received_on to ch) + (made_count from ch - next_of (received_on to ch)))
      each n q = elim (among_append more (numbers_of (filter (λ (r : Received). nat_lt (next_of (received_on to ch)) r.0) (received_on to ch))) n q) [
        | inl r ↦ (let b = h n r in (b.0, omega (arith, b.0, b.1)))
        | inr r ↦ (
            let up : next_of (received_on to ch) < n = above_next (next_of (received_on to ch)) (received_on to ch) n r in
            let made = g.within ch n (above_in (λ (r : Received). nat_lt (next_of (received_on to ch)) r.0) (received_on to ch) n r) in
            (up, omega (arith, up, made.1)))
      ]

  held_length : (ch : ℕ) → held_on to ch ≡ length (numbers_of (filter (λ (r : Received). nat_lt (next_of (received_on to ch)) r.0) (received_on to ch)))
  held_length ch = sym (length-map (filter (λ (r : Received). nat_lt (next_of (received_on to ch)) r.0) (received_on to ch)) (λ (r : Received). r.0))

  all_distinct : (ch : ℕ) → AreDistinct (numbers_of (filter (λ (r : Received). nat_lt (next_of (received_on to ch)) r.0) (received_on to ch)))
  all_distinct ch = above_distinct (λ (r : Received). nat_lt (next_of (received_on to ch)) r.0) (received_on to ch) (received_by_distinct (entries_of to) ch)

  held_at_most : (ch : ℕ) → held_on to ch ≤ span from ch
  held_at_most ch = omega (arith, held_length ch, room_above ch [] (all_distinct ch) (λ n q. absurd (false≢true q)))

  -- one more may be held
  held_below : (ch n : ℕ) → next_of (received_on to ch) < n → n ≤ made_count from ch → has (received_on to ch) n ≡ false → held_on to ch < span from ch
  held_below ch n lo hi new =
      omega (
        arith,
        held_length ch,
        room_above ch (n ∷ []) (fresh, all_distinct ch) (λ k q. elim (among_cons n [] k q) [
          | inl e ↦ (omega (arith, lo, e), omega (arith, hi, e))
          | inr e ↦ absurd (false≢true e)
        ]),
      )
    where
      fresh : is_among n (numbers_of (filter (λ (r : Received). nat_lt (next_of (received_on to ch)) r.0) (received_on to ch))) ≡ false
      fresh = elim (cases_Bool (is_among n (numbers_of (filter (λ (r : Received). nat_lt (next_of (received_on to ch)) r.0) (received_on to ch))))) [
        | inl q ↦ absurd (false≢true (sym new ∙ above_in (λ (r : Received). nat_lt (next_of (received_on to ch)) r.0) (received_on to ch) n q))
        | inr q ↦ q
      ]

  -- what is held, and one more on the index
  abbrev more_on : ℕ → ℕ → ℕ
  more_on ch k = if k == ch then held_on to ch + 1 else held_on to k

  pub no_overrun : NeverOverruns from to
  no_overrun ch n lo hi new =
      let heard : List ℕ = filter_map channel_heard (entries_of to) in
      let count : held_count to ≡ sum_once (held_on to) heard = sum_in_order (held_on to) nat_lt (each_once heard) in
      let more : sum_once (more_on ch) (ch ∷ heard) ≡ sum_once (held_on to) heard + 1 =
      sum_more (held_on to) (more_on ch) ch 1 here there heard (λ e. ap (λ (got : List Received). length (filter (λ (r : Received). nat_lt (next_of got) r.0) got)) (unheard (entries_of to) ch e)) in
      let most : sum_once (more_on ch) (ch ∷ heard) ≤ sum_once (span from) (filter_map channel_in from) =
      sum_within (filter_map channel_in from) (ch ∷ heard) (more_on ch) (span from) less none in
      omega (arith, count, more, most, span_sum_is from, (spans_fit end from run).sum)
    where
      here : more_on ch ch ≡ held_on to ch + 1
      here = ap (λ (b : Bool). if b then held_on to ch + 1 else held_on to ch) (eq-eqb ch ch refl)

      there : (k : ℕ) → (ch ≡ k → ⊥) → more_on ch k ≡ held_on to k
      there k ne = ap (λ (b : Bool). if b then held_on to ch + 1 else held_on to k) (ne_eqb k ch (λ e. ne (sym e)))

      less : (k : ℕ) → more_on ch k ≤ span from k
      less k = elim (cases_eq ch k) [
        | inl e ↦ subst (λ (x : ℕ). more_on ch x ≤ span from x) e (omega (arith, here, held_below ch n lo hi new))
        | inr ne ↦ omega (arith, there k ne, held_at_most k)
      ]

      none : (k : ℕ) → is_among k (filter_map channel_in from) ≡ false → more_on ch k ≡ 0
      none k e = omega (arith, less k, unused_span k from e)

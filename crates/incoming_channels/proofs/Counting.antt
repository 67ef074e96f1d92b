-- How many bunches are held past gaps.
use Rattle.std.proofs.Common.{◌≡◌, inl, inr, ℕ, zero, suc, ◌+◌, ◌-◌, ◌<◌, ◌≤◌, ◌==◌, ◌&&◌, List, [], ◌∷◌, filter, length, Bool, true, false, cond, nat_lt, refl, sym, ap, ◌∙◌, subst, arith}
use Rattle.std.specs.List.{filter_map}
use Rattle.std.proofs.lemmas.Bool.{cases_Bool, false≢true, cases_eq, cases_lt, cond_both, ne_eqb}
use Rattle.std.proofs.lemmas.Bool.Decides.{nat_tests}
use Rattle.protocol_model.specs.Packet.{Bunch}
use Rattle.protocol_model.specs.Search.{is_among, each_once}
use Rattle.connection_model.specs.Feed.{Past, Entry, Told, Acked, Heard}
use Rattle.connection_model.specs.Fates.{entries_of}
use Rattle.connection_model.specs.Windows.{Received, numbers_of, next_of, number_as, Offer, Repeat, Ready, Held, offer_of, with_offer, with_bunch, with_entry, received_by, channel_heard, held_on, held_count}
use Rattle.connection_laws.proofs.Searches.{among_cons, among_here, among_there}
use Rattle.connection_laws.proofs.Sums.{sum_once, sum_in_order, sum_again, sum_new, sum_without, sum_with}
use Rattle.connection_laws.proofs.Receiving.{has, next_new, next_low, below_next}
use Rattle.connection_laws.proofs.Applied.{offer_cases, next_is}
use Rattle.incoming_channels.specs.Steps.{AreDistinct, held_of}

-- ---- numbers above another

-- 1 where the number is above
abbrev one_above : ℕ → ℕ → ℕ
one_above n k = cond (nat_lt n k) 1 0

-- how many numbers are above
abbrev above : ℕ → List ℕ → ℕ
above n ns = length (filter (λ (k : ℕ). nat_lt n k) ns)

-- those of bunches
above_of : (n : ℕ) (got : List Received)
    → length (filter (λ (r : Received). nat_lt n r.0) got) ≡ above n (numbers_of got)
above_of n [] = refl
above_of n (r ∷ got) = by (nat_lt n r.0) (above_of n got)
  where
    by : (b : Bool) → length (filter (λ (r : Received). nat_lt n r.0) got) ≡ above n (numbers_of got)
        → length (cond b (r ∷ filter (λ (r : Received). nat_lt n r.0) got)
        (filter (λ (r : Received). nat_lt n r.0) got))
        ≡ length (cond b (r.0 ∷ filter (λ (k : ℕ). nat_lt n k) (numbers_of got))
        (filter (λ (k : ℕ). nat_lt n k) (numbers_of got)))
    by true h = ap suc h
    by false h = h

-- one more
above_more : (n k : ℕ) (ns : List ℕ) → above n (k ∷ ns) ≡ one_above n k + above n ns
above_more n k ns = by (nat_lt n k)
  where
    by : (b : Bool)
        → length (cond b (k ∷ filter (λ (j : ℕ). nat_lt n j) ns) (filter (λ (j : ℕ). nat_lt n j) ns)) ≡
        (let o : ℕ = cond b 1 0 in o) + above n ns
    by true = omega arith
    by false = omega arith

-- the next number up isn't there
above_gap : (n : ℕ) (ns : List ℕ) → is_among (n + 1) ns ≡ false → above n ns ≡ above (n + 1) ns
above_gap n [] e = refl
above_gap n (k ∷ ns) e =
    omega (arith, above_more n k ns, above_more (n + 1) k ns, above_gap n ns rest, same k other)
  where
    other : k ≡ n + 1 → ⊥
    other q = false≢true (sym e ∙ among_here k ns (n + 1) q)

    rest : is_among (n + 1) ns ≡ false
    rest =
        elim (cases_Bool (is_among (n + 1) ns))
        [ inl t ↦ absurd (false≢true (sym e ∙ among_there k ns (n + 1) t)) | inr t ↦ t ]

    same : (j : ℕ) → (j ≡ n + 1 → ⊥) → one_above n j ≡ one_above (n + 1) j
    same j ne = grind (arith, nat_tests)

-- it is there, once
above_one : (n : ℕ) (ns : List ℕ) → AreDistinct ns → is_among (n + 1) ns ≡ true
    → above n ns ≡ above (n + 1) ns + 1
above_one n [] d e = absurd (false≢true e)
above_one n (k ∷ ns) d e = elim (cases_eq k (n + 1)) [
  | inl q ↦ omega (
    arith,
    above_more n k ns,
    above_more (n + 1) k ns,
    above_gap n ns
        (subst (λ (j : ℕ). is_among j ns ≡ false) q d.0),
    here k q,
  )
  | inr q ↦ omega (arith, above_more n k ns, above_more (n + 1) k ns, above_one n ns d.1 (there q), same k q)
]
  where
    here : (j : ℕ) → j ≡ n + 1 → one_above n j ≡ one_above (n + 1) j + 1
    here j q = grind (arith, nat_tests)

    same : (j : ℕ) → (j ≡ n + 1 → ⊥) → one_above n j ≡ one_above (n + 1) j
    same j ne = grind (arith, nat_tests)

    there : (k ≡ n + 1 → ⊥) → is_among (n + 1) ns ≡ true
    there ne = elim (among_cons k ns (n + 1) e) [ inl r ↦ absurd (ne r) | inr r ↦ r ]

-- all of a row are there
above_row : (n count : ℕ) (ns : List ℕ) → AreDistinct ns
    → ((i : ℕ) → n < i → i ≤ n + count → is_among i ns ≡ true) → above n ns ≡ above (n + count) ns + count
above_row n zero ns d all = (let e : n + 0 ≡ n = omega arith in rw e (omega arith))
above_row n (suc count) ns d all =
    let e : n + suc count ≡ n + 1 + count = omega arith in
    rw e (omega (
      arith,
      above_one n ns d (all (n + 1) (omega arith) (omega arith)),
      above_row (n + 1) count ns
          d (λ i lo hi. all i (omega arith) (omega arith)),
    ))

-- ---- one more bunch

-- the next number grows
pub next_later : (got : List Received) (b : Bunch) → next_of got + 1 ≤ next_of ((next_of got, b) ∷ got)
next_later got b = elim (cases_lt (next_of got) (next_of ((next_of got, b) ∷ got))) [
  | inl q ↦ omega arith
  | inr q ↦ absurd (false≢true (sym (next_new ((next_of got, b) ∷ got)) ∙ low
      (next_of ((next_of got, b) ∷ got)) (next_low ((next_of got, b) ∷ got)) q))
]
  where
    low : (i : ℕ) → 1 ≤ i → i ≤ next_of got → has ((next_of got, b) ∷ got) i ≡ true
    low i lo hi = elim (cases_eq (next_of got) i) [
      | inl q ↦ among_here (next_of got) (numbers_of got) i q
      | inr q ↦ among_there (next_of got) (numbers_of got) i (below_next got i lo (omega (arith, q)))
    ]

-- the next comes, and all behind it up to a gap are held no more
pub count_ready : (got : List Received) (b : Bunch) → AreDistinct (numbers_of got)
    → held_of got ≡ held_of ((next_of got, b) ∷ got) + (next_of ((next_of got, b) ∷ got) - (next_of got + 1))
count_ready got b d =
    let new : List Received = (next_of got, b) ∷ got in
    let n : ℕ = next_of got in
    let m : ℕ = next_of new in
    let count : ℕ = m - (n + 1) in
    let row : above n (numbers_of got) ≡ above (n + count) (numbers_of got) + count = above_row n count
    (numbers_of got) d (λ i lo hi. between i lo (omega arith)) in
    let last : above (n + count) (numbers_of got) ≡ above (n + count + 1) (numbers_of got) = above_gap
    (n + count) (numbers_of got) (gap (n + count + 1) (omega (arith, next_later got b))) in
    let end : n + count + 1 ≡ m = omega (arith, next_later got b) in
    let own : above m (numbers_of new) ≡ one_above m n + above m (numbers_of got) = above_more m n
    (numbers_of got) in
    omega (
      arith,
      above_of n got,
      above_of m new,
      row,
      last,
      ap (λ (k : ℕ). above k (numbers_of got)) end,
      own,
      below m n (next_later got b),
    )
  where
    below : (m n : ℕ) → n + 1 ≤ m → one_above m n ≡ 0
    below m n h = grind (arith, nat_tests)

    between : (i : ℕ) → next_of got < i → i < next_of ((next_of got, b) ∷ got)
        → is_among i (numbers_of got) ≡ true
    between i lo hi =
        elim (among_cons (next_of got) (numbers_of got) i
        (below_next ((next_of got, b) ∷ got) i (omega arith) hi)) [
          | inl q ↦ absurd (omega (arith, q))
          | inr q ↦ q
        ]

    gap : (k : ℕ) → k ≡ next_of ((next_of got, b) ∷ got) → is_among k (numbers_of got) ≡ false
    gap k e = elim (cases_Bool (is_among k (numbers_of got))) [
      | inr t ↦ t
      | inl t ↦ absurd (false≢true (sym (next_new ((next_of got, b) ∷ got)) ∙ among_there (next_of got)
          (numbers_of got) (next_of ((next_of got, b) ∷ got))
          (subst (λ (i : ℕ). is_among i (numbers_of got) ≡ true) e t)))
    ]

-- one past a gap is held
pub count_held : (got : List Received) (b : Bunch) (n : ℕ) → next_of got < n → has got n ≡ false
    → held_of ((n, b) ∷ got) ≡ held_of got + 1
count_held got b n up new =
    let next : next_of ((n, b) ∷ got) ≡ next_of got = next_is ((n, b) ∷ got) (next_of got) (next_low got)
    (λ i lo hi. among_there n (numbers_of got) i (below_next got i lo hi)) still in
    omega (
      arith,
      above_of (next_of ((n, b) ∷ got)) ((n, b) ∷ got),
      ap (λ (k : ℕ). above k (numbers_of ((n, b) ∷ got))) next,
      above_more (next_of got) n (numbers_of got),
      above_of (next_of got) got,
      more (next_of got) n up,
    )
  where
    more : (k n : ℕ) → k < n → one_above k n ≡ 1
    more k n h = grind (arith, nat_tests)

    still : has ((n, b) ∷ got) (next_of got) ≡ false
    still = elim (cases_Bool (has ((n, b) ∷ got) (next_of got))) [
      | inr e ↦ e
      | inl e ↦ elim (among_cons n (numbers_of got) (next_of got) e) [
        | inl q ↦ absurd (omega (arith, q, up))
        | inr q ↦ absurd (false≢true (sym (next_new got) ∙ q))
      ]
    ]

-- ---- no number twice

-- one more that is new
offered_distinct : (got : List Received) (b : Bunch) (o : Offer) → AreDistinct (numbers_of got)
    → ((n : ℕ) → o ≡ Held n → has got n ≡ false) → AreDistinct (numbers_of (with_offer got b o))
offered_distinct got b Repeat d h = d
offered_distinct got b Ready d h = (next_new got, d)
offered_distinct got b (Held n) d h = (h n refl, d)

entry_distinct : (ch : ℕ) (got : List Received) (entry : Entry) → AreDistinct (numbers_of got)
    → AreDistinct (numbers_of (with_entry got ch entry))
entry_distinct ch got (Told head) d = d
entry_distinct ch got (Acked n) d = d
entry_distinct ch got (Heard b) d =
    cond_both (b.reliable && b.channel == ch) (with_bunch got b) got
    (λ (l : List Received). AreDistinct (numbers_of l))
    (λ e. offered_distinct got b (offer_of got (number_as got b)) d
    (offer_cases got (number_as got b) (λ (o : Offer). (n : ℕ) → o ≡ Held n → has got n ≡ false)
    (λ n q. absurd (never_repeat n q)) (λ n q. absurd (never_ready n q))
    (λ k up new n q. ap (has got) (sym (same k n q)) ∙ new)))
    (λ e. d)
  where
    never_repeat : (n : ℕ) → (let o : Offer = Repeat in o) ≡ Held n → ⊥
    never_repeat n q = cc

    never_ready : (n : ℕ) → (let o : Offer = Ready in o) ≡ Held n → ⊥
    never_ready n q = cc

    same : (k n : ℕ) → (let o : Offer = Held k in o) ≡ Held n → k ≡ n
    same k n q = cc

-- of all that was received on a channel
pub received_distinct : (es : List Entry) (ch : ℕ) → AreDistinct (numbers_of (received_by es ch))
received_distinct [] ch = tt
received_distinct (entry ∷ es) ch = entry_distinct ch (received_by es ch) entry (received_distinct es ch)

-- ---- on all channels

-- where nothing was heard nothing was received
unheard : (es : List Entry) (ch : ℕ) → is_among ch (filter_map channel_heard es) ≡ false
    → received_by es ch ≡ []
unheard [] ch e = refl
unheard (Told head ∷ es) ch e = unheard es ch e
unheard (Acked n ∷ es) ch e = unheard es ch e
unheard (Heard b ∷ es) ch e =
    let other : (b.channel == ch) ≡ false = ne_eqb b.channel ch
    (λ q. false≢true (sym e ∙ among_here b.channel (filter_map channel_heard es) ch q)) in
    ap (λ (t : Bool). cond (b.reliable && t) (with_bunch (received_by es ch) b) (received_by es ch)) other
    ∙ nothing b.reliable (unheard es ch rest)
  where
    rest : is_among ch (filter_map channel_heard es) ≡ false
    rest =
        elim (cases_Bool (is_among ch (filter_map channel_heard es))) [
          | inl t ↦ absurd
              (false≢true (sym e ∙ among_there b.channel (filter_map channel_heard es) ch t))
          | inr t ↦ t
        ]

    nothing : (r : Bool) → received_by es ch ≡ []
        → cond (r && false) (with_bunch (received_by es ch) b) (received_by es ch) ≡ []
    nothing true q = q
    nothing false q = q

-- a sum in which one number's share changes either way
sum_moves : (f g : ℕ → ℕ) (c a b : ℕ) (ns : List ℕ) → g c + a ≡ f c + b → ((n : ℕ) → (c ≡ n → ⊥) → g n ≡ f n)
    → (is_among c ns ≡ false → f c ≡ 0)
    → sum_once g (c ∷ ns) + a ≡ sum_once f ns + b
sum_moves f g c a b ns here there none = elim (cases_lt a b) [
  | inl up ↦ (let d : g c ≡ f c + (b - a) = omega arith in elim (cases_Bool (is_among c ns)) [
    | inl t ↦ omega (arith, sum_again g c ns t, sum_with f g c (b - a) d there ns t)
    | inr t ↦ omega (arith, sum_new g c ns t, none t, sum_without f g c (b - a) d there ns t)
  ])
  | inr down ↦ (let d : f c ≡ g c + (a - b) = omega arith in elim (cases_Bool (is_among c ns)) [
    | inl t ↦ omega (arith, sum_again g c ns t, sum_with g f c (a - b) d (λ n ne. sym (there n ne)) ns t)
    | inr t ↦ omega
        (arith, sum_new g c ns t, none t, sum_without g f c (a - b) d (λ n ne. sym (there n ne)) ns t)
  ])
]

count_is : (past : Past)
    → held_count past ≡ sum_once (held_on past) (filter_map channel_heard (entries_of past))
count_is past = sum_in_order (held_on past) nat_lt (each_once (filter_map channel_heard (entries_of past)))

-- what a bunch changes on its channel it changes in all
pub count_moves : (past later : Past) (c a b : ℕ)
    → filter_map channel_heard (entries_of later) ≡ c ∷ filter_map channel_heard (entries_of past)
    → held_on later c + a ≡ held_on past c + b → ((n : ℕ) → (c ≡ n → ⊥) → held_on later n ≡ held_on past n)
    → held_count later + a ≡ held_count past + b
count_moves past later c a b heard here there =
    let ns : List ℕ = filter_map channel_heard (entries_of past) in
    omega (
      arith,
      count_is later,
      count_is past,
      ap (sum_once (held_on later)) heard,
      sum_moves (held_on past) (held_on later) c a b ns here there
          (λ e. ap (λ (got : List Received). length (filter (λ (r : Received). nat_lt (next_of got) r.0) got))
          (unheard (entries_of past) c e)),
    )

-- one share is no more than the sum
share : (f : ℕ → ℕ) (c : ℕ) (ns : List ℕ) → is_among c ns ≡ true → f c ≤ sum_once f ns
share f c [] e = absurd (false≢true e)
share f c (n ∷ ns) e = elim (cases_Bool (is_among n ns)) [
  | inl t ↦ (elim (among_cons n ns c e) [
    | inl q ↦ omega (arith, sum_again f n ns t, share f c ns (subst (λ (k : ℕ). is_among k ns ≡ true) q t))
    | inr q ↦ omega (arith, sum_again f n ns t, share f c ns q)
  ])
  | inr t ↦ (elim (among_cons n ns c e) [
    | inl q ↦ omega (arith, sum_new f n ns t, ap f q)
    | inr q ↦ omega (arith, sum_new f n ns t, share f c ns q)
  ])
]

-- a channel holds no more than all
pub count_least : (past : Past) (ch : ℕ) → held_on past ch ≤ held_count past
count_least past ch = elim (cases_Bool (is_among ch (filter_map channel_heard (entries_of past)))) [
  | inl t ↦ omega
      (arith, count_is past, share (held_on past) ch (filter_map channel_heard (entries_of past)) t)
  | inr t ↦ omega (
    arith,
    ap
        (λ (got : List Received). length (filter (λ (r : Received). nat_lt (next_of got) r.0) got))
        (unheard (entries_of past) ch t),
  )
]

-- What one more bunch adds to the run that is applied, and to what is joined of it.
use Rattle.std.proofs.Common.{◌≡◌, inl, inr, ℕ, zero, suc, ◌+◌, ◌-◌, ◌<◌, ◌≤◌, ◌==◌, ◌||◌, ◌&&◌, List, [], ◌∷◌, ◌++◌, reverse, Bool, true, false, cond, nat_lt, refl, sym, ap, ◌∙◌, subst, arith, Option, Some, None, ℤ, pos, negsuc, append_assoc, append-nil}
use Rattle.std.specs.List.{filter_map, cons_option, slice_get, range_with_len, AllByRecursion}
use Rattle.std.specs.Bool.{then_some}
use Rattle.std.proofs.lemmas.Bool.{cases_Bool, false≢true, cases_eq, cases_lt, cond_both, or_parts, and_parts, eqb-true, eqb-false, ltb-false}
use Rattle.std.proofs.lemmas.List.{reverse-append}
use Rattle.std.proofs.lemmas.List.Elements.{filter_map-append}
use Rattle.protocol_model.specs.Packet.{Bunch}
use Rattle.protocol_model.specs.Search.{newest_of, items_since}
use Rattle.connection_model.specs.Feed.{Past, Entry, Told, Acked, Heard}
use Rattle.connection_model.specs.Fates.{entries_of}
use Rattle.connection_model.specs.Windows.{Received, numbers_of, next_of, number_as, Offer, Repeat, Ready, Held, offer_of, with_offer, with_bunch, with_entry, received_by, received_on, as_number, run_of, applied_of, ends_payload, kept_of, first_of, joined_bits, wholes_from}
use Rattle.connection_laws.proofs.Searches.{among_cons, among_there}
use Rattle.connection_laws.proofs.Receiving.{has, below_next, next_low, next_new, as_other}
use Rattle.connection_laws.proofs.Prefixes.{range_split, found_same}

-- ---- the next number

-- the next number is the least that was not received
pub next_is : (got : List Received) (m : ℕ) → 1 ≤ m → ((i : ℕ) → 1 ≤ i → i < m → has got i ≡ true) → has got m ≡ false → next_of got ≡ m
next_is got m lo below new = elim (cases_lt (next_of got) m) [
  | inl lt ↦ absurd (false≢true (sym (next_new got) ∙ below (next_of got) (next_low got) lt))
  | inr ge ↦ elim (cases_eq (next_of got) m) [
    | inl e ↦ e
    | inr ne ↦ absurd (false≢true (sym new ∙ below_next got m lo (omega (arith, ge, ne))))
  ]
]

-- ---- what becomes of a bunch

-- whatever holds of each offer that there may be holds of the offer that there is
pub offer_cases : (got : List Received) (z : ℤ) (P : Offer → Type 0) → P Repeat → P Ready → ((n : ℕ) → next_of got < n → has got n ≡ false → P (Held n)) → P (offer_of got z)
offer_cases got (negsuc n) P repeat ready held = repeat
offer_cases got (pos n) P repeat ready held =
    cond_both (n == next_of got) Ready (cond (nat_lt n (next_of got) || has got n) Repeat (Held n)) P (λ e. ready)
    (λ e. cond_both (nat_lt n (next_of got) || has got n) Repeat (Held n) P (λ q. repeat)
    (λ q. (let r = or_parts (nat_lt n (next_of got)) (has got n) q in held n (above (eqb-false n (next_of got) e) (ltb-false n (next_of got) r.0)) r.1)))
  where
    above : (n ≡ next_of got → ⊥) → next_of got ≤ n → next_of got < n
    above ne le = omega (arith, ne)

-- one that is held changes nothing that is applied
pub applied_held : (got : List Received) (b : Bunch) (n : ℕ) → next_of got < n → has got n ≡ false → applied_of ((n, b) ∷ got) ≡ applied_of got
applied_held got b n above new =
    let next : next_of ((n, b) ∷ got) ≡ next_of got = next_is ((n, b) ∷ got) (next_of got) (next_low got) (λ i lo hi. among_there n (numbers_of got) i (below_next got i lo hi)) still in
    ap (λ (k : ℕ). run_of ((n, b) ∷ got) 1 (k - 1)) next
    ∙ found_same (λ i. newest_of (as_number i) ((n, b) ∷ got)) (λ i. newest_of (as_number i) got) 1 (next_of got - 1)
    (λ i lo hi. as_other i n b got (λ e. absurd (omega (arith, e, above))))
  where
    still : has ((n, b) ∷ got) (next_of got) ≡ false
    still = elim (cases_Bool (has ((n, b) ∷ got) (next_of got))) [
      | inr e ↦ e
      | inl e ↦ elim (among_cons n (numbers_of got) (next_of got) e) [
        | inl q ↦ absurd (omega (arith, q, above))
        | inr q ↦ absurd (false≢true (sym (next_new got) ∙ q))
      ]
    ]

-- one whose turn it is adds itself and the held ones that follow
pub applied_ready : (got : List Received) (b : Bunch) → applied_of ((next_of got, b) ∷ got) ≡ applied_of got ++ run_of ((next_of got, b) ∷ got) (next_of got) (next_of ((next_of got, b) ∷ got) - next_of got)
applied_ready got b =
    let new : List Received = (next_of got, b) ∷ got in
    let low : 1 ≤ next_of got = next_low got in
    let count : next_of new - 1 ≡ (next_of got - 1) + (next_of new - next_of got) = omega (arith, later) in
    let from : 1 + (next_of got - 1) ≡ next_of got = omega arith in
    ap (λ (k : ℕ). run_of new 1 k) count
    ∙ ap (filter_map (λ n. newest_of (as_number n) new)) (range_split 1 (next_of got - 1) (next_of new - next_of got))
    ∙ filter_map-append (λ n. newest_of (as_number n) new) (range_with_len 1 (next_of got - 1)) (range_with_len (1 + (next_of got - 1)) (next_of new - next_of got))
    ∙ ap (λ (l : List Bunch). l ++ run_of new (1 + (next_of got - 1)) (next_of new - next_of got))
    (found_same (λ n. newest_of (as_number n) new) (λ n. newest_of (as_number n) got) 1 (next_of got - 1) (λ i lo hi. as_other i (next_of got) b got (λ e. absurd (omega (arith, e)))))
    ∙ ap (λ (k : ℕ). applied_of got ++ run_of new k (next_of new - next_of got)) from
  where
    later : next_of got ≤ next_of ((next_of got, b) ∷ got)
    later = elim (cases_lt (next_of ((next_of got, b) ∷ got)) (next_of got)) [
      | inr q ↦ q
      | inl q ↦ absurd (false≢true (sym (next_new ((next_of got, b) ∷ got)) ∙ among_there (next_of got) (numbers_of got) (next_of ((next_of got, b) ∷ got)) (below_next got (next_of ((next_of got, b) ∷ got)) (next_low ((next_of got, b) ∷ got)) q)))
    ]

-- ---- joining goes on

-- the parts that are kept after a run
abbrev pub kept_after : (kept : List Bunch) → List Bunch → List Bunch
kept_after kept [] = kept
kept_after kept (b ∷ run) = cond (ends_payload b) (kept_after [] run) (kept_after (b ∷ kept) run)

-- what is joined of two runs is joined of the first, and then of the second with what was kept
pub wholes_split : (xs ys kept : List Bunch) → wholes_from kept (xs ++ ys) ≡ wholes_from kept xs ++ wholes_from (kept_after kept xs) ys
wholes_split [] ys kept = refl
wholes_split (x ∷ xs) ys kept = by (ends_payload x) (wholes_split xs ys []) (wholes_split xs ys (x ∷ kept))
  where
    by : (b : Bool) → wholes_from [] (xs ++ ys) ≡ wholes_from [] xs ++ wholes_from (kept_after [] xs) ys → wholes_from (x ∷ kept) (xs ++ ys) ≡ wholes_from (x ∷ kept) xs ++ wholes_from (kept_after (x ∷ kept) xs) ys
        → cond b ((first_of kept x, joined_bits kept x) ∷ wholes_from [] (xs ++ ys)) (wholes_from (x ∷ kept) (xs ++ ys))
        ≡ cond b ((first_of kept x, joined_bits kept x) ∷ wholes_from [] xs) (wholes_from (x ∷ kept) xs) ++ wholes_from (cond b (kept_after [] xs) (kept_after (x ∷ kept) xs)) ys
    by true h g = ap (λ (l : List (Bunch × List Bool)). (first_of kept x, joined_bits kept x) ∷ l) h
    by false h g = g

-- what came after an end of a payload is not changed by what comes before it
since_cut : (xs : List Bunch) (b : Bunch) (ys : List Bunch) → ends_payload b ≡ true → items_since ends_payload (xs ++ b ∷ ys) ≡ items_since ends_payload (xs ++ [])
since_cut [] b ys e = rw e refl
since_cut (x ∷ xs) b ys e = ap (λ (l : List Bunch). cond (ends_payload x) [] (x ∷ l)) (since_cut xs b ys e)

-- the bunches kept are those since the last end of a payload
kept_like : (xs kept : List Bunch) → items_since ends_payload kept ≡ kept → items_since ends_payload (reverse xs ++ kept) ≡ kept_after kept xs
kept_like [] kept h = h
kept_like (x ∷ xs) kept h = by (ends_payload x) refl (kept_like xs [] refl) (λ q. kept_like xs (x ∷ kept) q)
  where
    turn : reverse (x ∷ xs) ++ kept ≡ reverse xs ++ (x ∷ kept)
    turn = ap (λ (l : List Bunch). l ++ kept) (reverse-append (x ∷ []) xs) ∙ append_assoc (reverse xs) (x ∷ []) kept

    by : (b : Bool) → ends_payload x ≡ b → items_since ends_payload (reverse xs ++ []) ≡ kept_after [] xs → (items_since ends_payload (x ∷ kept) ≡ x ∷ kept → items_since ends_payload (reverse xs ++ (x ∷ kept)) ≡ kept_after (x ∷ kept) xs)
        → items_since ends_payload (reverse (x ∷ xs) ++ kept) ≡ cond b (kept_after [] xs) (kept_after (x ∷ kept) xs)
    by true e g f = ap (items_since ends_payload) turn ∙ since_cut (reverse xs) x kept e ∙ g
    by false e g f = ap (items_since ends_payload) turn ∙ f (ap (λ (b : Bool). cond b [] (x ∷ items_since ends_payload kept)) e ∙ ap (λ (l : List Bunch). x ∷ l) h)

-- the parts that are kept of a run
pub kept_is : (xs : List Bunch) → kept_of xs ≡ kept_after [] xs
kept_is xs = ap (items_since ends_payload) (sym (append-nil (reverse xs))) ∙ kept_like xs [] refl

-- ---- what is received on an index

-- the bunch is a reliable one of the index
pub record IsOn (ch : ℕ) (b : Bunch) : Type 0 where
  pub channel : b.channel ≡ ch
  pub reliable : b.reliable ≡ true

-- what holds of what was received holds with one more
offered_on : (P : Bunch → Type 0) (got : List Received) (b : Bunch) (o : Offer) → P b → AllByRecursion (λ (r : Received). P r.1) got → AllByRecursion (λ (r : Received). P r.1) (with_offer got b o)
offered_on P got b Repeat p h = h
offered_on P got b Ready p h = (p, h)
offered_on P got b (Held n) p h = (p, h)

-- each bunch received on an index is of it
entry_on : (ch : ℕ) (got : List Received) (entry : Entry) → AllByRecursion (λ (r : Received). IsOn ch r.1) got → AllByRecursion (λ (r : Received). IsOn ch r.1) (with_entry got ch entry)
entry_on ch got (Told head) h = h
entry_on ch got (Acked n) h = h
entry_on ch got (Heard b) h =
    cond_both (b.reliable && b.channel == ch) (with_bunch got b) got (AllByRecursion (λ (r : Received). IsOn ch r.1))
    (λ e. (let q : (b.reliable ≡ true) × ((b.channel == ch) ≡ true) = and_parts b.reliable (b.channel == ch) e in
    offered_on (IsOn ch) got b (offer_of got (number_as got b)) (record { channel = eqb-true b.channel ch q.1; reliable = q.0 }) h))
    (λ e. h)

-- so of a packet
received_by_on : (es : List Entry) (ch : ℕ) → AllByRecursion (λ (r : Received). IsOn ch r.1) (received_by es ch)
received_by_on [] ch = tt
received_by_on (entry ∷ es) ch = entry_on ch (received_by es ch) entry (received_by_on es ch)

-- what was received on an index is of it
pub received_are_on : (past : Past) (ch : ℕ) → AllByRecursion (λ (r : Received). IsOn ch r.1) (received_on past ch)
received_are_on past ch = received_by_on (entries_of past) ch

-- so are those of a run
found_on : (P : Bunch → Type 0) (n : ℕ) (got : List Received) (b : Bunch) → AllByRecursion (λ (r : Received). P r.1) got → newest_of (as_number n) got ≡ Some b → P b
found_on P n [] b h e = absurd (let never : (let o : Option Bunch = None in o) ≡ Some b = e in cc)
found_on P n (r ∷ got) b h e = by (r.0 == n) e (λ q. found_on P n got b h.1 q)
  where
    same : (x y : Bunch) → (let o : Option Bunch = Some x in o) ≡ Some y → x ≡ y
    same x y q = cc

    by : (t : Bool) → slice_get (cons_option (then_some t r.1) (filter_map (as_number n) got)) 0 ≡ Some b → (newest_of (as_number n) got ≡ Some b → P b) → P b
    by true q ih = subst P (same r.1 b q) h.0
    by false q ih = ih q

-- what holds of what was received holds of the run
pub run_on : (P : Bunch → Type 0) (got : List Received) (from count : ℕ) → AllByRecursion (λ (r : Received). P r.1) got → AllByRecursion P (run_of got from count)
run_on P got from zero h = tt
run_on P got from (suc count) h = by (newest_of (as_number from) got) refl (run_on P got (from + 1) count h)
  where
    by : (o : Option Bunch) → newest_of (as_number from) got ≡ o → AllByRecursion P (run_of got (from + 1) count) → AllByRecursion P (cons_option o (run_of got (from + 1) count))
    by None e rest = rest
    by (Some b) e rest = (found_on P from got b h e, rest)

-- what holds of bunches holds of those kept
pub kept_on : (P : Bunch → Type 0) (xs kept : List Bunch) → AllByRecursion P kept → AllByRecursion P xs → AllByRecursion P (kept_after kept xs)
kept_on P [] kept k h = k
kept_on P (x ∷ xs) kept k h =
    cond_both (ends_payload x) (kept_after [] xs) (kept_after (x ∷ kept) xs) (AllByRecursion P) (λ e. kept_on P xs [] tt h.1) (λ e. kept_on P xs (x ∷ kept) (h.0, k) h.1)

-- what holds of bunches holds of the first one kept
pub first_on : (P : Bunch → Type 0) (kept : List Bunch) (b : Bunch) → AllByRecursion P kept → P b → P (first_of kept b)
first_on P [] b k h = h
first_on P (x ∷ kept) b k h = first_on P kept x k.1 k.0

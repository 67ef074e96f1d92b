-- The numbers that a tick owes ascend, above all that was told before.
use Rattle.std.proofs.Common.{◌≡◌, inl, inr, ℕ, ◌<◌, List, [], ◌∷◌, ◌++◌, map, take, drop, reverse, Bool, true, false, refl, sym, ap, ◌∙◌, subst, arith}
use Rattle.std.specs.List.{filter_map, AllByRecursion}
use Rattle.std.proofs.lemmas.Bool.{false≢true}
use Rattle.std.proofs.lemmas.List.{reverse-append, take-append-drop}
use Rattle.std.proofs.lemmas.List.Elements.{filter_map-append}
use Rattle.protocol_model.specs.declared.Version.{Version}
use Rattle.protocol_model.specs.declared.Version.TheVariants.{One, Two}
use Rattle.protocol_model.specs.Search.{is_among, greatest_of, items_since}
use Rattle.connection_model.specs.Feed.{End, Past, Owed, has_ended, is_tick, deeds_since_tick}
use Rattle.connection_model.specs.Fates.{taken_of, taken_in, owed_of}
use Rattle.connection_laws.specs.Run.{Move, Ticks, Makes, Defers, Sends, Takes, Hears, Hands, Ends, after_move, May, IsRun, MaySend, Ascends, Acknowledges, acknowledged_of}
use Rattle.connection_laws.specs.Acknowledged.{AcknowledgesTaken}
use Rattle.connection_laws.specs.Taken.{Falls}
use Rattle.connection_laws.proofs.Searches.{among_cons, among_append, among_here, among_there, among_left, greatest_in}
use Rattle.connection_laws.proofs.Deeds.{always}
use Rattle.connection_laws.proofs.AcksInOrder.{tells_taken, taken_made, taken_told, taken_handed}
use Rattle.protocol_laws.proofs.Greatest.{greatest_of-append, greatest_of-cons}

-- ---- the numbers taken

-- the numbers taken ascend
pub taken_falls : (end : End) (past : Past) → IsRun end past → Falls (taken_of past)
taken_falls end past run = always end (λ p. Falls (taken_of p)) tt step past run
  where
    step : (past : Past) (move : Move) → IsRun end past → has_ended past ≡ false → May end past move → Falls (taken_of past) → Falls (taken_of (after_move past move))
    step past (Ticks sight) run alive may h = h
    step past (Makes ch m) run alive may h = subst Falls (sym (taken_made past ch m)) h
    step past (Defers m) run alive may h = h
    step past (Sends items) run alive may h = h
    step past (Takes n) run alive may h = (may, h)
    step past (Hears entry) run alive may h = subst Falls (sym (taken_told entry past)) h
    step past (Hands d) run alive may h = subst Falls (sym (taken_handed d past)) h
    step past (Ends ending) run alive may h = h

-- numbers that fall begin with numbers that fall
falls_first : (xs ys : List ℕ) → Falls (xs ++ ys) → Falls xs
falls_first [] ys h = tt
falls_first (x ∷ xs) ys h = (omega (arith, h.0, greatest_of-append xs ys), falls_first xs ys h.1)

-- ---- a list and what came after its newest item of a kind

-- what came since something is the newest part
since_begins : {A : Type 0} (test : A → Bool) (xs : List A) → (rest : List A) × (xs ≡ items_since test xs ++ rest)
since_begins test [] = ([], refl)
since_begins {A = A} test (x ∷ xs) = by (test x) refl (since_begins test xs)
  where
    by : (b : Bool) → test x ≡ b → ((rest : List A) × (xs ≡ items_since test xs ++ rest)) → (rest : List A) × (x ∷ xs ≡ items_since test (x ∷ xs) ++ rest)
    by true e h = (x ∷ xs, rw e refl)
    by false e h = (h.0, rw e (ap (λ (l : List A). x ∷ l) h.1))

-- what was taken since the tick is the newest part of what was taken
pub taken_since_begins : (past : Past) → (rest : List ℕ) × (taken_of past ≡ taken_of (deeds_since_tick past) ++ rest)
taken_since_begins past =
    let s : (rest : Past) × (past ≡ items_since is_tick past ++ rest) = since_begins is_tick past in
    (taken_of s.0, ap (filter_map taken_in) s.1 ∙ filter_map-append taken_in (items_since is_tick past) s.0)

-- ---- ascending

-- ascending numbers with a greater one ascend
ascends_push : (low : ℕ) (xs : List ℕ) (n : ℕ) → Ascends low xs → greatest_of xs < n → low < n → Ascends low (xs ++ n ∷ [])
ascends_push low [] n h g l = (l, tt)
ascends_push low (x ∷ xs) n h g l =
    (h.0, ascends_push x xs n h.1 (omega (arith, g, greatest_of-cons x xs)) (omega (arith, g, greatest_of-cons x xs)))

-- the greatest of a list reversed
greatest_reverse : (xs : List ℕ) → greatest_of (reverse xs) ≡ greatest_of xs
greatest_reverse [] = refl
greatest_reverse (x ∷ xs) =
    ap greatest_of (reverse-append (x ∷ []) xs)
    ∙ omega (arith, greatest_of-append (reverse xs) (x ∷ []), greatest_reverse xs, greatest_of-cons x xs)

-- numbers that fall ascend when reversed
falls_ascends : (low : ℕ) (ns : List ℕ) → Falls ns → ((n : ℕ) → is_among n ns ≡ true → low < n) → Ascends low (reverse ns)
falls_ascends low [] h above = tt
falls_ascends low (n ∷ ns) h above =
    subst (Ascends low) (sym (reverse-append (n ∷ []) ns))
    (ascends_push low (reverse ns) n (falls_ascends low ns h.1 (λ k e. above k (among_there n ns k e)))
    (omega (arith, greatest_reverse ns, h.0)) (above n (among_here n ns n refl)))

-- what is among a list reversed is among it
among_reverse : (xs : List ℕ) (n : ℕ) → is_among n (reverse xs) ≡ true → is_among n xs ≡ true
among_reverse [] n h = h
among_reverse (x ∷ xs) n h = elim (among_append (reverse xs) (x ∷ []) n (ap (is_among n) (sym (reverse-append (x ∷ []) xs)) ∙ h)) [
  | inl q ↦ among_there x xs n (among_reverse xs n q)
  | inr q ↦ elim (among_cons x [] n q) [ inl r ↦ among_here x xs n r | inr r ↦ absurd (false≢true r) ]
]

-- ---- what is owed

-- what is among a prefix is among the list
among_take : (k : ℕ) (xs : List ℕ) (n : ℕ) → is_among n (take k xs) ≡ true → is_among n xs ≡ true
among_take k xs n h = ap (is_among n) (sym (take-append-drop k xs)) ∙ among_left (take k xs) (drop k xs) n h

-- what a tick owes ascends, above all that was acknowledged
pub owed_ascends : (end : End) (past : Past) → IsRun end past → (v : Version) → Acknowledges v (greatest_of (acknowledged_of past)) (owed_of v past)
owed_ascends end past run Two = refl
owed_ascends end past run One =
    let since : List ℕ = taken_of (deeds_since_tick past) in
    let begins = taken_since_begins past in
    let falls : Falls since = falls_first since begins.0 (subst Falls begins.1 (taken_falls end past run)) in
    let tells : AcknowledgesTaken past = tells_taken end past run in
    falls_ascends (greatest_of (acknowledged_of past)) (take 512 since) (falls_first (take 512 since) (drop 512 since) (subst Falls (sym (take-append-drop 512 since)) falls))
    (λ n e. above n (among_take 512 since n e) tells)
  where
    above : (n : ℕ) → is_among n (taken_of (deeds_since_tick past)) ≡ true → AcknowledgesTaken past → greatest_of (acknowledged_of past) < n
    above n e tells = elim (greatest_in (acknowledged_of past)) [
      | inl q ↦ (let pos : 0 < n = positive n e in omega arith)
      | inr q ↦ tells.order (greatest_of (acknowledged_of past)) n q e
    ]
      where
        positive : (n : ℕ) → is_among n (taken_of (deeds_since_tick past)) ≡ true → 0 < n
        positive n e =
            let begins = taken_since_begins past in
            falls_positive (taken_of past) n (taken_falls end past run) (ap (is_among n) begins.1 ∙ among_left (taken_of (deeds_since_tick past)) begins.0 n e)
          where
            falls_positive : (ns : List ℕ) (n : ℕ) → Falls ns → is_among n ns ≡ true → 0 < n
            falls_positive [] n h e = absurd (false≢true e)
            falls_positive (k ∷ ns) n h e = elim (among_cons k ns n e) [ inl q ↦ omega (arith, h.0) | inr q ↦ falls_positive ns n h.1 q ]

-- what a tick owes was taken
pub owed_taken_before : (past : Past) (v : Version) (n : ℕ) → is_among n (owed_of v past) ≡ true → is_among n (taken_of past) ≡ true
owed_taken_before past Two n h = absurd (false≢true h)
owed_taken_before past One n h =
    let begins = taken_since_begins past in
    ap (is_among n) begins.1
    ∙ among_left (taken_of (deeds_since_tick past)) begins.0 n (among_take 512 (taken_of (deeds_since_tick past)) n (among_reverse (take 512 (taken_of (deeds_since_tick past))) n h))

-- so each of it may be acknowledged
pub owed_may_go : (end : End) (past : Past) (ns : List ℕ) → ((n : ℕ) → is_among n ns ≡ true → is_among n (taken_of past) ≡ true) → AllByRecursion (MaySend end past) (map (λ (n : ℕ). Owed n) ns)
owed_may_go end past [] h = tt
owed_may_go end past (n ∷ ns) h = (h n (among_here n ns n refl), owed_may_go end past ns (λ k e. h k (among_there n ns k e)))

-- What has arrived whole was joined, and each message made is short.
use Rattle.std.proofs.Common.{◌≡◌, inl, inr, ℕ, zero, suc, ◌+◌, ◌-◌, ◌<◌, ◌≤◌, ◌==◌, ◌&&◌, List, [], ◌∷◌, ◌++◌, map, Bool, true, false, cond, length, refl, sym, ap, ◌∙◌, subst, arith, Option, Some}
use Rattle.std.specs.List.{filter_map, flat_map, cons_option, slice_get, range_with_len, AllByRecursion}
use Rattle.std.specs.Bool.{then_some}
use Rattle.std.proofs.lemmas.Bool.{false≢true, cases_eq, cases_lt, eq-eqb, ne_eqb}
use Rattle.std.proofs.lemmas.List.Concat.{flat_map-append}
use Rattle.protocol_model.specs.declared.Version.{Version}
use Rattle.protocol_model.specs.Packet.{Bunch}
use Rattle.protocol_model.specs.Payload.{Message, parts_of, message_bits}
use Rattle.protocol_model.specs.Search.{newest_of}
use Rattle.connection_model.specs.Feed.{End, Past, Ticked, Made, Waits, Sent, Took, Ended, has_ended}
use Rattle.connection_model.specs.Bunches.{made_count, made_bunch, after_making, has_arrived}
use Rattle.connection_model.specs.Windows.{Received, numbers_of, next_of, as_number, run_of, applied_of, received_on, wholes_from, wholes_of}
use Rattle.connection_model.specs.Verdict.{with_told, with_handed}
use Rattle.connection_laws.specs.Run.{Move, Ticks, Makes, Defers, Sends, Takes, Hears, Hands, Ends, after_move, May, IsRun}
use Rattle.connection_laws.specs.Delivered.{on_index, Numbered, numbered_in, messages_on, payload_of, bunches_made, AppliesPrefixes}
use Rattle.connection_laws.proofs.Moves.{told_ignored, handed_ignored}
use Rattle.connection_laws.proofs.Deeds.{always}
use Rattle.connection_laws.proofs.Counts.{made_count_made, made_count_elsewhere}
use Rattle.connection_laws.proofs.Fates.{made_count_told, made_count_handed}
use Rattle.connection_laws.proofs.Items.{all_reverse}
use Rattle.connection_laws.proofs.Prefixes.{bunches_of, messages_made, cut_in_parts}
use Rattle.connection_laws.proofs.PartsJoin.{all_join}
use Rattle.connection_laws.proofs.Applied.{kept_after, wholes_split}
use Rattle.connection_laws.proofs.Receiving.{has, below_next, next_low, next_new}
use Rattle.connection_laws.proofs.Searches.{among_cons}
use Rattle.connection_laws.proofs.Transfer.{Transfers, arrived_received}
use Rattle.headline_laws.specs.Fits.{PastFits}
use Rattle.headline_laws.specs.Follows.{parts_in}
use Rattle.std.proofs.lemmas.List.{length-append}

-- ---- messages are numbered by their parts

-- the newest first
abbrev pub InRow : List Numbered → Type 0
InRow [] = Unit {0}
InRow (made ∷ before) = (made.0 ≡ parts_in before + 1) × InRow before

-- the messages of an index are numbered by the parts before them, and the bunches made are their parts
pub record Row (past : Past) (ch : ℕ) : Type 0 where
  pub count : made_count past ch ≡ parts_in (on_index ch past)
  pub row : InRow (on_index ch past)

-- it stays so where messages and counts do
row_like : (past later : Past) → ((ch : ℕ) → made_count later ch ≡ made_count past ch) → ((ch : ℕ) → on_index ch later ≡ on_index ch past) → ((ch : ℕ) → Row past ch) → (ch : ℕ) → Row later ch
row_like past later c n h ch = record { count = c ch ∙ (h ch).count ∙ ap parts_in (sym (n ch)); row = subst InRow (sym (n ch)) (h ch).row }

-- it stays so after a message
row_made : (past : Past) (c : ℕ) (m : Message) → ((ch : ℕ) → Row past ch) → (ch : ℕ) → Row (after_making past c m) ch
row_made past c m h ch = elim (cases_eq c ch) [
  | inl e ↦ subst (Row (after_making past c m)) e same
  | inr ne ↦ (
      let n : on_index ch (after_making past c m) ≡ on_index ch past = messages_made past ch c m ∙ ap (λ (b : Bool). cond b ((made_count past c + 1, m) ∷ on_index ch past) (on_index ch past)) (ne_eqb c ch ne) in
      record { count = made_count_elsewhere past ch c m ne ∙ (h ch).count ∙ ap parts_in (sym n); row = subst InRow (sym n) (h ch).row })
]
  where
    n : on_index c (after_making past c m) ≡ (made_count past c + 1, m) ∷ on_index c past
    n = messages_made past c c m ∙ ap (λ (b : Bool). cond b ((made_count past c + 1, m) ∷ on_index c past) (on_index c past)) (eq-eqb c c refl)

    same : Row (after_making past c m) c
    same =
        let all : parts_in (on_index c (after_making past c m)) ≡ parts_of m + parts_in (on_index c past) = ap parts_in n in
        record {
          count = omega (arith, made_count_made past c m, (h c).count, all);
          row = subst InRow (sym n) (omega (arith, (h c).count), (h c).row);
        }

-- they are so in a run
pub rows : (end : End) (past : Past) → IsRun end past → (ch : ℕ) → Row past ch
rows end past run = always end (λ past. (ch : ℕ) → Row past ch) (λ ch. record { count = refl; row = tt }) step past run
  where
    step : (past : Past) (move : Move) → IsRun end past → has_ended past ≡ false → May end past move → ((ch : ℕ) → Row past ch) → (ch : ℕ) → Row (after_move past move) ch
    step past (Ticks sight) run alive may h = row_like past (after_move past (Ticks sight)) (λ ch. refl) (λ ch. refl) h
    step past (Makes c m) run alive may h = row_made past c m h
    step past (Defers m) run alive may h = row_like past (after_move past (Defers m)) (λ ch. refl) (λ ch. refl) h
    step past (Sends items) run alive may h = row_like past (after_move past (Sends items)) (λ ch. refl) (λ ch. refl) h
    step past (Takes n) run alive may h = row_like past (after_move past (Takes n)) (λ ch. refl) (λ ch. refl) h
    step past (Hears entry) run alive may h = row_like past (with_told entry past) (made_count_told entry past) (λ ch. told_ignored (numbered_in ch) (λ n e es ds. refl) entry past) h
    step past (Hands d) run alive may h = row_like past (with_handed d past) (made_count_handed d past) (λ ch. handed_ignored (numbered_in ch) (λ n es d ds. refl) d past) h
    step past (Ends ending) run alive may h = row_like past (after_move past (Ends ending)) (λ ch. refl) (λ ch. refl) h

-- ---- the longer of two prefixes goes on from the other

-- of two prefixes the longer goes on from the shorter
pub longer : {A : Type 0} (xs ys us vs : List A) → xs ++ ys ≡ us ++ vs → length us ≤ length xs → (more : List A) × (xs ≡ us ++ more)
longer xs ys [] vs e h = (xs, refl)
longer [] ys (u ∷ us) vs e h = absurd (omega (arith, h))
longer {A} (x ∷ xs) ys (u ∷ us) vs e h =
    let tail : xs ++ ys ≡ us ++ vs = same_tail x u (xs ++ ys) (us ++ vs) e in
    let head : x ≡ u = same_head x u (xs ++ ys) (us ++ vs) e in
    let r = longer xs ys us vs tail (omega (arith, h)) in
    (r.0, ap (λ (l : List A). x ∷ l) r.1 ∙ ap (λ (y : A). y ∷ (us ++ r.0)) head)
  where
    same_head : {A : Type 0} (x y : A) (xs ys : List A) → x ∷ xs ≡ y ∷ ys → x ≡ y
    same_head x y xs ys e = cc

    same_tail : {A : Type 0} (x y : A) (xs ys : List A) → x ∷ xs ≡ y ∷ ys → xs ≡ ys
    same_tail x y xs ys e = cc

-- ---- what was applied is as long as its numbers say

-- a bunch that was received is found
found : (got : List Received) (n : ℕ) → has got n ≡ true → (b : Bunch) × (newest_of (as_number n) got ≡ Some b)
found [] n h = absurd (false≢true h)
found (r ∷ got) n h = by (r.0 == n) refl (λ t. found got n t)
  where
    later : (r.0 == n) ≡ false → has got n ≡ true
    later q = elim (among_cons r.0 (numbers_of got) n h) [
      | inl e ↦ absurd (false≢true (sym q ∙ eq-eqb r.0 n e))
      | inr t ↦ t
    ]

    by : (b : Bool) → (r.0 == n) ≡ b → (has got n ≡ true → (x : Bunch) × (newest_of (as_number n) got ≡ Some x)) → (x : Bunch) × (slice_get (cons_option (then_some b r.1) (filter_map (as_number n) got)) 0 ≡ Some x)
    by true q ih = (r.1, refl)
    by false q ih = ih (later q)

-- a run in which each was received is as long as its count
run_length : (got : List Received) (count from : ℕ) → ((i : ℕ) → from ≤ i → i < from + count → has got i ≡ true) → length (run_of got from count) ≡ count
run_length got zero from h = refl
run_length got (suc count) from h =
    let f = found got from (h from (omega arith) (omega arith)) in
    let rest : length (run_of got (from + 1) count) ≡ count = run_length got count (from + 1) (λ i lo hi. h i (omega (arith, lo)) (omega (arith, hi))) in
    ap (λ (o : Option Bunch). length (cons_option o (run_of got (from + 1) count))) f.1 ∙ ap suc rest

-- the run applied ends before the next number
pub applied_length : (got : List Received) → length (applied_of got) ≡ next_of got - 1
applied_length got = run_length got (next_of got - 1) 1 (λ i lo hi. below_next got i lo (omega (arith, hi, next_low got)))

-- ---- messages and their bunches

-- mapping keeps the length
pub map_length : {A B : Type 0} (f : A → B) (xs : List A) → length (map f xs) ≡ length xs
map_length f [] = refl
map_length f (x ∷ xs) = ap suc (map_length f xs)

-- a range is as long as its count
pub range_length : (count from : ℕ) → length (range_with_len from count) ≡ count
range_length zero from = refl
range_length (suc count) from = ap suc (range_length count (from + 1))

-- messages have as many bunches as parts
pub bunches_length : (ch : ℕ) (ms : List Numbered) → length (flat_map (bunches_of ch) ms) ≡ parts_in ms
bunches_length ch [] = refl
bunches_length ch (x ∷ ms) =
    omega (
      arith,
      length-append (bunches_of ch x) (flat_map (bunches_of ch) ms),
      map_length (λ i. made_bunch ch (x.0 + i) x.1 i) (range_with_len 0 (parts_of x.1)),
      range_length (parts_of x.1) 0,
      bunches_length ch ms,
    )

-- ---- the law

-- these messages come first on the index, and were received whole
pub record ReceivedWhole (from to : Past) (ch : ℕ) (first : List Numbered) : Type 0 where
  pub rest : List (Bunch × List Bool)
  pub whole : wholes_of to ch ≡ map (payload_of ch) first ++ rest

module _ (end : End) (from to : Past) (run : IsRun end from) (applies : AppliesPrefixes from to) where
  -- where the numbers of all their parts are below the next
  pub joined : (ch : ℕ) (first later : List Numbered) → messages_on from ch ≡ first ++ later → parts_in first < next_of (received_on to ch) → ReceivedWhole from to ch first
  joined ch first later e below =
      let p = applies ch in
      let cut : bunches_made from ch ≡ flat_map (bunches_of ch) first ++ flat_map (bunches_of ch) later =
      cut_in_parts end from run ch ∙ ap (flat_map (bunches_of ch)) e ∙ flat_map-append (bunches_of ch) first later in
      let l = longer (applied_of (received_on to ch)) p.0 (flat_map (bunches_of ch) first) (flat_map (bunches_of ch) later) (sym p.1 ∙ cut)
      (omega (arith, bunches_length ch first, applied_length (received_on to ch), below)) in
      record {
        rest = wholes_from (kept_after [] (flat_map (bunches_of ch) first)) l.0;
        whole = ap (wholes_from []) l.1 ∙ wholes_split (flat_map (bunches_of ch) first) l.0 []
            ∙ ap (λ (ws : List (Bunch × List Bool)). ws ++ wholes_from (kept_after [] (flat_map (bunches_of ch) first)) l.0) (all_join ch first);
      }

-- what has arrived is below the next number
pub arrived_below : (v : Version) (end : End) (from to : Past) → IsRun end from → Transfers v from to → (ch n : ℕ) → ((i : ℕ) → 1 ≤ i → i ≤ n → has_arrived from ch i ≡ true) → n < next_of (received_on to ch)
arrived_below v end from to run core ch n h = elim (cases_lt n (next_of (received_on to ch))) [
  | inl q ↦ q
  | inr q ↦ absurd (false≢true (sym (next_new (received_on to ch)) ∙ arrived_received v end from to run core ch (next_of (received_on to ch)) (h (next_of (received_on to ch)) (next_low (received_on to ch)) q)))
]

-- ---- each message is short

-- each message on an index is short
short_in : (end : End) (past : Past) (ch : ℕ) → PastFits end past → AllByRecursion (λ (made : Numbered). length (message_bits made.1) ≤ 70000) (on_index ch past)
short_in end [] ch f = tt
short_in end (Made c n m i ∷ past) ch f = by (c == ch && i == 0) (short_in end past ch f.1)
  where
    by : (b : Bool) → AllByRecursion (λ (made : Numbered). length (message_bits made.1) ≤ 70000) (on_index ch past)
        → AllByRecursion (λ (made : Numbered). length (message_bits made.1) ≤ 70000) (cons_option (then_some b (n, m)) (on_index ch past))
    by true h = (f.0.2, h)
    by false h = h
short_in end (Ticked t s ∷ past) ch f = short_in end past ch f.1
short_in end (Waits m ∷ past) ch f = short_in end past ch f.1
short_in end (Sent n t items ∷ past) ch f = short_in end past ch f.1
short_in end (Took n es ds ∷ past) ch f = short_in end past ch f.1
short_in end (Ended g ∷ past) ch f = short_in end past ch f.1

-- each message made has at most 70,000 bits
pub messages_short : (end : End) (past : Past) (ch : ℕ) → PastFits end past → AllByRecursion (λ (made : Numbered). length (message_bits made.1) ≤ 70000) (messages_on past ch)
messages_short end past ch f = all_reverse (λ (made : Numbered). length (message_bits made.1) ≤ 70000) (on_index ch past) (short_in end past ch f)

-- What was applied is a prefix of what was made, and what is joined of it of the messages.
use Rattle.std.proofs.Common.{◌≡◌, inl, inr, ℕ, zero, suc, ◌+◌, ◌-◌, ◌<◌, ◌≤◌, ◌==◌, ◌&&◌, List, [], ◌∷◌, ◌++◌, map, reverse, Bool, true, false, cond, refl, sym, ap, ◌∙◌, subst, arith, Option, Some}
use Rattle.std.specs.List.{filter_map, flat_map, cons_option, slice_get, range_with_len}
use Rattle.std.specs.Bool.{then_some}
use Rattle.std.proofs.lemmas.Bool.{cases_eq, eq-eqb, ne_eqb}
use Rattle.std.proofs.lemmas.List.{append-nil, reverse-append}
use Rattle.std.proofs.lemmas.List.Concat.{flat_map-append}
use Rattle.std.proofs.lemmas.List.Elements.{filter_map-append}
use Rattle.protocol_model.specs.Packet.{Bunch}
use Rattle.protocol_model.specs.Payload.{Message, parts_of}
use Rattle.protocol_model.specs.Search.{newest_of}
use Rattle.connection_model.specs.Feed.{End, Past, Made, has_ended}
use Rattle.connection_model.specs.Bunches.{made_count, made_bunch, after_making}
use Rattle.connection_model.specs.Items.{made_as}
use Rattle.connection_model.specs.Windows.{Received, next_of, as_number, applied_of}
use Rattle.replication_model.specs.Headline.{IsPrefix}
use Rattle.connection_model.specs.Verdict.{with_told, with_handed}
use Rattle.connection_laws.specs.Run.{Move, Ticks, Makes, Defers, Sends, Takes, Hears, Hands, Ends, after_move, May, IsRun}
use Rattle.connection_laws.specs.Delivered.{on_index, bunches_made, Numbered, numbered_in, messages_on}
use Rattle.connection_laws.proofs.Moves.{making_keeps, told_ignored, handed_ignored}
use Rattle.connection_laws.proofs.Deeds.{always}
use Rattle.connection_laws.proofs.Counts.{made_count_made, made_count_elsewhere}
use Rattle.connection_laws.proofs.Fates.{made_count_told, made_count_handed}
use Rattle.connection_laws.proofs.Spans.{some_parts}
use Rattle.connection_laws.proofs.Items.{made_stays, part_made}
use Rattle.connection_laws.proofs.Receiving.{Good, below_next, next_low, next_within}

-- ---- numbers in a row

-- a range of numbers is two in a row
pub range_split : (a n m : ℕ) → range_with_len a (n + m) ≡ range_with_len a n ++ range_with_len (a + n) m
range_split a zero m = (let e : 0 + m ≡ m = omega arith in let f : a + 0 ≡ a = omega arith in rw (e, f) refl)
range_split a (suc n) m =
    let e : suc n + m ≡ suc (n + m) = omega arith in
    let f : a + suc n ≡ (a + 1) + n = omega arith in
    rw (e, f) (ap (λ (l : List ℕ). a ∷ l) (range_split (a + 1) n m))

-- what finds the same in each number of a range finds the same in it
pub found_same : {A : Type 0} (f g : ℕ → Option A) (a n : ℕ) → ((i : ℕ) → a ≤ i → i < a + n → f i ≡ g i) → filter_map f (range_with_len a n) ≡ filter_map g (range_with_len a n)
found_same f g a zero h = refl
found_same f g a (suc n) h = rw (h a (omega arith) (omega arith), found_same f g (a + 1) n (λ i lo hi. h i (omega arith) (omega arith))) refl

-- ---- what was applied

-- the run applied is a prefix of the bunches made
pub applied_prefix : (past : Past) (ch : ℕ) (got : List Received) → Good (λ n. newest_of (made_as ch n) past) (made_count past ch) got → IsPrefix (applied_of got) (bunches_made past ch)
applied_prefix past ch got g =
    let next = next_within (λ n. newest_of (made_as ch n) past) (made_count past ch) got g in
    let count : made_count past ch ≡ (next_of got - 1) + (made_count past ch - (next_of got - 1)) = omega (arith, next.0) in
    let run : applied_of got ≡ filter_map (λ n. newest_of (made_as ch n) past) (range_with_len 1 (next_of got - 1)) =
    found_same (λ n. newest_of (as_number n) got) (λ n. newest_of (made_as ch n) past) 1 (next_of got - 1)
    (λ i lo hi. g.same i (below_next got i lo (omega (arith, next_low got)))) in (
      filter_map (λ n. newest_of (made_as ch n) past) (range_with_len (1 + (next_of got - 1)) (made_count past ch - (next_of got - 1))),
      ap (λ (k : ℕ). filter_map (λ n. newest_of (made_as ch n) past) (range_with_len 1 k)) count
          ∙ ap (filter_map (λ n. newest_of (made_as ch n) past)) (range_split 1 (next_of got - 1) (made_count past ch - (next_of got - 1)))
          ∙ filter_map-append (λ n. newest_of (made_as ch n) past) (range_with_len 1 (next_of got - 1)) (range_with_len (1 + (next_of got - 1)) (made_count past ch - (next_of got - 1)))
          ∙ ap (λ (l : List Bunch). l ++ filter_map (λ n. newest_of (made_as ch n) past) (range_with_len (1 + (next_of got - 1)) (made_count past ch - (next_of got - 1)))) (sym run),
    )

-- ---- the bunches made are the parts of the messages

-- the bunches of a message
abbrev pub bunches_of : (ch : ℕ) → Numbered → List Bunch
bunches_of ch made = map (λ i. made_bunch ch (made.0 + i) made.1 i) (range_with_len 0 (parts_of made.1))

-- the bunches made on each index are the parts of its messages
abbrev IsCut : Past → Type 0
IsCut past = (ch : ℕ) → bunches_made past ch ≡ flat_map (bunches_of ch) (messages_on past ch)

-- what a message adds
all_found : {A : Type 0} (f : ℕ → Option A) (g : ℕ → A) (a n from : ℕ) → ((i : ℕ) → from ≤ i → i < from + n → f (a + i) ≡ Some (g i)) → filter_map f (range_with_len (a + from) n) ≡ map g (range_with_len from n)
all_found f g a zero from h = refl
all_found f g a (suc n) from h =
    let e : (a + from) + 1 ≡ a + (from + 1) = omega arith in
    rw (h from (omega arith) (omega arith), e, all_found f g a n (from + 1) (λ i lo hi. h i (omega arith) (omega arith))) refl

-- a message adds its parts
made_more : (past : Past) (ch : ℕ) (m : Message) → bunches_made (after_making past ch m) ch ≡ bunches_made past ch ++ bunches_of ch (made_count past ch + 1, m)
made_more past ch m =
    let later : Past = after_making past ch m in
    let f : ℕ → Option Bunch = λ n. newest_of (made_as ch n) later in
    let first : 1 + made_count past ch ≡ (made_count past ch + 1) + 0 = omega arith in
    ap (λ (k : ℕ). filter_map f (range_with_len 1 k)) (made_count_made past ch m)
    ∙ ap (filter_map f) (range_split 1 (made_count past ch) (parts_of m))
    ∙ filter_map-append f (range_with_len 1 (made_count past ch)) (range_with_len (1 + made_count past ch) (parts_of m))
    ∙ ap (λ (l : List Bunch). l ++ filter_map f (range_with_len (1 + made_count past ch) (parts_of m)))
    (found_same f (λ n. newest_of (made_as ch n) past) 1 (made_count past ch) (λ i lo hi. made_stays past ch m ch i (omega arith)))
    ∙ ap (λ (l : List Bunch). bunches_made past ch ++ l)
    (ap (λ (k : ℕ). filter_map f (range_with_len k (parts_of m))) first
    ∙ all_found f (λ i. made_bunch ch (made_count past ch + 1 + i) m i) (made_count past ch + 1) (parts_of m) 0 (λ i lo hi. part_made past ch m i (omega arith)))

-- a message made elsewhere adds none
made_elsewhere : (past : Past) (ch c : ℕ) (m : Message) → (c ≡ ch → ⊥) → bunches_made (after_making past c m) ch ≡ bunches_made past ch
made_elsewhere past ch c m ne =
    ap (λ (k : ℕ). filter_map (λ n. newest_of (made_as ch n) (after_making past c m)) (range_with_len 1 k)) (made_count_elsewhere past ch c m ne)
    ∙ found_same (λ n. newest_of (made_as ch n) (after_making past c m)) (λ n. newest_of (made_as ch n) past) 1 (made_count past ch) (λ i lo hi. made_stays past c m ch i (omega arith))

-- the messages after one more
abbrev Listed : Past → (ch c : ℕ) → Message → ℕ → Past → Type 0
Listed past ch c m zero before = on_index ch before ≡ on_index ch past
Listed past ch c m (suc i) before =
    on_index ch before ≡ cond (c == ch) ((made_count past c + 1, m) ∷ on_index ch past) (on_index ch past)

-- a message counts in a list by its first part, where it counts at all
pub listed_first : {A : Type 0} (b : Bool) (x : A) (xs ys : List A) → xs ≡ ys → cons_option (then_some (b && true) x) xs ≡ cond b (x ∷ ys) ys
listed_first {A} true x xs ys e = ap (λ (l : List A). x ∷ l) e
listed_first {A} false x xs ys e = e

-- and its other parts don't count
pub listed_later : {A : Type 0} (b : Bool) (x : A) (xs : List A) → cons_option (then_some (b && false) x) xs ≡ xs
listed_later true x xs = refl
listed_later false x xs = refl

-- the messages after one more part
listed_step : (past : Past) (ch c : ℕ) (m : Message) (i : ℕ) (before : Past) → Listed past ch c m i before → Listed past ch c m (suc i) (Made c (made_count past c + 1 + i) m i ∷ before)
listed_step past ch c m zero before h =
    let n : made_count past c + 1 + 0 ≡ made_count past c + 1 = omega arith in
    ap (λ (k : ℕ). cons_option (then_some ((c == ch) && true) (k, m)) (on_index ch before)) n
    ∙ listed_first (c == ch) (made_count past c + 1, m) (on_index ch before) (on_index ch past) h
listed_step past ch c m (suc i) before h =
    ap (λ (t : Bool). cons_option (then_some ((c == ch) && t) (made_count past c + 1 + suc i, m)) (on_index ch before)) (ne_eqb (suc i) 0 (λ q. absurd (omega arith)))
    ∙ listed_later (c == ch) (made_count past c + 1 + suc i, m) (on_index ch before) ∙ h

-- the messages after all parts
listed_end : (past : Past) (ch c : ℕ) (m : Message) (i : ℕ) (before : Past) → 1 ≤ i → Listed past ch c m i before
    → on_index ch before ≡ cond (c == ch) ((made_count past c + 1, m) ∷ on_index ch past) (on_index ch past)
listed_end past ch c m zero before lo h = absurd (omega arith)
listed_end past ch c m (suc i) before lo h = h

-- the messages of an index after one more
pub messages_made : (past : Past) (ch c : ℕ) (m : Message) → on_index ch (after_making past c m) ≡ cond (c == ch) ((made_count past c + 1, m) ∷ on_index ch past) (on_index ch past)
messages_made past ch c m =
    listed_end past ch c m (parts_of m) (after_making past c m) (some_parts m)
    (making_keeps (Listed past ch c m) past c m refl (λ i before lt h. listed_step past ch c m i before h))

-- it stays so after a message
cut_made : (past : Past) (c : ℕ) (m : Message) → IsCut past → IsCut (after_making past c m)
cut_made past c m h ch = elim (cases_eq c ch) [
  | inl e ↦ subst (λ (x : ℕ). bunches_made (after_making past c m) x ≡ flat_map (bunches_of x) (messages_on (after_making past c m) x)) e same
  | inr e ↦ made_elsewhere past ch c m e ∙ h ch
      ∙ ap (λ (l : List Numbered). flat_map (bunches_of ch) (reverse l)) (sym (messages_made past ch c m ∙ ap (λ (b : Bool). cond b ((made_count past c + 1, m) ∷ on_index ch past) (on_index ch past)) (ne_eqb c ch e)))
]
  where
    same : bunches_made (after_making past c m) c ≡ flat_map (bunches_of c) (messages_on (after_making past c m) c)
    same =
        made_more past c m ∙ ap (λ (l : List Bunch). l ++ bunches_of c (made_count past c + 1, m)) (h c)
        ∙ ap (λ (l : List Bunch). flat_map (bunches_of c) (messages_on past c) ++ l) (sym (append-nil (bunches_of c (made_count past c + 1, m))))
        ∙ sym (flat_map-append (bunches_of c) (messages_on past c) ((made_count past c + 1, m) ∷ []))
        ∙ ap (flat_map (bunches_of c)) (sym (reverse-append ((made_count past c + 1, m) ∷ []) (on_index c past)))
        ∙ ap (λ (l : List Numbered). flat_map (bunches_of c) (reverse l)) (sym (messages_made past c c m ∙ ap (λ (b : Bool). cond b ((made_count past c + 1, m) ∷ on_index c past) (on_index c past)) (eq-eqb c c refl)))

-- it stays so where bunches and messages do
cut_like : (past later : Past) → ((ch : ℕ) → made_count later ch ≡ made_count past ch) → ((ch n : ℕ) → newest_of (made_as ch n) later ≡ newest_of (made_as ch n) past)
    → ((ch : ℕ) → on_index ch later ≡ on_index ch past) → IsCut past → IsCut later
cut_like past later c a n h ch =
    ap (λ (k : ℕ). filter_map (λ n. newest_of (made_as ch n) later) (range_with_len 1 k)) (c ch)
    ∙ found_same (λ n. newest_of (made_as ch n) later) (λ n. newest_of (made_as ch n) past) 1 (made_count past ch) (λ i lo hi. a ch i) ∙ h ch
    ∙ ap (λ (l : List Numbered). flat_map (bunches_of ch) (reverse l)) (sym (n ch))

-- the bunches made on an index are the parts of its messages
pub cut_in_parts : (end : End) (past : Past) → IsRun end past → (ch : ℕ) → bunches_made past ch ≡ flat_map (bunches_of ch) (messages_on past ch)
cut_in_parts end past run = always end IsCut (λ ch. refl) step past run
  where
    step : (past : Past) (move : Move) → IsRun end past → has_ended past ≡ false → May end past move → IsCut past → IsCut (after_move past move)
    step past (Ticks sight) run alive may h = h
    step past (Makes c m) run alive may h = cut_made past c m h
    step past (Defers m) run alive may h = h
    step past (Sends items) run alive may h = h
    step past (Takes n) run alive may h = h
    step past (Hears entry) run alive may h =
        cut_like past (with_told entry past) (made_count_told entry past)
        (λ ch n. ap (λ (bs : List Bunch). slice_get bs 0) (told_ignored (made_as ch n) (λ n e es ds. refl) entry past)) (λ ch. told_ignored (numbered_in ch) (λ n e es ds. refl) entry past) h
    step past (Hands d) run alive may h =
        cut_like past (with_handed d past) (made_count_handed d past)
        (λ ch n. ap (λ (bs : List Bunch). slice_get bs 0) (handed_ignored (made_as ch n) (λ n es d ds. refl) d past)) (λ ch. handed_ignored (numbered_in ch) (λ n es d ds. refl) d past) h
    step past (Ends ending) run alive may h = h

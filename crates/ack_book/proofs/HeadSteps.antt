-- How what a book keeps goes along with the heads of packets.
use Rattle.std.proofs.Common.{◌≡◌, ℕ, suc, ◌+◌, ◌-◌, ◌*◌, ◌%◌, ◌^◌, ◌<◌, ◌≤◌, ◌==◌, List, [], ◌∷◌, ◌++◌, length, take, drop, map, Bool, true, false, ◌||◌, nat_lt, nat_le, if◌then◌else◌, refl, sym, ap, ◌∙◌, subst, arith, slice_index, slice_index_or, ℤ, pos, ◌-ℤ◌, ◌≤ℤ◌, ◌<ℤ◌}
use Rattle.std.specs.Prelude.{int_lt}
use Rattle.std.specs.Int.{bit_at}
use Rattle.std.specs.List.{filter_map, list_any, range_with_len}
use Rattle.std.proofs.lemmas.Int.{ints}
use Rattle.std.proofs.lemmas.Bool.{cond_below}
use Rattle.std.proofs.lemmas.Bool.Decides.{nat_tests}
use Rattle.std.proofs.lemmas.List.{get_or-take, length-take-le, ext_get_or}
use Rattle.std.proofs.lemmas.List.Folds.{list_any-append}
use Rattle.std.proofs.lemmas.List.FromFn.{length-map-range_with_len, get_or-map-range_with_len}
use Rattle.protocol_model.specs.declared.Version.{Version}
use Rattle.protocol_model.specs.declared.Version.TheVariants.{One, Two}
use Rattle.protocol_model.specs.Bits.{near}
use Rattle.protocol_model.specs.Packet.{Head}
use Rattle.protocol_model.specs.Search.{is_among, greatest_of, least_from}
use Rattle.connection_model.specs.Feed.{Past, Took, Entry, Told, Delivered}
use Rattle.connection_model.specs.Fates.{taken_of, top_of, moved_of, high_of, last_sent, top_when, named_numbers, number_above, history_of, history_word, word_count, head_of}
use Rattle.bit_io.specs.declared.head.Head.{Head as HeadValue}
use Rattle.bit_io.specs.HeadOf.{head_of as head_told, IsHead}
use Rattle.ack_book.specs.Answers.{names_unsent}
use Rattle.ack_book.specs.Book.{Book, fates_kept}
use Rattle.ack_book.specs.History.{bit_in}
use Rattle.ack_book.specs.Keeps.{Keeps}
use Rattle.protocol_model.specs.Limits.{unresolved_limit}
use Rattle.protocol_laws.proofs.Greatest.{greatest_of-append, among_above}
use Rattle.ack_book.proofs.Words.{bit_in_word}
use Rattle.ack_book.proofs.Histories.{spelled_by, bit_of_words, bit_taken_first}
use Rattle.ack_book.proofs.Names.{named_none, named_first, named_low, named_sent, named_unsent, among_named, among_low, named_greatest}
use Rattle.ack_book.proofs.KeepsSteps.{moved_keeps, still_keeps}

-- ---- what a head names

pub names_nothing : (past : Past) (head : Head) → ((j : ℕ) → slice_index_or (history_of head) j false ≡ false) → names_unsent past head ≡ false
names_nothing past head none =
    ap (list_any (λ n. int_lt (pos (last_sent past)) n)) (named_none (history_of head) (near head.top (pos (high_of past)) 16384) none)

-- the bits from the first one that is set
pub record First (bits : List Bool) (i : ℕ) : Type 0 where
  pub low : (j : ℕ) → j < i → slice_index_or bits j false ≡ false
  pub set : slice_index_or bits i false ≡ true

pub names_sent : (past : Past) (head : Head) (i : ℕ) → First (history_of head) i
    → (near head.top (pos (high_of past)) 16384 -ℤ pos i) ≤ℤ pos (last_sent past) → names_unsent past head ≡ false
names_sent past head i first h =
    let a : ℤ = near head.top (pos (high_of past)) 16384 in
    ap (list_any (λ n. int_lt (pos (last_sent past)) n)) (named_first (history_of head) a i first.low first.set)
    ∙ named_sent (true ∷ drop (suc i) (history_of head)) (a -ℤ pos i) (last_sent past) h

pub names_one_unsent : (past : Past) (head : Head) (i : ℕ) → First (history_of head) i
    → pos (last_sent past) <ℤ (near head.top (pos (high_of past)) 16384 -ℤ pos i) → names_unsent past head ≡ true
names_one_unsent past head i first h =
    let a : ℤ = near head.top (pos (high_of past)) 16384 in
    ap (list_any (λ n. int_lt (pos (last_sent past)) n)) (named_first (history_of head) a i first.low first.set)
    ∙ named_unsent (drop (suc i) (history_of head)) (a -ℤ pos i) (last_sent past) h

-- the bits of a head's history are those of its words
pub told_bits : (h : HeadValue) (j : ℕ) → IsHead h → slice_index_or (history_of (head_told h)) j false ≡ (bit_in h.words j == 1)
told_bits h j whole = bit_of_words (take h.count h.words) j ∙ ap (λ (n : ℕ). n == 1) (bit_taken_first h.words h.count j whole.past)

pub none_of : (h : HeadValue) → IsHead h → ((j : ℕ) → bit_in h.words j ≡ 0) → (j : ℕ) → slice_index_or (history_of (head_told h)) j false ≡ false
none_of h whole none j = told_bits h j whole ∙ ap (λ (n : ℕ). n == 1) (none j)

pub first_of : (h : HeadValue) (i : ℕ) → IsHead h → (i < 256) × (bit_in h.words i ≡ 1) × ((j : ℕ) → j < i → bit_in h.words j ≡ 0)
    → First (history_of (head_told h)) i
first_of h i whole first = record {
  low = λ j under. told_bits h j whole ∙ ap (λ (n : ℕ). n == 1) (first.2 j under);
  set = told_bits h i whole ∙ ap (λ (n : ℕ). n == 1) first.1;
}

-- ---- what a head moves

-- nothing, where it names nothing
pub silent_keeps : (book : Book) (v : Version) (past : Past) (m : ℕ) (entries : List Entry) (handed : List Delivered) (head : Head)
    → Keeps book v (Took m entries handed ∷ past) → ((j : ℕ) → slice_index_or (history_of head) j false ≡ false)
    → Keeps book v (Took m (Told head ∷ entries) handed ∷ past)
silent_keeps book v past m entries handed head h none =
    let before : Past = Took m entries handed ∷ past in
    let a : ℤ = near head.top (pos (high_of before)) 16384 in
    still_keeps book v past m (Told head) entries handed h
    (ap (λ (zs : List ℤ). filter_map (number_above (high_of before)) zs ++ moved_of before) (named_none (history_of head) a none))

-- nothing, where the first number isn't above the greatest moved
pub stale_keeps : (book : Book) (v : Version) (past : Past) (m : ℕ) (entries : List Entry) (handed : List Delivered) (head : Head) (i : ℕ)
    → Keeps book v (Took m entries handed ∷ past) → First (history_of head) i
    → (near head.top (pos book.high) 16384 -ℤ pos i) ≤ℤ pos book.high
    → Keeps book v (Took m (Told head ∷ entries) handed ∷ past)
stale_keeps book v past m entries handed head i h first low =
    let before : Past = Took m entries handed ∷ past in
    let high : ℕ = high_of before in
    let a : ℤ = near head.top (pos high) 16384 in
    let low' : (a -ℤ pos i) ≤ℤ pos high = subst (λ (k : ℕ). (near head.top (pos k) 16384 -ℤ pos i) ≤ℤ pos k) h.high low in
    let none : filter_map (number_above high) (named_numbers a (history_of head)) ≡ [] =
    ap (filter_map (number_above high)) (named_first (history_of head) a i first.low first.set)
    ∙ named_low (true ∷ drop (suc i) (history_of head)) (a -ℤ pos i) high low' in
    still_keeps book v past m (Told head) entries handed h (ap (λ (ns : List ℕ). ns ++ moved_of before) none)

either_side : (high k : ℕ) (r x m b old : Bool) → (k ≤ high → x ≡ false) → (high < k → m ≡ false) → (high < k → x ≡ b) → (high < k → r ≡ b)
    → (k ≤ high → r ≡ m) → r ≡ (x || m)
either_side high k r x m b old low above named marked kept = grind (arith, nat_tests)

-- each number that it names above the greatest moved, where the first one is
pub told_keeps : (book : Book) (v : Version) (past : Past) (m : ℕ) (entries : List Entry) (handed : List Delivered) (head : Head) (i to base : ℕ) (ring : List Bool)
    → Keeps book v (Took m entries handed ∷ past) → First (history_of head) i → book.high < to → to ≤ book.last_sent
    → near head.top (pos book.high) 16384 ≡ pos (to + i)
    → base ≡ slice_index_or book.told (to % unresolved_limit) 0
    → ((n : ℕ) → book.high < n → n ≤ to → to < n + fates_kept → slice_index_or ring (n % fates_kept) false ≡ slice_index_or (history_of head) (i + (to - n)) false)
    → ((n : ℕ) → n ≤ book.high → to < n + fates_kept → slice_index_or ring (n % fates_kept) false ≡ slice_index_or book.arrived (n % fates_kept) false)
    → Keeps (record book { high = to; base = base; arrived = ring }) v (Took m (Told head ∷ entries) handed ∷ past)
told_keeps book v past m entries handed head i to base ring h first above within top is marked kept =
    let before : Past = Took m entries handed ∷ past in
    let high : ℕ = high_of before in
    let bits : List Bool = history_of head in
    let moved : List ℕ = moved_of before in
    let later : Past = Took m (Told head ∷ entries) handed ∷ past in
    let over : high < to = omega (arith, h.high) in
    let a : near head.top (pos high) 16384 ≡ pos (to + i) = ap (λ (k : ℕ). near head.top (pos k) 16384) (sym h.high) ∙ top in
    let new : List ℕ = filter_map (number_above high) (named_numbers (pos (to + i)) bits) in
    let all : moved_of later ≡ new ++ moved = ap (λ (z : ℤ). filter_map (number_above high) (named_numbers z bits) ++ moved) a in
    let start : pos (to + i) -ℤ pos i ≡ pos to = omega (arith, ints) in
    let greatest : greatest_of new ≡ to =
    ap (λ (zs : List ℤ). greatest_of (filter_map (number_above high) zs))
    (named_first bits (pos (to + i)) i first.low first.set ∙ ap (λ (z : ℤ). named_numbers z (true ∷ drop (suc i) bits)) start)
    ∙ named_greatest (drop (suc i) bits) high to over in
    let reached : to ≡ high_of later = omega (arith, greatest_of-append new moved, greatest, over) ∙ ap greatest_of (sym all) in
    moved_keeps book v past m (Told head) entries handed to base ring h above within reached is
    (λ k low close.
    either_side high k (slice_index_or ring (k % fates_kept) false) (is_among k new) (is_among k moved) (slice_index_or bits (i + (to - k)) false) false
    (λ under. among_low (named_numbers (pos (to + i)) bits) high k under)
    (λ up. among_above k moved up)
    (λ up.
    let place : pos (to + i) ≡ pos (k + (i + (to - k))) = let e : to + i ≡ k + (i + (to - k)) = omega arith in ap pos e in
    ap (λ (z : ℤ). is_among k (filter_map (number_above high) (named_numbers z bits))) place ∙ among_named bits high k (i + (to - k)) up)
    (λ up. marked k (omega (arith, h.high)) low close)
    (λ under. kept k (omega (arith, h.high)) close ∙ h.fates k under (omega (arith, over)))
    ∙ sym (list_any-append (λ n. n == k) new moved) ∙ ap (is_among k) (sym all))

-- ---- what a head tells

same_head : (a b : ℕ) (xs ys : List ℕ) → a ≡ b → xs ≡ ys
    → (let x : Head = record { top = a; words = xs } in x) ≡ (let y : Head = record { top = b; words = ys } in y)
same_head a b xs ys p q = cc

one_or_two : (v : Version) → v ≡ One → v ≡ Two → ⊥
one_or_two v p q = cc

-- the words kept spell the history
pub head_two : (book : Book) (v : Version) (past : Past) (span count : ℕ) (kept : List ℕ) → Keeps book v past → book.version ≡ Two
    → span ≡ book.top - book.base → count ≡ least_from (λ w. nat_le span (32 * w)) 7 1 → count ≤ 8
    → length kept ≡ 8 → ((k : ℕ) → slice_index kept k < 2 ^ 32)
    → ((k : ℕ) → k < 8 → slice_index kept k ≡ (if nat_lt k count then slice_index book.history k else 0))
    → (let told : Head = record { top = book.top % 16384; words = take count kept } in told) ≡ head_of v past
head_two book One past span count kept h two s n most len fits each = absurd (one_or_two book.version h.version two)
head_two book Two past span count kept h two s n most len fits each =
    let top : ℕ = top_of past in
    let taken : List ℕ = taken_of past in
    let span_is : span ≡ top - top_when past (high_of past) = s ∙ ap (λ (x : ℕ). x - book.base) h.top ∙ ap (λ (x : ℕ). top - x) h.base in
    let count_is : count ≡ word_count past = n ∙ ap (λ (x : ℕ). least_from (λ w. nat_le x (32 * w)) 7 1) span_is in
    let word : ℕ → ℕ = λ w. history_word past (top - 32 * w) in
    let long : length (take count kept) ≡ count = length-take-le count kept (omega arith) in
    let words : take count kept ≡ map word (range_with_len 0 count) =
    ext_get_or 0 (take count kept) (map word (range_with_len 0 count)) (long ∙ sym (length-map-range_with_len word 0 count))
    (λ i low.
    let below : i < count = omega arith in
    let x : ℕ = slice_index kept i in
    let x_is : x ≡ slice_index book.history i = each i (omega arith) ∙ sym (cond_below i count (slice_index book.history i) 0 below) in
    get_or-take count kept i 0 below
    ∙ spelled_by 32 x (λ j. is_among (top - 32 * i - j) taken) (fits i)
    (λ j small.
    let place : top - (32 * i + j) ≡ top - 32 * i - j = omega arith in
    ap (λ (y : ℕ). bit_at y j) x_is ∙ sym (bit_in_word book.history i j (32 * i + j) small refl)
    ∙ h.history refl (32 * i + j) (omega arith) ∙ ap (λ (y : ℕ). if is_among y taken then 1 else 0) place)
    ∙ sym (get_or-map-range_with_len word 0 count i i 0 below (omega arith))) in
    same_head (book.top % 16384) (top % 16384) (take count kept) (map word (range_with_len 0 (word_count past)))
    (ap (λ (x : ℕ). x % 16384) h.top) (words ∙ ap (λ (x : ℕ). map word (range_with_len 0 x)) count_is)

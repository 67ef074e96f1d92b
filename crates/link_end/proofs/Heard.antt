-- Entries heard one after another, and the moves that a head tells.
use Rattle.std.proofs.Common.{◌≡◌, ℕ, zero, suc, ◌+◌, ◌-◌, ◌==◌, ◌<◌, ◌≤◌, max, List, [], ◌∷◌, ◌++◌, map, take, drop, reverse, length, Bool, true, false, ◌||◌, cond, nat_lt, Option, Some, None, is_some, filter, refl, sym, ap, ◌∙◌, subst, arith, append_assoc, slice_get, get_or, if◌then◌else◌, ℤ, pos, negsuc, ◌-ℤ◌, ◌≤ℤ◌}
use Rattle.std.specs.Prelude.{int_lt}
use Rattle.std.specs.List.{filter_map, cons_option, list_any, range_with_len}
use Rattle.std.specs.Bool.{then_some}
use Rattle.std.proofs.lemmas.Int.{ints}
use Rattle.std.proofs.lemmas.Bool.{false≢true, ne_eqb, eq-eqb, ltb-true}
use Rattle.std.proofs.lemmas.List.{append-nil, map-id, map-append, reverse-append, take_more, take-append-drop}
use Rattle.std.proofs.lemmas.List.Elements.{filter-append}
use Rattle.std.proofs.lemmas.List.FromFn.{filter_of_map_range_with_len_more}
use Rattle.protocol_model.specs.declared.Version.{Version}
use Rattle.protocol_model.specs.declared.Version.TheVariants.{One, Two}
use Rattle.protocol_model.specs.declared.Cause.{Cause}
use Rattle.protocol_model.specs.declared.Cause.TheVariants.{BadAck}
use Rattle.protocol_model.specs.declared.Fate.{Fate}
use Rattle.protocol_model.specs.Packet.{Head}
use Rattle.protocol_model.specs.Bits.{near}
use Rattle.protocol_model.specs.Search.{or_else, newest_of, is_among, greatest_of}
use Rattle.connection_model.specs.Feed.{Past, Took, Entry, Told, Delivered}
use Rattle.connection_model.specs.Fates.{high_of, moved_of, last_sent, fate_of, named_numbers, named_by, number_above, history_of, is_arrived}
use Rattle.connection_model.specs.Verdict.{ack_cause, entry_of, entries_in}
use Rattle.packet_codec.specs.Values.{rec_of, packet_value}
use Rattle.packet_codec.specs.declared.packet.Packet.{Packet as PacketValue}
use Rattle.bit_io.specs.HeadOf.{head_of}
use Rattle.packet_codec.specs.declared.packet.Rec.{Rec as RecValue}
use Rattle.ack_book.specs.Book.{Book}
use Rattle.ack_book.specs.Keeps.{Keeps}
use Rattle.ack_book.specs.Answers.{named_in, names_unsent}
use Rattle.ack_book.specs.declared.answer.BadAck.{BadAck as BadAckValue}
use Rattle.ack_book.proofs.Names.{named_sent}
use Rattle.connection_laws.specs.Taken.{Falls}
use Rattle.connection_laws.proofs.Searches.{newest_hit, newest_miss}
use Rattle.connection_laws.proofs.Arrivals.{arrived_is_moved}
use Rattle.link_end.specs.News.{News, Moves, moves_from, news_in, news_of, bad_of}
use Rattle.link_end.specs.Heard.{Hears, entries_of}
use Rattle.protocol_laws.proofs.Greatest.{among_above, greatest_of-append, greatest_of-cons}

-- ---- one list of entries behind another

reverse_push : (entry : Entry) (entries told : List Entry)
    → reverse (entry ∷ entries) ++ told ≡ reverse entries ++ (entry ∷ told)
reverse_push entry entries told =
    ap (λ (l : List Entry). l ++ told) (reverse-append (entry ∷ []) entries)
    ∙ append_assoc (reverse entries) (entry ∷ []) told

both_step : {A : Type 0} (o rest : Option A) → or_else o rest ≡ None → (o ≡ None) × (rest ≡ None)
both_step None rest e = (refl, e)
both_step (Some x) rest e = absurd (let no : Some x ≡ None = e in cc)

module _ (past : Past) (m : ℕ) (handed : List Delivered) where
  news_both : (told es more : List Entry) → bad_of (Took m told handed ∷ past) es ≡ None
      → news_of (Took m told handed ∷ past) (es ++ more)
      ≡ news_of (Took m told handed ∷ past) es ++ news_of (Took m (reverse es ++ told) handed ∷ past) more
  news_both told [] more e = refl
  news_both told (x ∷ es) more e =
      let p : Past = Took m told handed ∷ past in
      let good = both_step (ack_cause p x) (bad_of (Took m (x ∷ told) handed ∷ past) es) e in
      let test : is_some (ack_cause p x) ≡ false = ap (λ (o : Option Cause). is_some o) good.0 in
      let later : List News = news_of (Took m (x ∷ told) handed ∷ past) es in
      let last : List News = news_of (Took m (reverse (x ∷ es) ++ told) handed ∷ past) more in
      ap (λ (b : Bool). if b then [] else news_in (high_of p) x
      ++ news_of (Took m (x ∷ told) handed ∷ past) (es ++ more)) test
      ∙ ap (λ (l : List News). news_in (high_of p) x ++ l)
      (news_both (x ∷ told) es more good.1
      ∙ ap (λ (l : List Entry). later ++ news_of (Took m l handed ∷ past) more) (sym (reverse_push x es told)))
      ∙ sym (append_assoc (news_in (high_of p) x) later last)
      ∙ ap (λ (b : Bool). (if b then [] else news_in (high_of p) x ++ later) ++ last) (sym test)

  bad_both : (told es more : List Entry) → bad_of (Took m told handed ∷ past) es ≡ None
      → bad_of (Took m told handed ∷ past) (es ++ more) ≡ bad_of (Took m (reverse es ++ told) handed ∷ past) more
  bad_both told [] more e = refl
  bad_both told (x ∷ es) more e =
      let p : Past = Took m told handed ∷ past in
      let good = both_step (ack_cause p x) (bad_of (Took m (x ∷ told) handed ∷ past) es) e in
      ap (λ (o : Option Cause). or_else o (bad_of (Took m (x ∷ told) handed ∷ past) (es ++ more))) good.0
      ∙ bad_both (x ∷ told) es more good.1
      ∙ ap (λ (l : List Entry). bad_of (Took m l handed ∷ past) more) (sym (reverse_push x es told))

  -- after the first bad one nothing is told
  news_stop : (told es more : List Entry) (c : Cause) → bad_of (Took m told handed ∷ past) es ≡ Some c
      → news_of (Took m told handed ∷ past) (es ++ more) ≡ news_of (Took m told handed ∷ past) es
  news_stop told [] more c e = absurd (let no : (let o : Option Cause = None in o) ≡ Some c = e in cc)
  news_stop told (x ∷ es) more c e =
      by (ack_cause (Took m told handed ∷ past) x) refl (λ q. news_stop (x ∷ told) es more c q)
    where
      by : (o : Option Cause) → ack_cause (Took m told handed ∷ past) x ≡ o
          → (bad_of (Took m (x ∷ told) handed ∷ past) es ≡ Some c
          → news_of (Took m (x ∷ told) handed ∷ past) (es ++ more) ≡ news_of (Took m (x ∷ told) handed ∷ past) es)
          → news_of (Took m told handed ∷ past) ((x ∷ es) ++ more) ≡ news_of (Took m told handed ∷ past) (x ∷ es)
      by (Some b) q ih = rw q refl
      by None q ih =
          let p : Past = Took m told handed ∷ past in
          let rest : bad_of (Took m (x ∷ told) handed ∷ past) es ≡ Some c =
          sym (ap (λ (o : Option Cause). or_else o (bad_of (Took m (x ∷ told) handed ∷ past) es)) q) ∙ e in
          ap (λ (o : Option Cause). if is_some o then [] else news_in (high_of p) x
          ++ news_of (Took m (x ∷ told) handed ∷ past) (es ++ more)) q
          ∙ ap (λ (l : List News). news_in (high_of p) x ++ l) (ih rest)
          ∙ ap (λ (o : Option Cause). if is_some o then [] else news_in (high_of p) x
          ++ news_of (Took m (x ∷ told) handed ∷ past) es) (sym q)

  bad_stop : (told es more : List Entry) (c : Cause) → bad_of (Took m told handed ∷ past) es ≡ Some c
      → bad_of (Took m told handed ∷ past) (es ++ more) ≡ Some c
  bad_stop told [] more c e = absurd (let no : (let o : Option Cause = None in o) ≡ Some c = e in cc)
  bad_stop told (x ∷ es) more c e =
      by (ack_cause (Took m told handed ∷ past) x) refl (λ q. bad_stop (x ∷ told) es more c q)
    where
      by : (o : Option Cause) → ack_cause (Took m told handed ∷ past) x ≡ o
          → (bad_of (Took m (x ∷ told) handed ∷ past) es ≡ Some c
          → bad_of (Took m (x ∷ told) handed ∷ past) (es ++ more) ≡ Some c)
          → bad_of (Took m told handed ∷ past) ((x ∷ es) ++ more) ≡ Some c
      by (Some b) q ih =
          ap (λ (o : Option Cause). or_else o (bad_of (Took m (x ∷ told) handed ∷ past) (es ++ more))) q
          ∙ sym (ap (λ (o : Option Cause). or_else o (bad_of (Took m (x ∷ told) handed ∷ past) es)) q) ∙ e
      by None q ih =
          ap (λ (o : Option Cause). or_else o (bad_of (Took m (x ∷ told) handed ∷ past) (es ++ more))) q
          ∙ ih (sym (ap (λ (o : Option Cause). or_else o (bad_of (Took m (x ∷ told) handed ∷ past) es)) q) ∙ e)

-- entries that told no bad one, and then more
pub hears_both : (one two : Book) (first second third : List News) (v : Version) (past : Past) (m : ℕ)
    (told : List Entry) (handed : List Delivered) (es more : List Entry)
    (bad : Option BadAckValue) → Hears one first second v past m told handed es None
    → Hears two second third v past m (reverse es ++ told) handed more bad
    → Hears two first third v past m told handed (es ++ more) bad
hears_both one two first second third v past m told handed es more bad a b =
    let good : bad_of (Took m told handed ∷ past) es ≡ None = sym a.cause in
    record {
      news = b.news
          ∙ ap (λ (l : List News). l ++ news_of (Took m (reverse es ++ told) handed ∷ past) more) a.news
          ∙ append_assoc first (news_of (Took m told handed ∷ past) es)
          (news_of (Took m (reverse es ++ told) handed ∷ past) more)
          ∙ ap (λ (l : List News). first ++ l) (sym (news_both past m handed told es more good));
      cause = b.cause ∙ sym (bad_both past m handed told es more good);
      stands = λ e. subst (λ (l : List Entry). Keeps two v (Took m l handed ∷ past))
          (sym (append_assoc (reverse more) (reverse es) told)
          ∙ ap (λ (l : List Entry). l ++ told) (sym (reverse-append es more))) (b.stands e);
    }

-- what comes after a bad one isn't heard
pub hears_stop : (book : Book) (first second : List News) (v : Version) (past : Past) (m : ℕ) (told : List Entry)
    (handed : List Delivered) (es more : List Entry)
    (bad : BadAckValue) → Hears book first second v past m told handed es (Some bad)
    → Hears book first second v past m told handed (es ++ more) (Some bad)
hears_stop book first second v past m told handed es more bad a = record {
  news = a.news ∙ ap (λ (l : List News). first ++ l) (sym (news_stop past m handed told es more _ (sym a.cause)));
  cause = sym (bad_stop past m handed told es more _ (sym a.cause));
  stands = λ e. absurd (let no : Some bad ≡ None = e in cc);
}

pub hears_none : (book : Book) (news : List News) (v : Version) (past : Past) (m : ℕ) (told : List Entry)
    (handed : List Delivered)
    → Keeps book v (Took m told handed ∷ past) → Hears book news news v past m told handed [] None
hears_none book news v past m told handed h = record { news = sym (append-nil news); cause = refl; stands = λ e. h }

-- ---- the moves of a head

-- the last of these, or the one before them
abbrev pub last_in : ℕ → List ℕ → ℕ
last_in a [] = a
last_in a (n ∷ ns) = last_in n ns

moves-push : (a : ℕ) (ns : List ℕ) (n : ℕ)
    → moves_from a (ns ++ n ∷ []) ≡ moves_from a ns ++ Moves (last_in a ns) n ∷ []
moves-push a [] n = refl
moves-push a (k ∷ ns) n = ap (λ (l : List News). Moves a k ∷ l) (moves-push k ns n)

last-push : (a : ℕ) (ns : List ℕ) (n : ℕ) → last_in a (ns ++ n ∷ []) ≡ n
last-push a [] n = refl
last-push a (k ∷ ns) n = last-push k ns n

filter_more : (p : ℕ → Bool) (a n j : ℕ) → a + n ≡ j
    → filter p (range_with_len a (n + 1)) ≡ filter p (range_with_len a n) ++ cond (p j) (j ∷ []) []
filter_more p a n j e =
    ap (filter p) (sym (map-id (range_with_len a (n + 1))))
    ∙ filter_of_map_range_with_len_more p (λ x. x) a n j e
    ∙ ap (λ (l : List ℕ). filter p l ++ cond (p j) (j ∷ []) []) (map-id (range_with_len a n))

-- the numbers told so far
pub record Telling (p : ℕ → Bool) (from number last : ℕ) (before after : List News) : Type 0 where
  pub news : after ≡ before ++ moves_from from (filter p (range_with_len (from + 1) (number - (from + 1))))
  pub latest : last ≡ last_in from (filter p (range_with_len (from + 1) (number - (from + 1))))

pub telling_none : (p : ℕ → Bool) (from : ℕ) (news : List News) → Telling p from (from + 1) from news news
telling_none p from news =
    let none : from + 1 - (from + 1) ≡ 0 = omega arith in
    record {
      news = sym (append-nil news)
          ∙ ap (λ (n : ℕ). news ++ moves_from from (filter p (range_with_len (from + 1) n))) (sym none);
      latest = ap (λ (n : ℕ). last_in from (filter p (range_with_len (from + 1) n))) (sym none);
    }

pub telling_more : (p : ℕ → Bool) (from number last next : ℕ) (before after later : List News)
    → Telling p from number last before after → from + 1 ≤ number
    → next ≡ (if p number then number else last) → later ≡ after ++ (if p number then Moves last number ∷ [] else [])
    → Telling p from (number + 1) next before later
telling_more p from number last next before after later t low is told =
    let n : ℕ = number - (from + 1) in
    let xs : List ℕ = filter p (range_with_len (from + 1) n) in
    let count : number + 1 - (from + 1) ≡ n + 1 = omega arith in
    let more : filter p (range_with_len (from + 1) (number + 1 - (from + 1)))
    ≡ xs ++ cond (p number) (number ∷ []) [] =
    ap (λ (k : ℕ). filter p (range_with_len (from + 1) k)) count ∙ filter_more p (from + 1) n number (omega arith) in
    record {
      news = told ∙ by_news (p number) ∙ ap (λ (l : List ℕ). before ++ moves_from from l) (sym more);
      latest = is ∙ by_last (p number) ∙ ap (last_in from) (sym more);
    }
  where
    xs : List ℕ
    xs = filter p (range_with_len (from + 1) (number - (from + 1)))

    by_news : (b : Bool)
        → after ++ (if b then Moves last number ∷ [] else [])
        ≡ before ++ moves_from from (xs ++ cond b (number ∷ []) [])
    by_news true =
        ap (λ (l : List News). l ++ Moves last number ∷ []) t.news
        ∙ append_assoc before (moves_from from xs) (Moves last number ∷ [])
        ∙ ap (λ (k : ℕ). before ++ (moves_from from xs ++ Moves k number ∷ [])) t.latest
        ∙ ap (λ (l : List News). before ++ l) (sym (moves-push from xs number))
    by_news false = append-nil after ∙ t.news ∙ ap (λ (l : List ℕ). before ++ moves_from from l) (sym (append-nil xs))

    by_last : (b : Bool) → (if b then number else last) ≡ last_in from (xs ++ cond b (number ∷ []) [])
    by_last true = sym (last-push from xs number)
    by_last false = t.latest ∙ ap (last_in from) (sym (append-nil xs))

pub fate_is : (past : Past) (n : ℕ) (f : Fate) → f ≡ fate_of past n → is_arrived f ≡ is_among n (moved_of past)
fate_is past n f e = ap is_arrived e ∙ arrived_is_moved past n

-- ---- numbers that fall, and ascend when they are turned round

none_in : (p : ℕ → Bool) (a n : ℕ) → ((k : ℕ) → a ≤ k → k < a + n → p k ≡ false) → filter p (range_with_len a n) ≡ []
none_in p a zero h = refl
none_in p a (suc n) h =
    rw (h a (omega arith) (omega arith)) (none_in p (a + 1) n (λ k lo hi. h k (omega arith) (omega arith)))

filter_same : (p q : ℕ → Bool) (a n : ℕ) → ((k : ℕ) → a ≤ k → k < a + n → p k ≡ q k)
    → filter p (range_with_len a n) ≡ filter q (range_with_len a n)
filter_same p q a zero h = refl
filter_same p q a (suc n) h =
    rw (h a (omega arith) (omega arith), filter_same p q (a + 1) n (λ k lo hi. h k (omega arith) (omega arith))) refl

range_both : (a n m : ℕ) → range_with_len a (n + m) ≡ range_with_len a n ++ range_with_len (a + n) m
range_both a zero m = (let e : 0 + m ≡ m = omega arith in let f : a + 0 ≡ a = omega arith in rw (e, f) refl)
range_both a (suc n) m =
    let e : suc n + m ≡ suc (n + m) = omega arith in
    let f : a + suc n ≡ a + 1 + n = omega arith in
    rw (e, f) (ap (λ (l : List ℕ). a ∷ l) (range_both (a + 1) n m))

-- all are above this
abbrev Above : ℕ → List ℕ → Type 0
Above high [] = Unit {0}
Above high (n ∷ ns) = (high < n) × Above high ns

among_first : (xs ys : List ℕ) (k : ℕ) → is_among k ys ≡ false → is_among k (xs ++ ys) ≡ is_among k xs
among_first [] ys k e = e
among_first (x ∷ xs) ys k e = ap (λ (b : Bool). (x == k) || b) (among_first xs ys k e)

among_rest : (n : ℕ) (ns : List ℕ) (k : ℕ) → (n ≡ k → ⊥) → is_among k (n ∷ ns) ≡ is_among k ns
among_rest n ns k h = ap (λ (b : Bool). b || is_among k ns) (ne_eqb n k h)

falls_filter : (high : ℕ) (ns : List ℕ) → Falls ns → Above high ns
    → filter (λ k. is_among k ns) (range_with_len (high + 1) (max high (greatest_of ns) - high)) ≡ reverse ns
falls_filter high [] f a =
    let none : max high 0 - high ≡ 0 = omega arith in
    ap (λ (k : ℕ). filter (λ k. is_among k []) (range_with_len (high + 1) k)) none
falls_filter high (n ∷ ns) f a =
    let g : ℕ = max high (greatest_of ns) in
    let p : ℕ → Bool = λ k. is_among k (n ∷ ns) in
    let top : max high (greatest_of (n ∷ ns)) - high ≡ (g - high) + ((n - g - 1) + 1) =
    omega (arith, greatest_of-cons n ns, f.0, a.0) in
    let start : high + 1 + (g - high) ≡ g + 1 = omega arith in
    let end : g + 1 + (n - g - 1) ≡ n = omega (arith, f.0, a.0) in
    let first : filter p (range_with_len (high + 1) (g - high)) ≡ reverse ns =
    filter_same p (λ k. is_among k ns) (high + 1) (g - high)
    (λ k lo hi. among_rest n ns k (λ e. absurd (omega (arith, f.0, a.0))))
    ∙ falls_filter high ns f.1 a.1 in
    let between : filter p (range_with_len (g + 1) (n - g - 1)) ≡ [] =
    none_in p (g + 1) (n - g - 1) (λ k lo hi. among_rest n ns k (λ e. absurd (omega arith))
    ∙ among_above k ns (omega arith)) in
    let last : filter p (range_with_len (g + 1) ((n - g - 1) + 1)) ≡ n ∷ [] =
    filter_more p (g + 1) (n - g - 1) n end
    ∙ ap (λ (l : List ℕ). l ++ cond (p n) (n ∷ []) []) between
    ∙ ap (λ (b : Bool). cond (b || is_among n ns) (n ∷ []) []) (eq-eqb n n refl) in
    ap (λ (k : ℕ). filter p (range_with_len (high + 1) k)) top
    ∙ ap (filter p) (range_both (high + 1) (g - high) ((n - g - 1) + 1))
    ∙ filter-append p (range_with_len (high + 1) (g - high))
    (range_with_len (high + 1 + (g - high)) ((n - g - 1) + 1))
    ∙ ap (λ (k : ℕ). filter p (range_with_len (high + 1) (g - high))
    ++ filter p (range_with_len k ((n - g - 1) + 1))) start
    ∙ ap (λ (l : List ℕ). l ++ filter p (range_with_len (g + 1) ((n - g - 1) + 1))) first
    ∙ ap (λ (l : List ℕ). reverse ns ++ l) last
    ∙ sym (reverse-append (n ∷ []) ns)

-- ---- the numbers that a history names

pub record Named (high : ℕ) (a : ℤ) (ns : List ℕ) : Type 0 where
  pub falls : Falls ns
  pub above : Above high ns
  pub most : (b : ℕ) → a ≤ℤ pos b → greatest_of ns ≤ b

named_more : (high n : ℕ) (rest : List ℕ) → Named high (pos n -ℤ pos 1) rest → (b : Bool) → nat_lt high n ≡ b
    → Named high (pos n) (cons_option (then_some b n) rest)
named_more high n rest r true e =
    let lt : high < n = ltb-true high n e in
    let below : greatest_of rest ≤ n - 1 = r.most (n - 1) (omega (arith, ints)) in
    record {
      falls = (omega (arith, below, lt), r.falls);
      above = (lt, r.above);
      most = λ b le. (let small : n ≤ b = omega (arith, ints) in
          omega (arith, greatest_of-cons n rest, below, small));
    }
named_more high n rest r false e =
    record { falls = r.falls; above = r.above; most = λ b le. r.most b (omega (arith, ints)) }

named : (high : ℕ) (bits : List Bool) (a : ℤ) → Named high a (filter_map (number_above high) (named_numbers a bits))
named high [] a = record { falls = tt; above = tt; most = λ b le. omega arith }
named high (false ∷ bits) a =
    let r = named high bits (a -ℤ pos 1) in
    record { falls = r.falls; above = r.above; most = λ b le. r.most b (omega (arith, ints)) }
named high (true ∷ bits) (pos n) =
    named_more high n (filter_map (number_above high) (named_numbers (pos n -ℤ pos 1) bits))
    (named high bits (pos n -ℤ pos 1)) (nat_lt high n) refl
named high (true ∷ bits) (negsuc n) =
    let r = named high bits (negsuc n -ℤ pos 1) in
    record { falls = r.falls; above = r.above; most = λ b le. r.most b (omega (arith, ints)) }

-- the packets that a head tells of are those that moved with it, ascending
pub moves_told : (past : Past) (m : ℕ) (told : List Entry) (handed : List Delivered) (head : Head)
    → moves_from (high_of (Took m told handed ∷ past))
    (filter (λ n. is_among n (moved_of (Took m (Told head ∷ told) handed ∷ past)))
    (range_with_len (high_of (Took m told handed ∷ past) + 1)
    (high_of (Took m (Told head ∷ told) handed ∷ past) - high_of (Took m told handed ∷ past))))
    ≡ news_in (high_of (Took m told handed ∷ past)) (Told head)
moves_told past m told handed head =
    let before : List ℕ = moved_of (Took m told handed ∷ past) in
    let high : ℕ = greatest_of before in
    let new : List ℕ = filter_map (number_above high) (named_by (Told head) high) in
    let facts : Named high (near head.top (pos high) 16384) new =
    named high (history_of head) (near head.top (pos high) 16384) in
    let top : greatest_of (new ++ before) - high ≡ max high (greatest_of new) - high =
    omega (arith, greatest_of-append new before) in
    ap (moves_from high)
    (ap (λ (k : ℕ). filter (λ n. is_among n (new ++ before)) (range_with_len (high + 1) k)) top
    ∙ filter_same (λ n. is_among n (new ++ before)) (λ n. is_among n new) (high + 1)
    (max high (greatest_of new) - high)
    (λ k lo hi. among_first new before k (among_above k before (omega arith)))
    ∙ falls_filter high new facts.falls facts.above)

pub high_grows : (past : Past) (m : ℕ) (told : List Entry) (handed : List Delivered) (entry : Entry)
    → high_of (Took m told handed ∷ past) ≤ high_of (Took m (entry ∷ told) handed ∷ past)
high_grows past m told handed entry =
    let before : List ℕ = moved_of (Took m told handed ∷ past) in
    let new : List ℕ = filter_map (number_above (greatest_of before)) (named_by entry (greatest_of before)) in
    omega (arith, greatest_of-append new before)

-- ---- a head that names what wasn't sent

pub none_unsent : (last : ℕ) (c : ℤ → Cause) (zs : List ℤ) → list_any (λ n. int_lt (pos last) n) zs ≡ false
    → newest_of (λ z. then_some (int_lt (pos last) z) (c z)) zs ≡ None
none_unsent last c [] e = refl
none_unsent last c (z ∷ zs) e = by (int_lt (pos last) z) refl (λ q. none_unsent last c zs q)
  where
    by : (b : Bool) → int_lt (pos last) z ≡ b
        → (list_any (λ n. int_lt (pos last) n) zs ≡ false
        → newest_of (λ z. then_some (int_lt (pos last) z) (c z)) zs ≡ None)
        → newest_of (λ z. then_some (int_lt (pos last) z) (c z)) (z ∷ zs) ≡ None
    by true q ih = absurd (false≢true (sym e ∙ ap (λ (b : Bool). b || list_any (λ n. int_lt (pos last) n) zs) q))
    by false q ih =
        newest_miss (λ z. then_some (int_lt (pos last) z) (c z)) z zs (ap (λ (b : Bool). then_some b (c z)) q)
        ∙ ih (sym (ap (λ (b : Bool). b || list_any (λ n. int_lt (pos last) n) zs) q) ∙ e)

not_less : (last : ℕ) (z : ℤ) → int_lt (pos last) z ≡ false → z ≤ℤ pos last
not_less last z e = grind (arith, ints)

pub first_unsent : (last : ℕ) (c : ℤ → Cause) (bits : List Bool) (a x : ℤ)
    → slice_get (named_numbers a bits) 0 ≡ Some x
    → list_any (λ n. int_lt (pos last) n) (named_numbers a bits) ≡ true
    → newest_of (λ z. then_some (int_lt (pos last) z) (c z)) (named_numbers a bits) ≡ Some (c x)
first_unsent last c [] a x e h = absurd (false≢true h)
first_unsent last c (false ∷ bits) a x e h = first_unsent last c bits (a -ℤ pos 1) x e h
first_unsent last c (true ∷ bits) a x e h = by (int_lt (pos last) a) refl
  where
    some_is : (x y : ℤ) → (let o : Option ℤ = Some x in o) ≡ Some y → x ≡ y
    some_is x y q = cc

    by : (b : Bool) → int_lt (pos last) a ≡ b
        → newest_of (λ z. then_some (int_lt (pos last) z) (c z)) (a ∷ named_numbers (a -ℤ pos 1) bits) ≡ Some (c x)
    by true q =
        newest_hit (λ z. then_some (int_lt (pos last) z) (c z)) a (named_numbers (a -ℤ pos 1) bits) (c a)
        (ap (λ (b : Bool). then_some b (c a)) q)
        ∙ ap (λ (z : ℤ). Some (c z)) (some_is a x e)
    by false q = absurd (false≢true (sym (named_sent (true ∷ bits) a last (not_less last a q)) ∙ h))

pub not_unsent : (b : Bool) → (b ≡ true → (let x : Bool = false in x) ≡ true) → b ≡ false
not_unsent true h = absurd (false≢true (h refl))
not_unsent false h = refl

-- what comes of a head
pub head_heard : (book : Book) (v : Version) (past : Past) (m : ℕ) (told : List Entry) (handed : List Delivered)
    (head : Head) (first second : List News)
    → names_unsent (Took m told handed ∷ past) head ≡ false
    → second ≡ first ++ news_in (high_of (Took m told handed ∷ past)) (Told head)
    → Keeps book v (Took m (Told head ∷ told) handed ∷ past)
    → Hears book first second v past m told handed (Told head ∷ []) None
head_heard book v past m told handed head first second none news h =
    let p : Past = Took m told handed ∷ past in
    let good : ack_cause p (Told head) ≡ None =
    none_unsent (last_sent p) (λ a. BadAck a (last_sent p)) (named_by (Told head) (high_of p)) none in
    record {
      news = news
          ∙ ap (λ (l : List News). first ++ l) (sym (append-nil (news_in (high_of p) (Told head))))
          ∙ ap (λ (o : Option Cause). first
          ++ (if is_some o then [] else news_in (high_of p) (Told head) ++ [])) (sym good);
      cause = sym (ap (λ (o : Option Cause). or_else o None) good);
      stands = λ e. h;
    }

pub head_bad : (book : Book) (v : Version) (past : Past) (m : ℕ) (told : List Entry) (handed : List Delivered)
    (head : Head) (news : List News) (bad : BadAckValue)
    → names_unsent (Took m told handed ∷ past) head ≡ true
    → slice_get (named_in (Took m told handed ∷ past) head) 0 ≡ Some bad.acked
    → bad.sent ≡ last_sent (Took m told handed ∷ past)
    → Hears book news news v past m told handed (Told head ∷ []) (Some bad)
head_bad book v past m told handed head news bad some first sent =
    let p : Past = Took m told handed ∷ past in
    let cause : ack_cause p (Told head) ≡ Some (BadAck bad.acked (last_sent p)) =
    first_unsent (last_sent p) (λ a. BadAck a (last_sent p)) (history_of head) (near head.top (pos (high_of p)) 16384)
    bad.acked first some in
    record {
      news = sym (append-nil news)
          ∙ ap (λ (o : Option Cause). news
          ++ (if is_some o then [] else news_in (high_of p) (Told head) ++ [])) (sym cause);
      cause = ap (λ (n : ℕ). Some (BadAck bad.acked n)) sent ∙ sym (ap (λ (o : Option Cause). or_else o None) cause);
      stands = λ e. absurd (let no : Some bad ≡ None = e in cc);
    }

-- ---- entries, one by one

pub entries_more : (recs : List RecValue) (i : ℕ) (rec : RecValue) → rec ≡ get_or recs i rec → i < length recs
    → entries_of (take (i + 1) recs) ≡ entries_of (take i recs) ++ entry_of (rec_of rec) ∷ []
entries_more recs i rec is lt =
    ap entries_of (take_more recs i rec lt)
    ∙ map-append (λ rec. entry_of (rec_of rec)) (take i recs) (get_or recs i rec ∷ [])
    ∙ ap (λ (r : RecValue). entries_of (take i recs) ++ entry_of (rec_of r) ∷ []) (sym is)

pub entries_split : (recs : List RecValue) (i : ℕ)
    → entries_of (take i recs) ++ entries_of (drop i recs) ≡ entries_of recs
entries_split recs i =
    sym (map-append (λ rec. entry_of (rec_of rec)) (take i recs) (drop i recs))
    ∙ ap entries_of (take-append-drop i recs)

-- one more entry is heard
pub heard_more : (one two : Book) (first second third : List News) (v : Version) (past : Past) (m : ℕ)
    (told : List Entry) (handed : List Delivered)
    (recs : List RecValue) (i : ℕ) (rec : RecValue) (bad found : Option BadAckValue) → rec ≡ get_or recs i rec
    → i < length recs
    → Hears one first second v past m told handed (entries_of (take i recs)) None
    → ((told : List Entry) → Keeps one v (Took m told handed ∷ past)
    → Hears two second third v past m told handed (entry_of (rec_of rec) ∷ []) found) → found ≡ bad
    → Hears two first third v past m told handed (entries_of (take (i + 1) recs)) bad
heard_more one two first second third v past m told handed recs i rec bad found is lt h next same =
    let es : List Entry = entries_of (take i recs) in
    subst (λ (o : Option BadAckValue). Hears two first third v past m told handed (entries_of (take (i + 1) recs)) o)
    same
    (subst (λ (l : List Entry). Hears two first third v past m told handed l found)
    (sym (entries_more recs i rec is lt))
    (hears_both one two first second third v past m told handed es (entry_of (rec_of rec) ∷ []) found h
    (next (reverse es ++ told) (h.stands refl))))

-- one of the entries was bad
pub heard_bad : (book : Book) (first second : List News) (v : Version) (past : Past) (m : ℕ) (told : List Entry)
    (handed : List Delivered)
    (recs : List RecValue) (i : ℕ) (bad : BadAckValue)
    → Hears book first second v past m told handed (entries_of (take i recs)) (Some bad)
    → Hears book first second v past m told handed (entries_of recs) (Some bad)
heard_bad book first second v past m told handed recs i bad h =
    subst (λ (l : List Entry). Hears book first second v past m told handed l (Some bad)) (entries_split recs i)
    (hears_stop book first second v past m told handed (entries_of (take i recs)) (entries_of (drop i recs)) bad h)

-- ---- a packet

entries_map : (recs : List RecValue) → map entry_of (map rec_of recs) ≡ entries_of recs
entries_map [] = refl
entries_map (rec ∷ recs) = ap (λ (l : List Entry). entry_of (rec_of rec) ∷ l) (entries_map recs)

entries_one : (v : Version) (p : PacketValue) → v ≡ One → entries_in v (packet_value p) ≡ entries_of p.recs
entries_one v p e = ap (λ (w : Version). entries_in w (packet_value p)) e ∙ entries_map p.recs

entries_two : (v : Version) (p : PacketValue) → v ≡ Two
    → entries_in v (packet_value p) ≡ Told (head_of p.head) ∷ entries_of p.recs
entries_two v p e =
    ap (λ (w : Version). entries_in w (packet_value p)) e
    ∙ ap (λ (l : List Entry). Told (head_of p.head) ∷ l) (entries_map p.recs)

pub heard_one : (book : Book) (first second : List News) (v : Version) (past : Past) (m : ℕ) (handed : List Delivered)
    (p : PacketValue) (recs : List RecValue)
    (bad : Option BadAckValue) → v ≡ One → recs ≡ p.recs
    → Hears book first second v past m [] handed (entries_of recs) bad
    → Hears book first second v past m [] handed (entries_in v (packet_value p)) bad
heard_one book first second v past m handed p recs bad e is h =
    subst (λ (l : List Entry). Hears book first second v past m [] handed l bad) (ap entries_of is
    ∙ sym (entries_one v p e)) h

pub heard_two : (one two : Book) (first second third : List News) (v : Version) (past : Past) (m : ℕ)
    (handed : List Delivered) (p : PacketValue) (recs : List RecValue)
    (bad found : Option BadAckValue) → v ≡ Two → recs ≡ p.recs
    → Hears one first second v past m [] handed (Told (head_of p.head) ∷ []) found → found ≡ None
    → (Keeps one v (Took m (Told (head_of p.head) ∷ []) handed ∷ past)
    → Hears two second third v past m (Told (head_of p.head) ∷ []) handed (entries_of recs) bad)
    → Hears two first third v past m [] handed (entries_in v (packet_value p)) bad
heard_two one two first second third v past m handed p recs bad found e is h none next =
    let told : List Entry = Told (head_of p.head) ∷ [] in
    let head : Hears one first second v past m [] handed told None =
    subst (λ (o : Option BadAckValue). Hears one first second v past m [] handed told o) none h in
    subst (λ (l : List Entry). Hears two first third v past m [] handed l bad)
    (ap (λ (l : List RecValue). Told (head_of p.head) ∷ entries_of l) is ∙ sym (entries_two v p e))
    (hears_both one two first second third v past m [] handed told (entries_of recs) bad head
    (next (head.stands refl)))

pub heard_two_bad : (book : Book) (first second : List News) (v : Version) (past : Past) (m : ℕ)
    (handed : List Delivered) (p : PacketValue)
    (bad : BadAckValue) (found : Option BadAckValue) → v ≡ Two
    → Hears book first second v past m [] handed (Told (head_of p.head) ∷ []) found → found ≡ Some bad
    → Hears book first second v past m [] handed (entries_in v (packet_value p)) (Some bad)
heard_two_bad book first second v past m handed p bad found e h some =
    subst (λ (l : List Entry). Hears book first second v past m [] handed l (Some bad)) (sym (entries_two v p e))
    (hears_stop book first second v past m [] handed (Told (head_of p.head) ∷ []) (entries_of p.recs) bad
    (subst (λ (o : Option BadAckValue). Hears book first second v past m [] handed (Told (head_of p.head) ∷ []) o)
    some h))

-- Opens are made where all has arrived; what a server takes for known, opened or closed was received whole.
use Rattle.std.proofs.Common.{◌≡◌, inl, inr, ℕ, zero, suc, ◌+◌, ◌<◌, ◌≤◌, ◌==◌, ◌&&◌, List, [], ◌∷◌, ◌++◌, reverse, Bool, true, false, cond, not, refl, sym, ap, ◌∙◌, subst, arith, Option, Some, None, nat_lt, ◌⊎◌}
use Rattle.std.specs.List.{filter_map, cons_option, slice_get, range_with_len, list_all, list_any, AllByRecursion}
use Rattle.std.specs.Bool.{then_some}
use Rattle.std.proofs.lemmas.Bool.{cases_Bool, false≢true, cases_eq, eq-eqb, ne_eqb, and_parts, or_cases, not-false, ltb-true, ltb-false}
use Rattle.std.proofs.lemmas.List.{reverse-append}
use Rattle.protocol_model.specs.declared.Version.{Version}
use Rattle.protocol_model.specs.Payload.{Message, Opens, Closes, Updates, Calls, Gone, parts_of, actor_of}
use Rattle.connection_model.specs.Feed.{End, Past, Deed, Ticked, Made, Waits, Sent, Took, Ended, has_ended}
use Rattle.connection_model.specs.Bunches.{made_count, after_making, has_arrived, have_arrived, span, is_opening}
use Rattle.connection_model.specs.State.{Opened, Opening, Mark, is_mark, mark_in, last_mark, state_of, state_at, state_after, closed_as, is_opened}
use Rattle.connection_model.specs.Exports.{exports_segment, made_known, is_known}
use Rattle.connection_model.specs.Windows.{next_of, received_on}
use Rattle.connection_model.specs.Verdict.{with_told, with_handed}
use Rattle.connection_laws.specs.Run.{Move, Ticks, Makes, Defers, Sends, Takes, Hears, Hands, Ends, after_move, May, MayMake, IsRun}
use Rattle.connection_laws.specs.Link.{IsLink}
use Rattle.connection_laws.specs.Delivered.{on_index, Numbered, numbered_in, messages_on, AppliesPrefixes}
use Rattle.connection_laws.proofs.Moves.{told_ignored, handed_ignored}
use Rattle.connection_laws.proofs.Deeds.{always}
use Rattle.connection_laws.proofs.Arrivals.{arrival_made, arrival_sent, arrival_told, arrival_handed}
use Rattle.connection_laws.proofs.Fates.{moves_sent}
use Rattle.connection_laws.proofs.Items.{all_weaker}
use Rattle.connection_laws.proofs.Prefixes.{messages_made}
use Rattle.connection_laws.proofs.Searches.{least_below}
use Rattle.connection_laws.proofs.Transfer.{Transfers}
use Rattle.connection_laws.proofs.LinkedEnds.{both, turned, left_run, right_run}
use Rattle.connection_laws.proofs.LinkLaws.{applies_there, applies_back}
use Rattle.payload_laws.proofs.Bounds.{close_parts}
use Rattle.headline_laws.specs.Whole.{ArrivedBelow, OpensClear, MadeAt, IsReceived, ArrivesWhole, ExportReceived, MarkReceived}
use Rattle.headline_laws.specs.Follows.{parts_in}
use Rattle.headline_laws.proofs.WholeMessages.{InRow, rows, joined, arrived_below}

-- ---- opens are clear

-- an index without a span has nothing under way
all_arrived : (past : Past) (ch : ℕ) → span past ch ≡ 0 → ArrivedBelow past ch (made_count past ch + 1)
all_arrived past ch e i lo hi =
    not-false (has_arrived past ch i) (least_below (λ n. not (has_arrived past ch n)) (made_count past ch) 1 i lo (omega (arith, e, hi)))

-- it stays so where messages and arrivals do
clear_like : (past later : Past) → ((ch : ℕ) → on_index ch later ≡ on_index ch past) → ((ch i : ℕ) → has_arrived past ch i ≡ true → has_arrived later ch i ≡ true) → OpensClear past → OpensClear later
clear_like past later n a h ch =
    subst (AllByRecursion (λ (made : Numbered). is_opening made.1 ≡ true → ArrivedBelow later ch made.0)) (sym (n ch))
    (all_weaker (λ (made : Numbered). is_opening made.1 ≡ true → ArrivedBelow past ch made.0) (λ (made : Numbered). is_opening made.1 ≡ true → ArrivedBelow later ch made.0)
    (λ made f o i lo hi. a ch i (f o i lo hi)) (on_index ch past) (h ch))

-- it stays so after a message
clear_made : (end : End) (past : Past) (c : ℕ) (m : Message) → MayMake end past c m → OpensClear past → OpensClear (after_making past c m)
clear_made end past c m may h ch = elim (cases_eq c ch) [
  | inl e ↦ subst (λ (x : ℕ). AllByRecursion (λ (made : Numbered). is_opening made.1 ≡ true → ArrivedBelow (after_making past c m) x made.0) (on_index x (after_making past c m))) e
      (subst (AllByRecursion (λ (made : Numbered). is_opening made.1 ≡ true → ArrivedBelow (after_making past c m) c made.0)) (sym here) ((λ o. new m may o), older c))
  | inr ne ↦ subst (AllByRecursion (λ (made : Numbered). is_opening made.1 ≡ true → ArrivedBelow (after_making past c m) ch made.0))
      (sym (messages_made past ch c m ∙ ap (λ (b : Bool). cond b ((made_count past c + 1, m) ∷ on_index ch past) (on_index ch past)) (ne_eqb c ch ne))) (older ch)
]
  where
    here : on_index c (after_making past c m) ≡ (made_count past c + 1, m) ∷ on_index c past
    here = messages_made past c c m ∙ ap (λ (b : Bool). cond b ((made_count past c + 1, m) ∷ on_index c past) (on_index c past)) (eq-eqb c c refl)

    older : (x : ℕ) → AllByRecursion (λ (made : Numbered). is_opening made.1 ≡ true → ArrivedBelow (after_making past c m) x made.0) (on_index x past)
    older x =
        all_weaker (λ (made : Numbered). is_opening made.1 ≡ true → ArrivedBelow past x made.0) (λ (made : Numbered). is_opening made.1 ≡ true → ArrivedBelow (after_making past c m) x made.0)
        (λ made f o i lo hi. arrival_made past c m x i ∙ f o i lo hi) (on_index x past) (h x)

    new : (w : Message) → MayMake end past c w → is_opening w ≡ true → ArrivedBelow (after_making past c m) c (made_count past c + 1)
    new (Opens exports a class values) may o = λ i lo hi. arrival_made past c m c i ∙ all_arrived past c may.place.2 i lo hi
    new (Closes a sleeps) may o = absurd (false≢true o)
    new (Updates a class values) may o = absurd (false≢true o)
    new (Calls a n call args) may o = absurd (false≢true o)
    new (Gone a) may o = absurd (false≢true o)

-- an open is made where all has arrived
pub opens_clear : (end : End) (past : Past) → IsRun end past → OpensClear past
opens_clear end past run = always end OpensClear (λ ch. tt) step past run
  where
    step : (past : Past) (move : Move) → IsRun end past → has_ended past ≡ false → May end past move → OpensClear past → OpensClear (after_move past move)
    step past (Ticks sight) run alive may h = clear_like past (after_move past (Ticks sight)) (λ ch. refl) (λ ch i e. e) h
    step past (Makes c m) run alive may h = clear_made end past c m may h
    step past (Defers m) run alive may h = clear_like past (after_move past (Defers m)) (λ ch. refl) (λ ch i e. e) h
    step past (Sends items) run alive may h =
        clear_like past (after_move past (Sends items)) (λ ch. refl) (λ ch i e. arrival_sent end past items (λ n q. (moves_sent end past run n q).1) may.each ch i ∙ e) h
    step past (Takes n) run alive may h = clear_like past (after_move past (Takes n)) (λ ch. refl) (λ ch i e. e) h
    step past (Hears entry) run alive may h = clear_like past (with_told entry past) (λ ch. told_ignored (numbered_in ch) (λ n e es ds. refl) entry past) (λ ch i e. arrival_told entry past ch i e) h
    step past (Hands d) run alive may h = clear_like past (with_handed d past) (λ ch. handed_ignored (numbered_in ch) (λ n es d ds. refl) d past) (λ ch i e. arrival_handed d past ch i ∙ e) h
    step past (Ends ending) run alive may h = clear_like past (after_move past (Ends ending)) (λ ch. refl) (λ ch i e. e) h

-- ---- what has arrived was received whole

-- a message in a row is numbered by the parts before it
pub row_at : (newer : List Numbered) (made : Numbered) (older : List Numbered) → InRow (newer ++ made ∷ older) → made.0 ≡ parts_in older + 1
row_at [] made older h = h.0
row_at (x ∷ newer) made older h = row_at newer made older h.1

-- the parts of two lists
pub parts_append : (xs ys : List Numbered) → parts_in (xs ++ ys) ≡ parts_in xs + parts_in ys
parts_append [] ys = omega arith
parts_append (x ∷ xs) ys = omega (arith, parts_append xs ys)

-- the parts of a list reversed
pub parts_reverse : (xs : List Numbered) → parts_in (reverse xs) ≡ parts_in xs
parts_reverse [] = refl
parts_reverse (x ∷ xs) = omega (arith, ap parts_in (reverse-append (x ∷ []) xs), parts_append (reverse xs) (x ∷ []), parts_reverse xs)

-- what has arrived was received whole
pub arrives_whole : (v : Version) (end : End) (from to : Past) → IsRun end from → Transfers v from to → AppliesPrefixes from to → ArrivesWhole from to
arrives_whole v end from to run core applies ch made at arrived =
    let row : made.0 ≡ parts_in at.older + 1 = row_at at.newer made at.older (subst InRow at.split (rows end from run ch).row) in
    let order : messages_on from ch ≡ reverse (made ∷ at.older) ++ reverse at.newer = ap reverse at.split ∙ turn at.newer (made ∷ at.older) in
    let below : parts_in (reverse (made ∷ at.older)) < next_of (received_on to ch) =
    arrived_below v end from to run core ch (parts_in (reverse (made ∷ at.older))) (λ i lo hi. arrived i lo (omega (arith, parts_reverse (made ∷ at.older), row, hi))) in
    let whole = joined end from to run applies ch (reverse (made ∷ at.older)) (reverse at.newer) order below in
    record { at = at; rest = whole.rest; whole = whole.whole }
  where
    turn : (xs ys : List Numbered) → reverse (xs ++ ys) ≡ reverse ys ++ reverse xs
    turn xs ys = reverse-append xs ys

-- ---- what a server takes for known

-- each of a range has arrived
pub arrived_each : (past : Past) (ch count from : ℕ) → list_all (has_arrived past ch) (range_with_len from count) ≡ true → (i : ℕ) → from ≤ i → i < from + count → has_arrived past ch i ≡ true
arrived_each past ch zero from h i lo hi = absurd (omega (arith, lo, hi))
arrived_each past ch (suc count) from h i lo hi = (
    let b = and_parts (has_arrived past ch from) (list_all (has_arrived past ch) (range_with_len (from + 1) count)) h in
    elim (cases_eq from i) [
      | inl e ↦ ap (has_arrived past ch) (sym e) ∙ b.0
      | inr ne ↦ arrived_each past ch count (from + 1) b.1 i (above ne) (omega (arith, hi))
    ])
  where
    above : (from ≡ i → ⊥) → from + 1 ≤ i
    above ne = omega (arith, lo, ne)

-- what holds of all holds in its place
pub clear_at : (P : Numbered → Type 0) (newer : List Numbered) (made : Numbered) (older : List Numbered) → AllByRecursion P (newer ++ made ∷ older) → P made
clear_at P [] made older h = h.0
clear_at P (x ∷ newer) made older h = clear_at P newer made older h.1

-- an open arrived with all before it, once its own parts have
pub open_arrived : (end : End) (past : Past) → IsRun end past → (ch : ℕ) (made : Numbered) → MadeAt past ch made → is_opening made.1 ≡ true → have_arrived past ch made.0 (parts_of made.1) ≡ true → ArrivedBelow past ch (made.0 + parts_of made.1)
open_arrived end past run ch made at o h i lo hi = elim (cases_Bool (nat_lt i made.0)) [
  | inl e ↦ clear_at (λ (made : Numbered). is_opening made.1 ≡ true → ArrivedBelow past ch made.0) at.newer made at.older
      (subst (AllByRecursion (λ (made : Numbered). is_opening made.1 ≡ true → ArrivedBelow past ch made.0)) at.split (opens_clear end past run ch)) o i lo (ltb-true i made.0 e)
  | inr e ↦ arrived_each past ch (parts_of made.1) made.0 h i (ltb-false i made.0 e) hi
]

-- a segment that is known was exported by an open that arrived
pub record Known (past whole : Past) (g : ℕ) : Type 0 where
  pub channel : ℕ
  pub made : Numbered
  pub exports : exports_segment g made.1 ≡ true
  pub arrived : have_arrived whole channel made.0 (parts_of made.1) ≡ true
  pub at : MadeAt past channel made

-- a known segment stays so
known_later : (past whole : Past) (g : ℕ) (deed : Deed) → Known past whole g → Known (deed ∷ past) whole g
known_later past whole g deed k = record {
  channel = k.channel;
  made = k.made;
  exports = k.exports;
  arrived = k.arrived;
  at = record { newer = more (numbered_in k.channel deed); older = k.at.older; split = split (numbered_in k.channel deed) };
}
  where
    more : Option Numbered → List Numbered
    more o = cons_option o k.at.newer

    split : (o : Option Numbered) → cons_option o (on_index k.channel past) ≡ cons_option o k.at.newer ++ k.made ∷ k.at.older
    split None = k.at.split
    split (Some x) = ap (λ (l : List Numbered). x ∷ l) k.at.split

-- this is so of each that is known
pub known_in : (past whole : Past) (g : ℕ) → list_any (made_known whole g) past ≡ true → Known past whole g
known_in [] whole g h = absurd (false≢true h)
known_in (deed ∷ past) whole g h = elim (or_cases (made_known whole g deed) (list_any (made_known whole g) past) h) [
  | inl e ↦ here deed e
  | inr e ↦ known_later past whole g deed (known_in past whole g e)
]
  where
    here : (deed : Deed) → made_known whole g deed ≡ true → Known (deed ∷ past) whole g
    here (Made c n m i) e =
        let one = and_parts (i == 0 && exports_segment g m) (have_arrived whole c n (parts_of m)) e in
        let two = and_parts (i == 0) (exports_segment g m) one.0 in
        record {
          channel = c;
          made = (n, m);
          exports = two.1;
          arrived = one.1;
          at = record { newer = []; older = on_index c past; split = first (c == c) (i == 0) (eq-eqb c c refl) two.0 };
        }
      where
        first : (x y : Bool) → x ≡ true → y ≡ true → cons_option (then_some (x && y) (n, m)) (on_index c past) ≡ (n, m) ∷ on_index c past
        first x y p q = rw (p, q) refl
    here (Ticked t s) e = absurd (false≢true e)
    here (Waits m) e = absurd (false≢true e)
    here (Sent n t items) e = absurd (false≢true e)
    here (Took n es ds) e = absurd (false≢true e)
    here (Ended ending) e = absurd (false≢true e)

-- what exports a segment is an open
pub exports_open : (g : ℕ) (m : Message) → exports_segment g m ≡ true → is_opening m ≡ true
exports_open g (Opens exports a class values) e = refl
exports_open g (Closes a sleeps) e = absurd (false≢true e)
exports_open g (Updates a class values) e = absurd (false≢true e)
exports_open g (Calls a n call args) e = absurd (false≢true e)
exports_open g (Gone a) e = absurd (false≢true e)

-- a known segment was received
pub known_received : (end : End) (from to : Past) → IsRun end from → ArrivesWhole from to → (g : ℕ) → is_known from g ≡ true → ExportReceived from to g
known_received end from to run whole g h =
    let k = known_in from from g h in
    record {
      channel = k.channel;
      made = k.made;
      exports = k.exports;
      received = whole k.channel k.made k.at (open_arrived end from run k.channel k.made k.at (exports_open g k.made.1 k.exports) k.arrived);
    }

-- ---- what it takes for opened or closed

-- an actor's last mark was made
pub mark_at : (a : ℕ) (past : Past) (mark : Mark) → last_mark past a ≡ Some mark → MadeAt past mark.channel (mark.number, mark.message)
mark_at a [] mark e = absurd (let no : (let o : Option Mark = None in o) ≡ Some mark = e in cc)
mark_at a (deed ∷ past) mark e = by deed e (λ q. mark_at a past mark q)
  where
    later : (deed : Deed) → MadeAt past mark.channel (mark.number, mark.message) → MadeAt (deed ∷ past) mark.channel (mark.number, mark.message)
    later deed at = record { newer = cons_option (numbered_in mark.channel deed) at.newer; older = at.older; split = split (numbered_in mark.channel deed) }
      where
        split : (o : Option Numbered) → cons_option o (on_index mark.channel past) ≡ cons_option o at.newer ++ (mark.number, mark.message) ∷ at.older
        split None = at.split
        split (Some x) = ap (λ (l : List Numbered). x ∷ l) at.split

    by : (deed : Deed) → last_mark (deed ∷ past) a ≡ Some mark → (last_mark past a ≡ Some mark → MadeAt past mark.channel (mark.number, mark.message)) → MadeAt (deed ∷ past) mark.channel (mark.number, mark.message)
    by (Made c n m i) e ih = made ((actor_of m == a) && is_mark m && (i == 0)) refl e
      where
        made : (b : Bool) → ((actor_of m == a) && is_mark m && (i == 0)) ≡ b → slice_get (cons_option (then_some b (let k : Mark = record { channel = c; number = n; message = m } in k)) (filter_map (mark_in a) past)) 0 ≡ Some mark
            → MadeAt (Made c n m i ∷ past) mark.channel (mark.number, mark.message)
        made true t q =
            let same : record { channel = c; number = n; message = m } ≡ mark = some_mark (record { channel = c; number = n; message = m }) mark q in
            subst (λ (k : Mark). MadeAt (Made c n m i ∷ past) k.channel (k.number, k.message)) same
            (record { newer = []; older = on_index c past; split = first (c == c) (i == 0) (eq-eqb c c refl) (and_parts (actor_of m == a && is_mark m) (i == 0) t).1 })
          where
            some_mark : (x y : Mark) → (let o : Option Mark = Some x in o) ≡ Some y → x ≡ y
            some_mark x y q = cc

            first : (x y : Bool) → x ≡ true → y ≡ true → cons_option (then_some (x && y) (n, m)) (on_index c past) ≡ (n, m) ∷ on_index c past
            first x y p q = rw (p, q) refl
        made false t q = later (Made c n m i) (ih q)
    by (Ticked t s) e ih = later (Ticked t s) (ih e)
    by (Waits m) e ih = later (Waits m) (ih e)
    by (Sent n t items) e ih = later (Sent n t items) (ih e)
    by (Took n es ds) e ih = later (Took n es ds) (ih e)
    by (Ended g) e ih = later (Ended g) (ih e)

-- the last mark has arrived, with all before it on its index
pub marked_arrived : (end : End) (past : Past) → IsRun end past → (a : ℕ) (mark : Mark) → last_mark past a ≡ Some mark → (m : Message) → mark.message ≡ m → (is_opened (state_after past mark m) ≡ true) ⊎ ((a : ℕ) × ((sleeps : Bool) × (m ≡ Closes a sleeps) × (have_arrived past mark.channel 1 mark.number ≡ true)))
    → ArrivedBelow past mark.channel (mark.number + parts_of mark.message)
marked_arrived end past run a mark e (Opens exports b class values) same (inl o) =
    open_arrived end past run mark.channel (mark.number, mark.message) (mark_at a past mark e) (ap is_opening same) (by (have_arrived past mark.channel mark.number (parts_of mark.message)) refl o)
  where
    by : (t : Bool) → have_arrived past mark.channel mark.number (parts_of mark.message) ≡ t → is_opened (cond t Opened Opening) ≡ true → have_arrived past mark.channel mark.number (parts_of mark.message) ≡ true
    by true q o = q
    by false q o = absurd (false≢true o)
marked_arrived end past run a mark e (Closes b sleeps) same (inl o) = absurd (false≢true (sym (by (have_arrived past mark.channel 1 mark.number) sleeps) ∙ o))
  where
    by : (t s : Bool) → is_opened (closed_as t s) ≡ false
    by false s = refl
    by true true = refl
    by true false = refl
marked_arrived end past run a mark e (Updates b class values) same (inl o) = absurd (false≢true o)
marked_arrived end past run a mark e (Calls b n call args) same (inl o) = absurd (false≢true o)
marked_arrived end past run a mark e (Gone b) same (inl o) = absurd (false≢true o)
marked_arrived end past run a mark e m same (inr c) =
    let one : parts_of mark.message ≡ 1 = ap parts_of (same ∙ c.1.1) ∙ close_parts c.0 c.1.0 in λ i lo hi.
    arrived_each past mark.channel mark.number 1 c.1.2 i lo (omega (arith, one, hi))

-- an opened actor's open was received
pub opened_received : (end : End) (from to : Past) → IsRun end from → ArrivesWhole from to → (a : ℕ) → is_opened (state_of from a) ≡ true → MarkReceived from to a
opened_received end from to run whole a h = by (last_mark from a) refl
  where
    by : (o : Option Mark) → last_mark from a ≡ o → MarkReceived from to a
    by None e = absurd (false≢true (sym (ap (λ (o : Option Mark). is_opened (state_at from o)) e) ∙ h))
    by (Some mark) e = record {
      mark = mark;
      last = e;
      received = whole mark.channel (mark.number, mark.message) (mark_at a from mark e)
          (marked_arrived end from run a mark e mark.message refl (inl (sym (ap (λ (o : Option Mark). is_opened (state_at from o)) e) ∙ h)));
    }

-- a close that has ended
pub closed_received : (end : End) (from to : Past) → IsRun end from → ArrivesWhole from to → (a : ℕ) (mark : Mark) → last_mark from a ≡ Some mark → (b : ℕ) (sleeps : Bool) → mark.message ≡ Closes b sleeps
    → have_arrived from mark.channel 1 mark.number ≡ true → IsReceived from to mark.channel (mark.number, mark.message)
closed_received end from to run whole a mark e b sleeps same h =
    whole mark.channel (mark.number, mark.message) (mark_at a from mark e) (marked_arrived end from run a mark e mark.message refl (inr (b, (sleeps, same, h))))

-- ---- both ways

module _ (left right : End) (l r : Past) (same : left.version ≡ right.version) (link : IsLink left right l r) where
  pub whole_there : ArrivesWhole l r
  whole_there = arrives_whole left.version left l r (left_run left right l r link) (both left.version left right refl (sym same) l r link).out (applies_there left right l r same link)

  pub whole_back : ArrivesWhole r l
  whole_back = arrives_whole left.version right r l (right_run left right l r link) (turned left.version l r (both left.version left right refl (sym same) l r link)).out (applies_back left right l r same link)

  pub known_there : (g : ℕ) → is_known l g ≡ true → ExportReceived l r g
  known_there g h = known_received left l r (left_run left right l r link) whole_there g h

  pub opened_there : (a : ℕ) → is_opened (state_of l a) ≡ true → MarkReceived l r a
  opened_there a h = opened_received left l r (left_run left right l r link) whole_there a h

  pub closed_there : (a : ℕ) (mark : Mark) → last_mark l a ≡ Some mark → (b : ℕ) (sleeps : Bool) → mark.message ≡ Closes b sleeps → have_arrived l mark.channel 1 mark.number ≡ true → IsReceived l r mark.channel (mark.number, mark.message)
  closed_there a mark e b sleeps m h = closed_received left l r (left_run left right l r link) whole_there a mark e b sleeps m h

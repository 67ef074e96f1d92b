-- An actor is opened again, or gone, only after its close was received.
use Rattle.std.proofs.Common.{◌≡◌, inl, inr, ℕ, zero, suc, ◌+◌, ◌≤◌, ◌==◌, ◌&&◌, List, [], ◌∷◌, ◌++◌, Bool, true, false, cond, refl, sym, ap, ◌∙◌, subst, arith, Option, Some, None, ◌⊎◌}
use Rattle.std.specs.List.{cons_option, slice_get, AllByRecursion}
use Rattle.std.specs.Bool.{then_some}
use Rattle.std.proofs.lemmas.Bool.{false≢true, eq-eqb, eqb-true, ne_eqb, and_parts}
use Rattle.protocol_model.specs.Payload.{Message, Opens, Closes, Updates, Calls, Gone, parts_of, actor_of}
use Rattle.connection_model.specs.Feed.{End, Past, Deed, Ticked, Made, Waits, Sent, Took, Ended, has_ended}
use Rattle.connection_model.specs.Bunches.{made_count, after_making, has_arrived, have_arrived, is_closing}
use Rattle.connection_model.specs.State.{Mark, is_mark, mark_in, last_mark, state_of, state_at, state_after, closed_as, is_open, is_asleep, holds_index, index_of, index_at}
use Rattle.connection_model.specs.Verdict.{with_told, with_handed}
use Rattle.connection_laws.specs.Run.{Move, Ticks, Makes, Defers, Sends, Takes, Hears, Hands, Ends, after_move, May, MayMake, IsRun}
use Rattle.connection_laws.specs.Link.{IsLink}
use Rattle.connection_laws.specs.Delivered.{on_index, Numbered, numbered_in}
use Rattle.connection_laws.proofs.Moves.{making_keeps, told_ignored, handed_ignored}
use Rattle.connection_laws.proofs.Deeds.{always}
use Rattle.connection_laws.proofs.Arrivals.{arrival_made, arrival_sent, arrival_told, arrival_handed}
use Rattle.connection_laws.proofs.Fates.{moves_sent}
use Rattle.connection_laws.proofs.Items.{all_weaker}
use Rattle.connection_laws.proofs.Spans.{some_parts}
use Rattle.connection_laws.proofs.LinkedEnds.{left_run}
use Rattle.payload_laws.proofs.Bounds.{close_parts}
use Rattle.headline_laws.specs.Whole.{MadeAt, IsReceived, ArrivesWhole}
use Rattle.headline_laws.specs.Marks.{marks_of, without_newest, CloseArrived, ClosesArrived, ClosesReceived}
use Rattle.headline_laws.proofs.ReceivedFirst.{arrived_each, whole_there}
use Rattle.connection_laws.proofs.Prefixes.{listed_later, listed_first}

-- ---- the marks after a message

-- the message marks the actor
abbrev pub marks_it : ℕ → Message → Bool
marks_it a m = (actor_of m == a) && is_mark m

-- the mark that a message leaves
abbrev pub new_mark : Past → ℕ → Message → Mark
new_mark past c m = record { channel = c; number = made_count past c + 1; message = m }

-- the marks after some parts of a message
abbrev Listed : Past → (a c : ℕ) → Message → ℕ → Past → Type 0
Listed past a c m zero before = marks_of before a ≡ marks_of past a
Listed past a c m (suc i) before = marks_of before a ≡ cond (marks_it a m) (new_mark past c m ∷ marks_of past a) (marks_of past a)

-- the marks after one more part
listed_step : (past : Past) (a c : ℕ) (m : Message) (i : ℕ) (before : Past) → Listed past a c m i before → Listed past a c m (suc i) (Made c (made_count past c + 1 + i) m i ∷ before)
listed_step past a c m zero before h =
    let n : made_count past c + 1 + 0 ≡ made_count past c + 1 = omega arith in
    ap (λ (k : ℕ). cons_option (then_some (marks_it a m && true) (let x : Mark = record { channel = c; number = k; message = m } in x)) (marks_of before a)) n
    ∙ listed_first (marks_it a m) (new_mark past c m) (marks_of before a) (marks_of past a) h
listed_step past a c m (suc i) before h =
    ap (λ (t : Bool). cons_option (then_some (marks_it a m && t) (let x : Mark = record { channel = c; number = made_count past c + 1 + suc i; message = m } in x)) (marks_of before a)) (ne_eqb (suc i) 0 (λ q. absurd (omega (arith, q))))
    ∙ listed_later (marks_it a m) (record { channel = c; number = made_count past c + 1 + suc i; message = m }) (marks_of before a) ∙ h

-- the marks after all parts
listed_end : (past : Past) (a c : ℕ) (m : Message) (i : ℕ) (before : Past) → 1 ≤ i → Listed past a c m i before → marks_of before a ≡ cond (marks_it a m) (new_mark past c m ∷ marks_of past a) (marks_of past a)
listed_end past a c m zero before lo h = absurd (omega (arith, lo))
listed_end past a c m (suc i) before lo h = h

-- an actor's marks after one more message
pub marks_made : (past : Past) (a c : ℕ) (m : Message) → marks_of (after_making past c m) a ≡ cond (marks_it a m) (new_mark past c m ∷ marks_of past a) (marks_of past a)
marks_made past a c m =
    listed_end past a c m (parts_of m) (after_making past c m) (some_parts m)
    (making_keeps (Listed past a c m) past c m refl (λ i before lt h. listed_step past a c m i before h))

-- ---- a close that something follows has arrived

-- a close that holds no index has arrived
closed_held : (past : Past) (mark : Mark) (m : Message) → is_closing m ≡ true → (holds_index (state_after past mark m) ≡ false) ⊎ (is_asleep (state_after past mark m) ≡ true) → have_arrived past mark.channel 1 mark.number ≡ true
closed_held past mark (Closes b sleeps) c h = by (have_arrived past mark.channel 1 mark.number) sleeps refl h
  where
    by : (t s : Bool) → have_arrived past mark.channel 1 mark.number ≡ t → (holds_index (closed_as t s) ≡ false) ⊎ (is_asleep (closed_as t s) ≡ true) → have_arrived past mark.channel 1 mark.number ≡ true
    by true s e h = e
    by false s e (inl q) = absurd (false≢true (sym q))
    by false s e (inr q) = absurd (false≢true q)
closed_held past mark (Opens exports b class values) c h = absurd (false≢true c)
closed_held past mark (Updates b class values) c h = absurd (false≢true c)
closed_held past mark (Calls b n call args) c h = absurd (false≢true c)
closed_held past mark (Gone b) c h = absurd (false≢true c)

-- a close leaves no open state
not_open : (past : Past) (mark : Mark) (m : Message) → is_closing m ≡ true → is_open (state_after past mark m) ≡ false
not_open past mark (Closes b sleeps) c = by (have_arrived past mark.channel 1 mark.number) sleeps
  where
    by : (t s : Bool) → is_open (closed_as t s) ≡ false
    by false s = refl
    by true true = refl
    by true false = refl
not_open past mark (Opens exports b class values) c = absurd (false≢true c)
not_open past mark (Updates b class values) c = absurd (false≢true c)
not_open past mark (Calls b n call args) c = absurd (false≢true c)
not_open past mark (Gone b) c = absurd (false≢true c)

-- a close has arrived before the next mark is made
newest_arrived : (end : End) (past : Past) (a c : ℕ) (m : Message) → MayMake end past c m → marks_it a m ≡ true → (mark : Mark) → last_mark past a ≡ Some mark → is_closing mark.message ≡ true → have_arrived past mark.channel 1 mark.number ≡ true
newest_arrived end past a c m may it mark e closing = by m may it
  where
    state : state_of past a ≡ state_after past mark mark.message
    state = ap (state_at past) e

    free : index_of past a ≡ None → holds_index (state_of past a) ≡ false
    free q = held (holds_index (state_of past a)) refl
      where
        held : (b : Bool) → holds_index (state_of past a) ≡ b → holds_index (state_of past a) ≡ false
        held false t = t
        held true t = absurd (none_some mark.channel (sym q ∙ ap (λ (b : Bool). index_at b (last_mark past a)) t ∙ ap (index_at true) e))
          where
            none_some : (n : ℕ) → (let o : Option ℕ = None in o) ≡ Some n → ⊥
            none_some n q = cc

    by : (w : Message) → MayMake end past c w → marks_it a w ≡ true → have_arrived past mark.channel 1 mark.number ≡ true
    by (Opens exports b class values) may it =
        let same : b ≡ a = eqb-true b a (and_parts (b == a) true it).0 in
        closed_held past mark mark.message closing (inl (ap holds_index (sym state) ∙ free (ap (index_of past) (sym same) ∙ may.place.3)))
    by (Closes b sleeps) may it =
        let same : b ≡ a = eqb-true b a (and_parts (b == a) true it).0 in
        absurd (false≢true (sym (not_open past mark mark.message closing) ∙ ap is_open (sym state) ∙ ap (λ (x : ℕ). is_open (state_of past x)) (sym same) ∙ may.place.1))
    by (Gone b) may it =
        let same : b ≡ a = eqb-true b a (and_parts (b == a) true it).0 in
        closed_held past mark mark.message closing (inr (ap is_asleep (sym state) ∙ ap (λ (x : ℕ). is_asleep (state_of past x)) (sym same) ∙ may.place.1))
    by (Updates b class values) may it = absurd (false≢true (sym (and_right (b == a)) ∙ it))
      where
        and_right : (x : Bool) → (x && false) ≡ false
        and_right true = refl
        and_right false = refl
    by (Calls b n call args) may it = absurd (false≢true (sym (and_right (b == a)) ∙ it))
      where
        and_right : (x : Bool) → (x && false) ≡ false
        and_right true = refl
        and_right false = refl

-- it stays so where marks and arrivals do
closes_like : (past later : Past) → ((a : ℕ) → marks_of later a ≡ marks_of past a) → ((ch i : ℕ) → has_arrived past ch i ≡ true → has_arrived later ch i ≡ true) → ((a : ℕ) → ClosesArrived past a) → (a : ℕ) → ClosesArrived later a
closes_like past later n k h a =
    subst (λ (l : List Mark). AllByRecursion (CloseArrived later) (without_newest l)) (sym (n a))
    (all_weaker (CloseArrived past) (CloseArrived later) (λ mark f c i lo hi. k mark.channel i (f c i lo hi)) (without_newest (marks_of past a)) (h a))

-- it stays so after a message
closes_made : (end : End) (past : Past) (c : ℕ) (m : Message) → MayMake end past c m → ((a : ℕ) → ClosesArrived past a) → (a : ℕ) → ClosesArrived (after_making past c m) a
closes_made end past c m may h a = subst (λ (l : List Mark). AllByRecursion (CloseArrived (after_making past c m)) (without_newest l)) (sym (marks_made past a c m)) (by (marks_it a m) refl)
  where
    grow : (mark : Mark) → CloseArrived past mark → CloseArrived (after_making past c m) mark
    grow mark f q i lo hi = arrival_made past c m mark.channel i ∙ f q i lo hi

    older : AllByRecursion (CloseArrived (after_making past c m)) (without_newest (marks_of past a))
    older = all_weaker (CloseArrived past) (CloseArrived (after_making past c m)) grow (without_newest (marks_of past a)) (h a)

    all : (l : List Mark) → marks_of past a ≡ l → marks_it a m ≡ true → AllByRecursion (CloseArrived (after_making past c m)) (without_newest l) → AllByRecursion (CloseArrived (after_making past c m)) l
    all [] e it h = tt
    all (mark ∷ l) e it h =
        ((λ closing i lo hi. grow mark (λ q j low high. arrived_each past mark.channel mark.number 1 (newest_arrived end past a c m may it mark (ap (λ (ks : List Mark). slice_get ks 0) e) closing) j low (omega (arith, high))) closing i lo hi), h)

    by : (b : Bool) → marks_it a m ≡ b → AllByRecursion (CloseArrived (after_making past c m)) (without_newest (cond b (new_mark past c m ∷ marks_of past a) (marks_of past a)))
    by true e = all (marks_of past a) refl e older
    by false e = older

-- each close before the last mark has arrived
pub closes_arrived : (end : End) (past : Past) → IsRun end past → (a : ℕ) → ClosesArrived past a
closes_arrived end past run = always end (λ past. (a : ℕ) → ClosesArrived past a) (λ a. tt) step past run
  where
    step : (past : Past) (move : Move) → IsRun end past → has_ended past ≡ false → May end past move → ((a : ℕ) → ClosesArrived past a) → (a : ℕ) → ClosesArrived (after_move past move) a
    step past (Ticks sight) run alive may h = closes_like past (after_move past (Ticks sight)) (λ a. refl) (λ ch i e. e) h
    step past (Makes c m) run alive may h = closes_made end past c m may h
    step past (Defers m) run alive may h = closes_like past (after_move past (Defers m)) (λ a. refl) (λ ch i e. e) h
    step past (Sends items) run alive may h = closes_like past (after_move past (Sends items)) (λ a. refl) (λ ch i e. arrival_sent end past items (λ n q. (moves_sent end past run n q).1) may.each ch i ∙ e) h
    step past (Takes n) run alive may h = closes_like past (after_move past (Takes n)) (λ a. refl) (λ ch i e. e) h
    step past (Hears entry) run alive may h = closes_like past (with_told entry past) (λ a. told_ignored (mark_in a) (λ n e es ds. refl) entry past) (λ ch i e. arrival_told entry past ch i e) h
    step past (Hands d) run alive may h = closes_like past (with_handed d past) (λ a. handed_ignored (mark_in a) (λ n es d ds. refl) d past) (λ ch i e. arrival_handed d past ch i ∙ e) h
    step past (Ends g) run alive may h = closes_like past (after_move past (Ends g)) (λ a. refl) (λ ch i e. e) h

-- ---- and was received

-- a mark stays in its place
pub at_later : (past : Past) (deed : Deed) (mark : Mark) → MadeAt past mark.channel (mark.number, mark.message) → MadeAt (deed ∷ past) mark.channel (mark.number, mark.message)
at_later past deed mark at = record { newer = cons_option (numbered_in mark.channel deed) at.newer; older = at.older; split = split (numbered_in mark.channel deed) }
  where
    split : (o : Option Numbered) → cons_option o (on_index mark.channel past) ≡ cons_option o at.newer ++ (mark.number, mark.message) ∷ at.older
    split None = at.split
    split (Some x) = ap (λ (l : List Numbered). x ∷ l) at.split

-- the message of the mark was made
abbrev pub IsMade : Past → Mark → Type 0
IsMade past mark = MadeAt past mark.channel (mark.number, mark.message)

-- each mark was made
pub marks_at : (a : ℕ) (past : Past) → AllByRecursion (IsMade past) (marks_of past a)
marks_at a [] = tt
marks_at a (deed ∷ past) = by deed (all_weaker (IsMade past) (IsMade (deed ∷ past)) (λ mark at. at_later past deed mark at) (marks_of past a) (marks_at a past))
  where
    by : (deed : Deed) → AllByRecursion (IsMade (deed ∷ past)) (marks_of past a) → AllByRecursion (IsMade (deed ∷ past)) (marks_of (deed ∷ past) a)
    by (Made c n m i) h = made ((actor_of m == a) && is_mark m && (i == 0)) refl
      where
        made : (b : Bool) → ((actor_of m == a) && is_mark m && (i == 0)) ≡ b → AllByRecursion (IsMade (Made c n m i ∷ past)) (cons_option (then_some b (let k : Mark = record { channel = c; number = n; message = m } in k)) (marks_of past a))
        made true t = (record { newer = []; older = on_index c past; split = first (c == c) (i == 0) (eq-eqb c c refl) (and_parts (actor_of m == a && is_mark m) (i == 0) t).1 }, h)
          where
            first : (x y : Bool) → x ≡ true → y ≡ true → cons_option (then_some (x && y) (n, m)) (on_index c past) ≡ (n, m) ∷ on_index c past
            first x y p q = rw (p, q) refl
        made false t = h
    by (Ticked t s) h = h
    by (Waits m) h = h
    by (Sent n t items) h = h
    by (Took n es ds) h = h
    by (Ended g) h = h

-- each close that arrived was received
both_of : (from to : Past) → ArrivesWhole from to → (ks : List Mark) → AllByRecursion (IsMade from) ks → AllByRecursion (CloseArrived from) ks
    → AllByRecursion (λ mark. is_closing mark.message ≡ true → IsReceived from to mark.channel (mark.number, mark.message)) ks
both_of from to whole [] m c = tt
both_of from to whole (mark ∷ ks) m c = ((λ closing. whole mark.channel (mark.number, mark.message) m.0 (λ i lo hi. c.0 closing i lo (omega (arith, hi, one mark.message closing)))), both_of from to whole ks m.1 c.1)
  where
    one : (w : Message) → is_closing w ≡ true → parts_of w ≡ 1
    one (Closes b sleeps) q = close_parts b sleeps
    one (Opens exports b class values) q = absurd (false≢true q)
    one (Updates b class values) q = absurd (false≢true q)
    one (Calls b n call args) q = absurd (false≢true q)
    one (Gone b) q = absurd (false≢true q)

-- what holds of all marks holds of those before the newest
tail_of : (P : Mark → Type 0) (ks : List Mark) → AllByRecursion P ks → AllByRecursion P (without_newest ks)
tail_of P [] h = tt
tail_of P (k ∷ ks) h = h.1

-- each close before the last mark was received
pub closes_received : (left right : End) (l r : Past) → left.version ≡ right.version → IsLink left right l r → (a : ℕ) → ClosesReceived l r a
closes_received left right l r same link a =
    both_of l r (whole_there left right l r same link) (without_newest (marks_of l a)) (tail_of (IsMade l) (marks_of l a) (marks_at a l)) (closes_arrived left l (left_run left right l r link) a)

-- The last open, close or Gone of an actor, and the index that it holds, after a move.
use Rattle.std.proofs.Common.{◌≡◌, ◌⊎◌, inl, inr, ℕ, zero, suc, ◌+◌, ◌≤◌, List, [], ◌∷◌, Bool, true, false, cond, ◌==◌, ◌&&◌, ◌||◌, refl, sym, ap, ◌∙◌, subst, arith, Option, Some, None}
use Rattle.std.specs.List.{filter_map, cons_option, list_all, list_any, slice_get, range_with_len}
use Rattle.std.specs.Bool.{then_some}
use Rattle.std.proofs.lemmas.Bool.{false≢true, and_parts, and_from, ne_eqb, eqb-true, eq-eqb}
use Rattle.protocol_model.specs.Payload.{Message, Opens, Closes, Updates, Calls, Gone, actor_of, parts_of}
use Rattle.protocol_model.specs.Search.{is_among}
use Rattle.connection_model.specs.Feed.{End, Past, Made, Entry, Delivered, has_ended}
use Rattle.connection_model.specs.Bunches.{made_count, has_arrived, have_arrived, after_making}
use Rattle.connection_model.specs.State.{ActorState, Closed, Asleep, Opening, Opened, Closing, is_open, is_opened, Mark, is_mark, mark_in, last_mark, closed_as, state_after, state_at, state_of, holds_index, index_at, index_of, is_index, holds, opened_in, opened_actors, is_held}
use Rattle.connection_model.specs.Verdict.{with_told, with_handed}
use Rattle.connection_model.specs.Pack.{after_sending}
use Rattle.connection_laws.specs.Run.{Move, Ticks, Makes, Defers, Sends, Takes, Hears, Hands, Ends, after_move, May, IsRun, MayMake, HasPlace}
use Rattle.connection_laws.specs.Holding.{HoldsFit}
use Rattle.connection_laws.proofs.Searches.{among_cons, among_here, among_there}
use Rattle.connection_laws.proofs.Moves.{making_keeps, told_ignored, handed_ignored}
use Rattle.connection_laws.proofs.Deeds.{always}
use Rattle.connection_laws.proofs.Arrivals.{arrival_made, arrival_sent, arrival_told, arrival_handed}
use Rattle.connection_laws.proofs.Fates.{moves_sent}
use Rattle.connection_laws.proofs.Spans.{some_parts}
use Rattle.connection_laws.proofs.Holding.{among_ascending}

-- an opened actor is open
pub opened_is_open : (state : ActorState) → is_opened state ≡ true → is_open state ≡ true
opened_is_open Opened e = refl
opened_is_open Closed e = absurd (false≢true e)
opened_is_open Asleep e = absurd (false≢true e)
opened_is_open Opening e = absurd (false≢true e)
opened_is_open Closing e = absurd (false≢true e)

-- ---- what has arrived, as a whole

-- all pass where more passes
all_grow : (p q : ℕ → Bool) (ns : List ℕ) → ((n : ℕ) → p n ≡ true → q n ≡ true) → list_all p ns ≡ true → list_all q ns ≡ true
all_grow p q [] h e = refl
all_grow p q (n ∷ ns) h e =
    let b : (p n ≡ true) × (list_all p ns ≡ true) = and_parts (p n) (list_all p ns) e in
    and_from (q n) (list_all q ns) (h n b.0) (all_grow p q ns h b.1)

-- all pass where the same passes
all_same : (p q : ℕ → Bool) (ns : List ℕ) → ((n : ℕ) → p n ≡ q n) → list_all p ns ≡ list_all q ns
all_same p q [] h = refl
all_same p q (n ∷ ns) h = rw (h n, all_same p q ns h) refl

-- what had arrived has arrived
abbrev pub Grows : Past → Past → Type 0
Grows past later = (ch n : ℕ) → has_arrived past ch n ≡ true → has_arrived later ch n ≡ true

-- the same has arrived
abbrev pub SameArrivals : Past → Past → Type 0
SameArrivals past later = (ch n : ℕ) → has_arrived later ch n ≡ has_arrived past ch n

-- where arrivals are the same, none is lost
pub same_grows : (past later : Past) → SameArrivals past later → Grows past later
same_grows past later h ch n e = h ch n ∙ e

-- ---- a state that still holds its index

-- a close that has not arrived holds its index
close_holds : (b c sleeps : Bool) → (b ≡ true → c ≡ true) → holds_index (closed_as c sleeps) ≡ true → holds_index (closed_as b sleeps) ≡ true
close_holds false c sleeps h e = refl
close_holds true true true h e = e
close_holds true true false h e = e
close_holds true false sleeps h e = absurd (false≢true (h refl))

-- an open holds its index
open_holds : (b : Bool) → holds_index (cond b Opened Opening) ≡ true
open_holds true = refl
open_holds false = refl

-- a state that holds an index later held it before
state_holds : (past later : Past) → Grows past later → (mark : Mark) (m : Message) → holds_index (state_after later mark m) ≡ true → holds_index (state_after past mark m) ≡ true
state_holds past later h mark (Opens exports a class values) e = open_holds (have_arrived past mark.channel mark.number (parts_of mark.message))
state_holds past later h mark (Closes a sleeps) e =
    close_holds (have_arrived past mark.channel 1 mark.number) (have_arrived later mark.channel 1 mark.number) sleeps
    (λ q. all_grow (has_arrived past mark.channel) (has_arrived later mark.channel) (range_with_len 1 mark.number) (h mark.channel) q) e
state_holds past later h mark (Gone a) e = absurd (false≢true e)
state_holds past later h mark (Updates a class values) e = absurd (false≢true e)
state_holds past later h mark (Calls a n call args) e = absurd (false≢true e)

-- ---- where marks stay, an index can be given up alone

-- an index that is held is the one of a mark
some_index : (b : Bool) (o : Option Mark) (ch : ℕ) → index_at b o ≡ Some ch → (b ≡ true) × ((mark : Mark) × (o ≡ Some mark) × (mark.channel ≡ ch))
some_index true (Some mark) ch e = (refl, (mark, refl, is mark.channel ch e))
  where
    is : (x y : ℕ) → (let p : Option ℕ = Some x in p) ≡ Some y → x ≡ y
    is x y e = cc
some_index true None ch e = absurd (let no : (let p : Option ℕ = None in p) ≡ Some ch = e in cc)
some_index false o ch e = absurd (let no : (let p : Option ℕ = None in p) ≡ Some ch = e in cc)

-- an actor with the same last mark holds no index that it did not hold
pub index_kept : (past later : Past) → Grows past later → (a ch : ℕ) → last_mark later a ≡ last_mark past a → index_of later a ≡ Some ch → index_of past a ≡ Some ch
index_kept past later h a ch same e = by (last_mark later a) refl
  where
    by : (o : Option Mark) → last_mark later a ≡ o → index_of past a ≡ Some ch
    by o q =
        let s = some_index (holds_index (state_of later a)) (last_mark later a) ch e in
        let mark : Mark = s.1.0 in
        let there : last_mark past a ≡ Some mark = sym same ∙ s.1.1 in
        let held : holds_index (state_after later mark mark.message) ≡ true = ap (λ (p : Option Mark). holds_index (state_at later p)) (sym s.1.1) ∙ s.0 in
        let before : holds_index (state_of past a) ≡ true = ap (λ (p : Option Mark). holds_index (state_at past p)) there ∙ state_holds past later h mark mark.message held in
        ap (λ (b : Bool). index_at b (last_mark past a)) before ∙ ap (index_at true) there ∙ ap (λ (n : ℕ). Some n) s.1.2

-- where as much has arrived and the mark stays, state and index stay
have_same : (past later : Past) → SameArrivals past later → (ch from count : ℕ) → have_arrived later ch from count ≡ have_arrived past ch from count
have_same past later h ch from count = all_same (has_arrived later ch) (has_arrived past ch) (range_with_len from count) (h ch)

-- a state is the same where arrivals are
after_same : (past later : Past) → SameArrivals past later → (mark : Mark) (m : Message) → state_after later mark m ≡ state_after past mark m
after_same past later h mark (Opens exports a class values) = ap (λ (b : Bool). cond b Opened Opening) (have_same past later h mark.channel mark.number (parts_of mark.message))
after_same past later h mark (Closes a sleeps) = ap (λ (b : Bool). closed_as b sleeps) (have_same past later h mark.channel 1 mark.number)
after_same past later h mark (Gone a) = refl
after_same past later h mark (Updates a class values) = refl
after_same past later h mark (Calls a n call args) = refl

-- where arrivals and the last mark are the same, so is the state
pub state_same : (past later : Past) → SameArrivals past later → (a : ℕ) → last_mark later a ≡ last_mark past a → state_of later a ≡ state_of past a
state_same past later h a e = ap (state_at later) e ∙ by (last_mark past a)
  where
    by : (o : Option Mark) → state_at later o ≡ state_at past o
    by None = refl
    by (Some mark) = after_same past later h mark mark.message

-- and so is the index that it holds
pub index_same : (past later : Past) → SameArrivals past later → (a : ℕ) → last_mark later a ≡ last_mark past a → index_of later a ≡ index_of past a
index_same past later h a e =
    ap (λ (s : ActorState). index_at (holds_index s) (last_mark later a)) (state_same past later h a e) ∙ ap (index_at (holds_index (state_of past a))) e

-- ---- a message is made

-- the message marks the actor
abbrev pub marks : ℕ → Message → Bool
marks a m = actor_of m == a && is_mark m

-- the last mark after some parts of a message
abbrev MarkedUpTo : Past → (ch : ℕ) → Message → (a i : ℕ) → Past → Type 0
MarkedUpTo past ch m a zero before = last_mark before a ≡ last_mark past a
MarkedUpTo past ch m a (suc i) before =
    last_mark before a ≡ cond (marks a m) (Some (record { channel = ch; number = made_count past ch + 1 + 0; message = m })) (last_mark past a)

-- a first part marks
first_part : (b : Bool) (x : Mark) (o : Option Mark) (rest : List Mark) → slice_get rest 0 ≡ o → slice_get (cons_option (then_some (b && true) x) rest) 0 ≡ cond b (Some x) o
first_part true x o rest e = refl
first_part false x o rest e = e

-- a later part marks nothing
later_part : (b : Bool) (x : Mark) (rest : List Mark) → slice_get (cons_option (then_some (b && false) x) rest) 0 ≡ slice_get rest 0
later_part true x rest = refl
later_part false x rest = refl

-- the last mark after one more part
marked_step : (past : Past) (ch : ℕ) (m : Message) (a i : ℕ) (before : Past) → MarkedUpTo past ch m a i before
    → MarkedUpTo past ch m a (suc i) (Made ch (made_count past ch + 1 + i) m i ∷ before)
marked_step past ch m a zero before h =
    first_part (marks a m) (record { channel = ch; number = made_count past ch + 1 + 0; message = m }) (last_mark past a) (filter_map (mark_in a) before) h
marked_step past ch m a (suc i) before h =
    ap (λ (t : Bool). slice_get (cons_option (then_some (marks a m && t) (record { channel = ch; number = made_count past ch + 1 + suc i; message = m })) (filter_map (mark_in a) before)) 0)
    (ne_eqb (suc i) 0 (λ q. absurd (omega arith)))
    ∙ later_part (marks a m) (record { channel = ch; number = made_count past ch + 1 + suc i; message = m }) (filter_map (mark_in a) before) ∙ h

-- the last mark after all parts
marked_end : (past : Past) (ch : ℕ) (m : Message) (a i : ℕ) (before : Past) → 1 ≤ i → MarkedUpTo past ch m a i before
    → last_mark before a ≡ cond (marks a m) (Some (record { channel = ch; number = made_count past ch + 1; message = m })) (last_mark past a)
marked_end past ch m a zero before lo h = absurd (omega arith)
marked_end past ch m a (suc i) before lo h = (let z : made_count past ch + 1 + 0 ≡ made_count past ch + 1 = omega arith in rw z at h)

-- the mark that a message leaves
pub mark_made : (past : Past) (ch : ℕ) (m : Message) (a : ℕ)
    → last_mark (after_making past ch m) a ≡ cond (marks a m) (Some (record { channel = ch; number = made_count past ch + 1; message = m })) (last_mark past a)
mark_made past ch m a =
    marked_end past ch m a (parts_of m) (after_making past ch m) (some_parts m)
    (making_keeps (MarkedUpTo past ch m a) past ch m refl (λ i before lt h. marked_step past ch m a i before h))

-- an index that is held after a message was held before, or the message opened its actor on it
abbrev pub OpensOn : Past → (ch : ℕ) → Message → (a c : ℕ) → Type 0
OpensOn past c (Opens exports actor class values) a ch = (actor ≡ a) × (c ≡ ch) × (1 ≤ c) × (is_held past c ≡ false)
OpensOn past c m a ch = ⊥

-- after a message is made an actor holds the index that it held, or the new one
pub index_made : (end : End) (past : Past) (c : ℕ) (m : Message) → MayMake end past c m → (a ch : ℕ) → index_of (after_making past c m) a ≡ Some ch
    → (index_of past a ≡ Some ch) ⊎ OpensOn past c m a ch
index_made end past c m may a ch e = by (marks a m) refl
  where
    later : Past
    later = after_making past c m

    new : Mark
    new = record { channel = c; number = made_count past c + 1; message = m }

    held_by : (k : Message) → HasPlace end past c k → actor_of k ≡ a → holds_index (state_after (after_making past c m) (record { channel = c; number = made_count past c + 1; message = m }) k) ≡ true → c ≡ ch
        → (index_of past a ≡ Some ch) ⊎ OpensOn past c k a ch
    held_by (Opens exports actor class values) place same held q = inr (same, q, place.0, place.1)
    held_by (Closes actor sleeps) place same held q = inl (subst (λ (x : ℕ). index_of past x ≡ Some ch) same (place.0 ∙ ap (λ (n : ℕ). Some n) q))
    held_by (Gone actor) place same held q = absurd (false≢true held)
    held_by (Updates actor class values) place same held q = absurd (false≢true held)
    held_by (Calls actor n call args) place same held q = absurd (false≢true held)

    by : (b : Bool) → marks a m ≡ b → (index_of past a ≡ Some ch) ⊎ OpensOn past c m a ch
    by false q = inl (index_kept past (after_making past c m) (same_grows past (after_making past c m) (arrival_made past c m)) a ch
        (mark_made past c m a ∙ ap (λ (b : Bool). cond b (Some (record { channel = c; number = made_count past c + 1; message = m })) (last_mark past a)) q) e)
    by true q =
        let there : last_mark (after_making past c m) a ≡ Some (record { channel = c; number = made_count past c + 1; message = m }) =
        mark_made past c m a ∙ ap (λ (b : Bool). cond b (Some (record { channel = c; number = made_count past c + 1; message = m })) (last_mark past a)) q in
        let s = some_index (holds_index (state_of (after_making past c m) a)) (last_mark (after_making past c m) a) ch e in
        let held : holds_index (state_after (after_making past c m) (record { channel = c; number = made_count past c + 1; message = m }) m) ≡ true =
        ap (λ (p : Option Mark). holds_index (state_at (after_making past c m) p)) (sym there) ∙ s.0 in
        let same : actor_of m ≡ a = eqb-true (actor_of m) a (and_parts (actor_of m == a) (is_mark m) q).0 in
        let on : c ≡ ch = channel_is (record { channel = c; number = made_count past c + 1; message = m }) s.1.0 (sym there ∙ s.1.1) ∙ s.1.2 in
        held_by m may.place same held on
      where
        channel_is : (x y : Mark) → (let p : Option Mark = Some x in p) ≡ Some y → x.channel ≡ y.channel
        channel_is x y e = (let r : x ≡ y = cc in ap (λ (z : Mark). z.channel) r)

-- ---- the law

-- the actors that were opened
abbrev opens_of : Past → List ℕ
opens_of past = filter_map opened_in past

-- an actor that holds an index is among the opened ones, and no other holds that index
pub record Holders (past : Past) : Type 0 where
  pub one : (a b ch : ℕ) → index_of past a ≡ Some ch → index_of past b ≡ Some ch → a ≡ b
  pub opened : (a ch : ℕ) → index_of past a ≡ Some ch → is_among a (opens_of past) ≡ true
  pub above : (a ch : ℕ) → index_of past a ≡ Some ch → 1 ≤ ch

-- who holds an index is found
any_at : (p : ℕ → Bool) (a : ℕ) (ns : List ℕ) → is_among a ns ≡ true → p a ≡ true → list_any p ns ≡ true
any_at p a [] h e = absurd (false≢true h)
any_at p a (n ∷ ns) h e = elim (among_cons n ns a h) [
  | inl q ↦ first (p n) (list_any p ns) (ap p q ∙ e)
  | inr q ↦ second (p n) (list_any p ns) (any_at p a ns q e)
]
  where
    first : (x y : Bool) → x ≡ true → (x || y) ≡ true
    first x y e = grind arith

    second : (x y : Bool) → y ≡ true → (x || y) ≡ true
    second x y e = grind arith

-- an index that an actor holds is held
pub held_found : (past : Past) → Holders past → (a ch : ℕ) → index_of past a ≡ Some ch → is_held past ch ≡ true
held_found past h a ch e =
    any_at (λ b. holds past b ch) a (opened_actors past) (among_ascending (opens_of past) a (h.opened a ch e)) (ap (is_index ch) e ∙ eq-eqb ch ch refl)

-- holders stay single where no index is newly held
holders_fall : (past later : Past) → opens_of later ≡ opens_of past → ((a ch : ℕ) → index_of later a ≡ Some ch → index_of past a ≡ Some ch) → Holders past → Holders later
holders_fall past later o f h = record {
  one = λ a b ch p q. h.one a b ch (f a ch p) (f b ch q);
  opened = λ a ch p. ap (is_among a) o ∙ h.opened a ch (f a ch p);
  above = λ a ch p. h.above a ch (f a ch p);
}

-- an opened actor stays among the opened ones
opens_grow : (past : Past) (c : ℕ) (m : Message) (a : ℕ) → is_among a (opens_of past) ≡ true → is_among a (opens_of (after_making past c m)) ≡ true
opens_grow past c m a h =
    making_keeps (λ i before. is_among a (opens_of before) ≡ true) past c m h (λ i before lt e. step m i before e)
  where
    step : (k : Message) (i : ℕ) (before : Past) → is_among a (opens_of before) ≡ true → is_among a (opens_of (Made c (made_count past c + 1 + i) k i ∷ before)) ≡ true
    step (Opens exports actor class values) i before e = among_there actor (opens_of before) a e
    step (Closes actor sleeps) i before e = e
    step (Gone actor) i before e = e
    step (Updates actor class values) i before e = e
    step (Calls actor n call args) i before e = e

-- an open is found among the opens
open_found : (past : Past) (c : ℕ) (m : Message) (a ch : ℕ) → OpensOn past c m a ch → is_among a (opens_of (after_making past c m)) ≡ true
open_found past c m a ch o =
    at_end (parts_of m) (after_making past c m) (some_parts m) (making_keeps Found past c m tt (λ i before lt h. step m o i before))
  where
    Found : ℕ → Past → Type 0
    Found zero before = Unit {0}
    Found (suc i) before = is_among a (opens_of before) ≡ true

    step : (k : Message) → OpensOn past c k a ch → (i : ℕ) (before : Past) → is_among a (opens_of (Made c (made_count past c + 1 + i) k i ∷ before)) ≡ true
    step (Opens exports actor class values) o i before = among_here actor (opens_of before) a o.0
    step (Closes actor sleeps) o i before = absurd o
    step (Gone actor) o i before = absurd o
    step (Updates actor class values) o i before = absurd o
    step (Calls actor n call args) o i before = absurd o

    at_end : (i : ℕ) (before : Past) → 1 ≤ i → Found i before → is_among a (opens_of before) ≡ true
    at_end zero before lo f = absurd (omega arith)
    at_end (suc i) before lo f = f

-- an open is made for its actor, on a free index
opens_facts : (past : Past) (c : ℕ) (m : Message) (a ch : ℕ) → OpensOn past c m a ch → (actor_of m ≡ a) × (c ≡ ch) × (1 ≤ c) × (is_held past c ≡ false)
opens_facts past c (Opens exports actor class values) a ch o = o
opens_facts past c (Closes actor sleeps) a ch o = absurd o
opens_facts past c (Gone actor) a ch o = absurd o
opens_facts past c (Updates actor class values) a ch o = absurd o
opens_facts past c (Calls actor n call args) a ch o = absurd o

-- holders stay single after a message is made
holders_made : (end : End) (past : Past) (c : ℕ) (m : Message) → MayMake end past c m → Holders past → Holders (after_making past c m)
holders_made end past c m may h = record {
  one = λ a b ch p q. both a b ch (index_made end past c m may a ch p) (index_made end past c m may b ch q);
  opened = λ a ch p. elim (index_made end past c m may a ch p) [
    | inl r ↦ opens_grow past c m a (h.opened a ch r)
    | inr r ↦ open_found past c m a ch r
  ];
  above = λ a ch p. elim (index_made end past c m may a ch p) [
    | inl r ↦ h.above a ch r
    | inr r ↦ (let f = opens_facts past c m a ch r in omega (arith, f.1, f.2))
  ];
}
  where
    clash : (a b ch : ℕ) → index_of past a ≡ Some ch → OpensOn past c m b ch → ⊥
    clash a b ch p r =
        let f = opens_facts past c m b ch r in
        false≢true (sym f.3 ∙ held_found past h a c (p ∙ ap (λ (n : ℕ). Some n) (sym f.1)))

    both : (a b ch : ℕ) → ((index_of past a ≡ Some ch) ⊎ OpensOn past c m a ch) → ((index_of past b ≡ Some ch) ⊎ OpensOn past c m b ch) → a ≡ b
    both a b ch (inl p) (inl q) = h.one a b ch p q
    both a b ch (inl p) (inr q) = absurd (clash a b ch p q)
    both a b ch (inr p) (inl q) = absurd (clash b a ch q p)
    both a b ch (inr p) (inr q) = sym (opens_facts past c m a ch p).0 ∙ (opens_facts past c m b ch q).0

-- hearing an entry marks nothing
pub mark_told : (entry : Entry) (past : Past) (a : ℕ) → last_mark (with_told entry past) a ≡ last_mark past a
mark_told entry past a = ap (λ (ms : List Mark). slice_get ms 0) (told_ignored (mark_in a) (λ n e es ds. refl) entry past)

-- handing a payload on marks nothing
pub mark_handed : (d : Delivered) (past : Past) (a : ℕ) → last_mark (with_handed d past) a ≡ last_mark past a
mark_handed d past a = ap (λ (ms : List Mark). slice_get ms 0) (handed_ignored (mark_in a) (λ n es d ds. refl) d past)

-- in a run each index has at most one holder
pub holders : (end : End) (past : Past) → IsRun end past → Holders past
holders end past run = always end Holders (record { one = λ a b ch p q. absurd (none a ch p); opened = λ a ch p. absurd (none a ch p); above = λ a ch p. absurd (none a ch p) }) step past run
  where
    none : (a ch : ℕ) → index_of [] a ≡ Some ch → ⊥
    none a ch p = (let no : (let o : Option ℕ = None in o) ≡ Some ch = p in cc)

    step : (past : Past) (move : Move) → IsRun end past → has_ended past ≡ false → May end past move → Holders past → Holders (after_move past move)
    step past (Ticks sight) run alive may h = holders_fall past (after_move past (Ticks sight)) refl (λ a ch p. p) h
    step past (Makes c m) run alive may h = holders_made end past c m may h
    step past (Defers m) run alive may h = holders_fall past (after_move past (Defers m)) refl (λ a ch p. p) h
    step past (Sends items) run alive may h =
        holders_fall past (after_sending past items) refl
        (λ a ch p. index_kept past (after_sending past items) (same_grows past (after_sending past items) (arrival_sent end past items (λ k e. (moves_sent end past run k e).1) may.each)) a ch refl p) h
    step past (Takes n) run alive may h = holders_fall past (after_move past (Takes n)) refl (λ a ch p. p) h
    step past (Hears entry) run alive may h =
        holders_fall past (with_told entry past) (told_ignored opened_in (λ n e es ds. refl) entry past)
        (λ a ch p. index_kept past (with_told entry past) (λ c n e. arrival_told entry past c n e) a ch (mark_told entry past a) p) h
    step past (Hands d) run alive may h =
        holders_fall past (with_handed d past) (handed_ignored opened_in (λ n es d ds. refl) d past)
        (λ a ch p. index_kept past (with_handed d past) (same_grows past (with_handed d past) (arrival_handed d past)) a ch (mark_handed d past a) p) h
    step past (Ends ending) run alive may h = holders_fall past (after_move past (Ends ending)) refl (λ a ch p. p) h

-- an index has one holder
pub holds_fit : (end : End) (past : Past) → IsRun end past → HoldsFit past
holds_fit end past run =
    let h : Holders past = holders end past run in
    record { one = h.one; opened = λ a ch p. among_ascending (opens_of past) a (h.opened a ch p); above = h.above }

-- What a message that is made changes, with packets sent after it.
use Rattle.std.proofs.Common.{◌≡◌, ◌⊎◌, inl, inr, ℕ, zero, suc, ◌+◌, ◌<◌, ◌≤◌, List, [], ◌∷◌, ◌++◌, Bool, true, false, cond, ◌==◌, ◌||◌, length, refl, sym, ap, ◌∙◌, arith, Option, Some, None, unwrap_or}
use Rattle.std.specs.List.{filter_map, flat_map, cons_option, list_any, slice_get}
use Rattle.std.specs.Prelude.{option_map, is_some}
use Rattle.std.specs.Bool.{then_some}
use Rattle.std.proofs.lemmas.Bool.{false≢true, cases_eq, or_parts}
use Rattle.std.proofs.lemmas.List.Elements.{filter_map-append}
use Rattle.std.proofs.lemmas.Grind.{flat_map-append}
use Rattle.protocol_model.specs.Value.{Class}
use Rattle.protocol_model.specs.Payload.{Message, Opens, Closes, Updates, Calls, Gone, parts_of}
use Rattle.protocol_model.specs.Search.{greatest_of}
use Rattle.protocol_model.specs.Sight.{Seen}
use Rattle.connection_model.specs.Feed.{Past, Deed, Ticked, Made, Waits, Sent, Took, Ended, Item, Entry, tick_in, ticks_of, tick_count, sight_of, seen_in}
use Rattle.connection_model.specs.Fates.{moved_of, moved_by, entries_in}
use Rattle.connection_model.specs.Bunches.{made_on, made_count, carrier_in, carrier_of, after_making}
use Rattle.connection_model.specs.State.{Mark, mark_in, last_mark, open_class_in, opened_class, was_opened}
use Rattle.connection_model.specs.Items.{last_service, is_open_made, is_update_of, kept_flush}
use Rattle.connection_laws.proofs.Moves.{making_keeps, made_ignored, made_ignored_all}
use Rattle.connection_laws.proofs.Arrivals.{arrival_same}
use Rattle.connection_laws.proofs.Counts.{made_count_made, made_count_elsewhere}
use Rattle.connection_laws.proofs.ActorMarks.{SameArrivals, marks, mark_made}
use Rattle.connection_laws.proofs.Spans.{some_parts}
use Rattle.sender_laws.specs.Acts.{are_sent, ArrivesMade}
use Rattle.sender_laws.specs.Items.{has_update}
use Rattle.sender_laws.specs.States.{sleeps_actor, flush_seen}

-- ---- packets sent after

-- what looks past packets finds the same below them
pub sent_ignored : {B : Type 0} (f : Deed → Option B) → ((n t : ℕ) (items : List Item) → f (Sent n t items) ≡ None)
    → (sent past : Past) → are_sent sent ≡ true → filter_map f (sent ++ past) ≡ filter_map f past
sent_ignored f h [] past e = refl
sent_ignored f h (Sent n t items ∷ sent) past e =
    ap (λ o. cons_option o (filter_map f (sent ++ past))) (h n t items) ∙ sent_ignored f h sent past e
sent_ignored f h (Ticked t s ∷ sent) past e = absurd (false≢true e)
sent_ignored f h (Made c n m i ∷ sent) past e = absurd (false≢true e)
sent_ignored f h (Waits m ∷ sent) past e = absurd (false≢true e)
sent_ignored f h (Took n es ds ∷ sent) past e = absurd (false≢true e)
sent_ignored f h (Ended g ∷ sent) past e = absurd (false≢true e)

-- packets leave marks, numbers, classes, ticks, the sight and the flush number
pub mark_sent : (sent past : Past) → are_sent sent ≡ true → (a : ℕ) → last_mark (sent ++ past) a ≡ last_mark past a
mark_sent sent past e a =
    ap (λ (ms : List Mark). slice_get ms 0) (sent_ignored (mark_in a) (λ n t items. refl) sent past e)

pub count_sent : (sent past : Past) → are_sent sent ≡ true → (ch : ℕ)
    → made_count (sent ++ past) ch ≡ made_count past ch
count_sent sent past e ch = ap greatest_of (sent_ignored (made_on ch) (λ n t items. refl) sent past e)

pub class_sent : (sent past : Past) → are_sent sent ≡ true → (a : ℕ)
    → opened_class (sent ++ past) a ≡ opened_class past a
class_sent sent past e a =
    ap (λ (cs : List Class). slice_get cs 0) (sent_ignored (open_class_in a) (λ n t items. refl) sent past e)

pub ticks_sent : (sent past : Past) → are_sent sent ≡ true → ticks_of (sent ++ past) ≡ ticks_of past
ticks_sent sent past e = sent_ignored tick_in (λ n t items. refl) sent past e

pub sight_sent : (sent past : Past) → are_sent sent ≡ true → sight_of (sent ++ past) ≡ sight_of past
sight_sent sent past e =
    ap (λ (ss : List (List Seen)). unwrap_or (slice_get ss 0) [])
    (sent_ignored (λ (deed : Deed). option_map (λ (tick : ℕ × List Seen). tick.1) (tick_in deed)) (λ n t items. refl) sent past e)

pub flush_sent : (sent past : Past) → are_sent sent ≡ true → (a : ℕ) → kept_flush (sent ++ past) a ≡ kept_flush past a
flush_sent [] past e a = refl
flush_sent (Sent n t items ∷ sent) past e a = flush_sent sent past e a
flush_sent (Ticked t s ∷ sent) past e a = absurd (false≢true e)
flush_sent (Made c n m i ∷ sent) past e a = absurd (false≢true e)
flush_sent (Waits m ∷ sent) past e a = absurd (false≢true e)
flush_sent (Took n es ds ∷ sent) past e a = absurd (false≢true e)
flush_sent (Ended g ∷ sent) past e a = absurd (false≢true e)

-- ---- marks and numbers

-- the mark that a message leaves
pub mark_under : (sent past : Past) → are_sent sent ≡ true → (ch : ℕ) (m : Message) (a : ℕ)
    → last_mark (sent ++ after_making past ch m) a
    ≡ cond (marks a m) (Some (record { channel = ch; number = made_count past ch + 1; message = m })) (last_mark (sent ++ past) a)
mark_under sent past e ch m a =
    mark_sent sent (after_making past ch m) e a ∙ mark_made past ch m a
    ∙ ap (λ (o : Option Mark). cond (marks a m) (Some (record { channel = ch; number = made_count past ch + 1; message = m })) o) (sym (mark_sent sent past e a))

-- the numbers that it takes on its index, and none elsewhere
pub count_under : (sent past : Past) → are_sent sent ≡ true → (ch : ℕ) (m : Message)
    → made_count (sent ++ after_making past ch m) ch ≡ made_count (sent ++ past) ch + parts_of m
count_under sent past e ch m =
    omega (arith, count_sent sent (after_making past ch m) e ch, count_sent sent past e ch, made_count_made past ch m)

pub count_elsewhere : (sent past : Past) → are_sent sent ≡ true → (c : ℕ) (m : Message) (ch : ℕ) → (c ≡ ch → ⊥)
    → made_count (sent ++ after_making past c m) ch ≡ made_count (sent ++ past) ch
count_elsewhere sent past e c m ch h =
    count_sent sent (after_making past c m) e ch ∙ made_count_elsewhere past ch c m h ∙ sym (count_sent sent past e ch)

-- ---- what has arrived

-- what looks past bunches made finds the same, also below packets
pub made_under : {B : Type 0} (f : Deed → Option B) → ((ch n : ℕ) (m : Message) (i : ℕ) → f (Made ch n m i) ≡ None)
    → (sent past : Past) (ch : ℕ) (m : Message)
    → filter_map f (sent ++ after_making past ch m) ≡ filter_map f (sent ++ past)
made_under f h sent past ch m =
    filter_map-append f sent (after_making past ch m)
    ∙ ap (λ xs. filter_map f sent ++ xs) (made_ignored f h past ch m)
    ∙ sym (filter_map-append f sent past)

-- a message changes no fate, no carrier and no arrival
pub moved_under : (sent past : Past) (ch : ℕ) (m : Message)
    → moved_of (sent ++ after_making past ch m) ≡ moved_of (sent ++ past)
moved_under sent past ch m =
    ap moved_by (
    flat_map-append entries_in sent (after_making past ch m)
    ∙ ap (λ (es : List Entry). flat_map entries_in sent ++ es) (made_ignored_all entries_in (λ c n m i. refl) past ch m)
    ∙ sym (flat_map-append entries_in sent past)
    )

pub carrier_under : (sent past : Past) (c : ℕ) (m : Message) (ch n : ℕ)
    → carrier_of (sent ++ after_making past c m) ch n ≡ carrier_of (sent ++ past) ch n
carrier_under sent past c m ch n =
    ap (λ (ks : List ℕ). slice_get ks 0) (made_under (carrier_in ch n) (λ c n m i. refl) sent past c m)

pub arrivals_under : (sent past : Past) (c : ℕ) (m : Message)
    → SameArrivals (sent ++ past) (sent ++ after_making past c m)
arrivals_under sent past c m ch n =
    arrival_same (sent ++ past) (sent ++ after_making past c m) ch n (carrier_under sent past c m ch n)
    (moved_under sent past c m)

-- what isn't made still hasn't arrived
pub arrives_made_under : (sent past : Past) → are_sent sent ≡ true → (c : ℕ) (m : Message) → ArrivesMade (sent ++ past)
    → ArrivesMade (sent ++ after_making past c m)
arrives_made_under sent past e c m h ch n lt = arrivals_under sent past c m ch n ∙ h ch n (more (cases_eq c ch))
  where
    more : ((c ≡ ch) ⊎ (c ≡ ch → ⊥)) → made_count (sent ++ past) ch < n
    more (inl q) =
        omega (arith, lt, count_under sent past e ch m, ap (λ (k : ℕ). made_count (sent ++ after_making past k m) ch) q)
    more (inr q) = omega (arith, lt, count_elsewhere sent past e c m ch q)

-- ---- the class opened, and service

-- whether an open was made, after some parts of a message
abbrev OpenedUpTo : Past → Message → (a i : ℕ) → Past → Type 0
OpenedUpTo past m a zero before = was_opened before a ≡ was_opened past a
OpenedUpTo past m a (suc i) before = was_opened before a ≡ (is_open_made a m || was_opened past a)

open_step : (past : Past) (b : ℕ) (class : Class) (a : ℕ) (before : Past) (t : Bool)
    → (was_opened before a ≡ was_opened past a) ⊎ (was_opened before a ≡ (t || was_opened past a))
    → is_some (slice_get (cons_option (then_some t class) (filter_map (open_class_in a) before)) 0)
    ≡ (t || was_opened past a)
open_step past b class a before true h = refl
open_step past b class a before false (inl h) = h
open_step past b class a before false (inr h) = h

opened_step : (past : Past) (m : Message) (a i : ℕ) (before : Past) (ch n : ℕ) → OpenedUpTo past m a i before
    → OpenedUpTo past m a (suc i) (Made ch n m i ∷ before)
opened_step past (Opens exports b class values) a zero before ch n h = open_step past b class a before (b == a) (inl h)
opened_step past (Opens exports b class values) a (suc i) before ch n h =
    open_step past b class a before (b == a) (inr h)
opened_step past (Closes b sleeps) a zero before ch n h = h
opened_step past (Updates b class values) a zero before ch n h = h
opened_step past (Calls b number call args) a zero before ch n h = h
opened_step past (Gone b) a zero before ch n h = h
opened_step past (Closes b sleeps) a (suc i) before ch n h = h
opened_step past (Updates b class values) a (suc i) before ch n h = h
opened_step past (Calls b number call args) a (suc i) before ch n h = h
opened_step past (Gone b) a (suc i) before ch n h = h

opened_end : (past : Past) (m : Message) (a i : ℕ) (before : Past) → 1 ≤ i → OpenedUpTo past m a i before
    → was_opened before a ≡ (is_open_made a m || was_opened past a)
opened_end past m a zero before lo h = absurd (omega arith)
opened_end past m a (suc i) before lo h = h

-- an open was made if this is one or there was one
pub opened_made : (past : Past) (ch : ℕ) (m : Message) (a : ℕ)
    → was_opened (after_making past ch m) a ≡ (is_open_made a m || was_opened past a)
opened_made past ch m a =
    opened_end past m a (parts_of m) (after_making past ch m) (some_parts m)
    (making_keeps (OpenedUpTo past m a) past ch m refl (λ i before lt h. opened_step past m a i before ch (made_count past ch + 1 + i) h))

pub opened_under : (sent past : Past) → are_sent sent ≡ true → (ch : ℕ) (m : Message) (a : ℕ)
    → was_opened (sent ++ after_making past ch m) a ≡ (is_open_made a m || was_opened (sent ++ past) a)
opened_under sent past e ch m a =
    ap (λ (o : Option Class). is_some o) (class_sent sent (after_making past ch m) e a) ∙ opened_made past ch m a
    ∙ ap (λ (o : Option Class). is_open_made a m || is_some o) (sym (class_sent sent past e a))

-- the ticks and the sight stay
pub ticks_under : (sent past : Past) (ch : ℕ) (m : Message)
    → ticks_of (sent ++ after_making past ch m) ≡ ticks_of (sent ++ past)
ticks_under sent past ch m = made_under tick_in (λ c n m i. refl) sent past ch m

-- the sight stays
pub sight_under : (sent past : Past) (ch : ℕ) (m : Message)
    → sight_of (sent ++ after_making past ch m) ≡ sight_of (sent ++ past)
sight_under sent past ch m =
    ap (λ (ss : List (List Seen)). unwrap_or (slice_get ss 0) [])
    (made_under (λ (deed : Deed). option_map (λ (tick : ℕ × List Seen). tick.1) (tick_in deed)) (λ c n m i. refl) sent past ch m)

-- a service is the open that is made
abbrev ServedUpTo : Past → Message → (a i : ℕ) → Past → Type 0
ServedUpTo past m a zero before = (ticks_of before ≡ ticks_of past) × (last_service before a ≡ last_service past a)
ServedUpTo past m a (suc i) before =
    (ticks_of before ≡ ticks_of past) ×
    (last_service before a ≡ cond (is_open_made a m) (Some (tick_count past)) (last_service past a))

serve_step : (past before : Past) (a : ℕ) (b : Bool) → ticks_of before ≡ ticks_of past
    → (last_service before a ≡ last_service past a)
    ⊎ (last_service before a ≡ cond b (Some (tick_count past)) (last_service past a))
    → cond b (Some (tick_count before)) (last_service before a) ≡ cond b (Some (tick_count past)) (last_service past a)
serve_step past before a true e h = ap (λ (ts : List (ℕ × List Seen)). let o : Option ℕ = Some (length ts) in o) e
serve_step past before a false e (inl h) = h
serve_step past before a false e (inr h) = h

served_step : (past : Past) (m : Message) (a i : ℕ) (before : Past) (ch n : ℕ) → ServedUpTo past m a i before
    → ServedUpTo past m a (suc i) (Made ch n m i ∷ before)
served_step past m a zero before ch n h = (h.0, serve_step past before a (is_open_made a m) h.0 (inl h.1))
served_step past m a (suc i) before ch n h = (h.0, serve_step past before a (is_open_made a m) h.0 (inr h.1))

served_end : (past : Past) (m : Message) (a i : ℕ) (before : Past) → 1 ≤ i → ServedUpTo past m a i before
    → last_service before a ≡ cond (is_open_made a m) (Some (tick_count past)) (last_service past a)
served_end past m a zero before lo h = absurd (omega arith)
served_end past m a (suc i) before lo h = h.1

-- a message that is an open serves in this tick
pub service_made : (past : Past) (ch : ℕ) (m : Message) (a : ℕ)
    → last_service (after_making past ch m) a ≡ cond (is_open_made a m) (Some (tick_count past)) (last_service past a)
service_made past ch m a =
    served_end past m a (parts_of m) (after_making past ch m) (some_parts m)
    (making_keeps (ServedUpTo past m a) past ch m (refl, refl) (λ i before lt h. served_step past m a i before ch (made_count past ch + 1 + i) h))

-- below packets, where it is no open of the actor
pub service_elsewhere : (sent past : Past) → are_sent sent ≡ true → (ch : ℕ) (m : Message) (a : ℕ)
    → is_open_made a m ≡ false
    → last_service (sent ++ after_making past ch m) a ≡ last_service (sent ++ past) a
service_elsewhere [] past e ch m a no_open =
    service_made past ch m a ∙ ap (λ (b : Bool). cond b (Some (tick_count past)) (last_service past a)) no_open
service_elsewhere (Sent n t items ∷ sent) past e ch m a no_open =
    ap (λ (o : Option ℕ). cond (list_any (is_update_of a) items) (Some t) o)
    (service_elsewhere sent past e ch m a no_open)
service_elsewhere (Ticked t s ∷ sent) past e ch m a no_open = absurd (false≢true e)
service_elsewhere (Made c n k i ∷ sent) past e ch m a no_open = absurd (false≢true e)
service_elsewhere (Waits k ∷ sent) past e ch m a no_open = absurd (false≢true e)
service_elsewhere (Took n es ds ∷ sent) past e ch m a no_open = absurd (false≢true e)
service_elsewhere (Ended g ∷ sent) past e ch m a no_open = absurd (false≢true e)

-- without an update in these packets there is none in the first nor in the others
pub no_update : (n t : ℕ) (items : List Item) (sent : Past) (a : ℕ) → has_update a (Sent n t items ∷ sent) ≡ false
    → (list_any (is_update_of a) items ≡ false) × (has_update a sent ≡ false)
no_update n t items sent a h = or_parts (list_any (is_update_of a) items) (has_update a sent) h

-- below packets without an update of the actor, where it is one
pub service_opened : (sent past : Past) → are_sent sent ≡ true → (ch : ℕ) (m : Message) (a : ℕ)
    → is_open_made a m ≡ true → has_update a sent ≡ false
    → last_service (sent ++ after_making past ch m) a ≡ Some (tick_count past)
service_opened [] past e ch m a opens none =
    service_made past ch m a ∙ ap (λ (b : Bool). cond b (Some (tick_count past)) (last_service past a)) opens
service_opened (Sent n t items ∷ sent) past e ch m a opens none =
    let q = no_update n t items sent a none in
    ap (λ (b : Bool). cond b (Some t) (last_service (sent ++ after_making past ch m) a)) q.0
    ∙ service_opened sent past e ch m a opens q.1
service_opened (Ticked t s ∷ sent) past e ch m a opens none = absurd (false≢true e)
service_opened (Made c n k i ∷ sent) past e ch m a opens none = absurd (false≢true e)
service_opened (Waits k ∷ sent) past e ch m a opens none = absurd (false≢true e)
service_opened (Took n es ds ∷ sent) past e ch m a opens none = absurd (false≢true e)
service_opened (Ended g ∷ sent) past e ch m a opens none = absurd (false≢true e)

-- ---- the flush number kept

-- the flush number kept, after some parts of a message
abbrev FlushUpTo : Past → Message → (a i : ℕ) → Past → Type 0
FlushUpTo past m a zero before = (sight_of before ≡ sight_of past) × (kept_flush before a ≡ kept_flush past a)
FlushUpTo past m a (suc i) before =
    (sight_of before ≡ sight_of past) ×
    (kept_flush before a ≡ cond (sleeps_actor a m) (flush_seen past a) (kept_flush past a))

sleep_step : (past before : Past) (a : ℕ) (b : Bool) → sight_of before ≡ sight_of past
    → (kept_flush before a ≡ kept_flush past a) ⊎ (kept_flush before a ≡ cond b (flush_seen past a) (kept_flush past a))
    → cond b (flush_seen before a) (kept_flush before a) ≡ cond b (flush_seen past a) (kept_flush past a)
sleep_step past before a true e h = ap (λ (s : List Seen). option_map (λ (seen : Seen). seen.flush) (seen_in s a)) e
sleep_step past before a false e (inl h) = h
sleep_step past before a false e (inr h) = h

flush_first : (past : Past) (m : Message) (a : ℕ) (before : Past) (ch n i : ℕ) → sight_of before ≡ sight_of past
    → (kept_flush before a ≡ kept_flush past a)
    ⊎ (kept_flush before a ≡ cond (sleeps_actor a m) (flush_seen past a) (kept_flush past a))
    → kept_flush (Made ch n m i ∷ before) a ≡ cond (sleeps_actor a m) (flush_seen past a) (kept_flush past a)
flush_first past (Closes b true) a before ch n i e h = sleep_step past before a (b == a) e h
flush_first past (Closes b false) a before ch n i e h = sleep_step past before a false e h
flush_first past (Opens exports b class values) a before ch n i e h = sleep_step past before a false e h
flush_first past (Updates b class values) a before ch n i e h = sleep_step past before a false e h
flush_first past (Calls b number call args) a before ch n i e h = sleep_step past before a false e h
flush_first past (Gone b) a before ch n i e h = sleep_step past before a false e h

flush_step : (past : Past) (m : Message) (a i : ℕ) (before : Past) (ch n : ℕ) → FlushUpTo past m a i before
    → FlushUpTo past m a (suc i) (Made ch n m i ∷ before)
flush_step past m a zero before ch n h = (h.0, flush_first past m a before ch n zero h.0 (inl h.1))
flush_step past m a (suc i) before ch n h = (h.0, flush_first past m a before ch n (suc i) h.0 (inr h.1))

flush_end : (past : Past) (m : Message) (a i : ℕ) (before : Past) → 1 ≤ i → FlushUpTo past m a i before
    → kept_flush before a ≡ cond (sleeps_actor a m) (flush_seen past a) (kept_flush past a)
flush_end past m a zero before lo h = absurd (omega arith)
flush_end past m a (suc i) before lo h = h.1

-- a dormant close keeps the flush number of the sight
pub flush_made : (past : Past) (ch : ℕ) (m : Message) (a : ℕ)
    → kept_flush (after_making past ch m) a ≡ cond (sleeps_actor a m) (flush_seen past a) (kept_flush past a)
flush_made past ch m a =
    flush_end past m a (parts_of m) (after_making past ch m) (some_parts m)
    (making_keeps (FlushUpTo past m a) past ch m (refl, refl) (λ i before lt h. flush_step past m a i before ch (made_count past ch + 1 + i) h))

-- the same below packets
pub flush_under : (sent past : Past) → are_sent sent ≡ true → (ch : ℕ) (m : Message) (a : ℕ)
    → kept_flush (sent ++ after_making past ch m) a
    ≡ cond (sleeps_actor a m) (flush_seen (sent ++ past) a) (kept_flush (sent ++ past) a)
flush_under sent past e ch m a =
    flush_sent sent (after_making past ch m) e a ∙ flush_made past ch m a
    ∙ ap (λ (s : List Seen). cond (sleeps_actor a m) (option_map (λ (seen : Seen). seen.flush) (seen_in s a)) (kept_flush past a)) (sym (sight_sent sent past e))
    ∙ ap (λ (o : Option ℕ). cond (sleeps_actor a m) (flush_seen (sent ++ past) a) o) (sym (flush_sent sent past e a))

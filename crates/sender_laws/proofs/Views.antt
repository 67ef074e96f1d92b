-- What a sender keeps follows from ticks, bunches made, packets sent and moves alone.
use Rattle.std.proofs.Common.{◌≡◌, ℕ, List, [], ◌∷◌, Bool, true, false, cond, ◌==◌, ◌&&◌, ◌||◌, length, refl, sym, ap, ◌∙◌, Option, Some, None, unwrap_or}
use Rattle.std.specs.List.{filter_map, cons_option, list_any, list_all, slice_get, range_with_len}
use Rattle.std.specs.Prelude.{option_map}
use Rattle.protocol_model.specs.Value.{Class, Pair}
use Rattle.protocol_model.specs.Payload.{Message, Opens, Closes, Updates, Calls, Gone, parts_of}
use Rattle.protocol_model.specs.Search.{newest_of, items_since, greatest_of}
use Rattle.protocol_model.specs.Sight.{Seen}
use Rattle.connection_model.specs.Feed.{Past, Deed, Ticked, Made, Waits, Sent, Took, Ended, Ending, Entry, Delivered, tick_in, ticks_of, tick_count, sight_of, seen_in}
use Rattle.connection_model.specs.Bunches.{made_on, made_count, carrier_in, carrier_of, has_arrived, have_arrived}
use Rattle.connection_model.specs.State.{Mark, mark_in, last_mark, open_class_in, opened_class}
use Rattle.connection_model.specs.Carry.{Carry, update_carry, is_open_of, open_values_in, open_values, carry_in, carry_of}
use Rattle.connection_model.specs.Exports.{made_known, is_known, exports_segment}
use Rattle.connection_model.specs.Items.{last_service, is_open_made, is_update_of, kept_flush}
use Rattle.protocol_model.specs.Value.{value_among}
use Rattle.protocol_model.specs.Search.{or_else}
use Rattle.connection_laws.proofs.Arrivals.{arrival_same}
use Rattle.connection_laws.proofs.ActorMarks.{SameArrivals}
use Rattle.sender_laws.specs.Acts.{acts, IsAlike}

-- ---- what looks at acts alone

-- what looks past other deeds finds the same among the acts
pub acts_ignored : {B : Type 0} (f : Deed → Option B) → ((m : Message) → f (Waits m) ≡ None)
    → ((n : ℕ) (es : List Entry) (ds : List Delivered) → f (Took n es ds) ≡ None)
    → ((g : Ending) → f (Ended g) ≡ None) → (past : Past) → filter_map f (acts past) ≡ filter_map f past
acts_ignored f w t e [] = refl
acts_ignored f w t e (Ticked k s ∷ past) = ap (cons_option (f (Ticked k s))) (acts_ignored f w t e past)
acts_ignored f w t e (Made c n m i ∷ past) = ap (cons_option (f (Made c n m i))) (acts_ignored f w t e past)
acts_ignored f w t e (Sent n k items ∷ past) = ap (cons_option (f (Sent n k items))) (acts_ignored f w t e past)
acts_ignored f w t e (Waits m ∷ past) =
    acts_ignored f w t e past ∙ sym (ap (λ o. cons_option o (filter_map f past)) (w m))
acts_ignored f w t e (Took n es ds ∷ past) =
    acts_ignored f w t e past ∙ sym (ap (λ o. cons_option o (filter_map f past)) (t n es ds))
acts_ignored f w t e (Ended g ∷ past) =
    acts_ignored f w t e past ∙ sym (ap (λ o. cons_option o (filter_map f past)) (e g))

-- and so where the acts are the same
pub same_found : {B : Type 0} (f : Deed → Option B) → ((m : Message) → f (Waits m) ≡ None)
    → ((n : ℕ) (es : List Entry) (ds : List Delivered) → f (Took n es ds) ≡ None)
    → ((g : Ending) → f (Ended g) ≡ None) → (past later : Past) → acts later ≡ acts past
    → filter_map f later ≡ filter_map f past
same_found f w t e past later h = sym (acts_ignored f w t e later) ∙ ap (filter_map f) h ∙ acts_ignored f w t e past

-- marks, carriers, numbers, classes, ticks and the sight follow from the acts
pub mark_alike : (past later : Past) → acts later ≡ acts past → (a : ℕ) → last_mark later a ≡ last_mark past a
mark_alike past later h a =
    ap (λ (ms : List Mark). slice_get ms 0)
    (same_found (mark_in a) (λ m. refl) (λ n es ds. refl) (λ g. refl) past later h)

pub carrier_alike : (past later : Past) → acts later ≡ acts past → (ch n : ℕ)
    → carrier_of later ch n ≡ carrier_of past ch n
carrier_alike past later h ch n =
    ap (λ (ks : List ℕ). slice_get ks 0)
    (same_found (carrier_in ch n) (λ m. refl) (λ n es ds. refl) (λ g. refl) past later h)

pub count_alike : (past later : Past) → acts later ≡ acts past → (ch : ℕ) → made_count later ch ≡ made_count past ch
count_alike past later h ch =
    ap greatest_of (same_found (made_on ch) (λ m. refl) (λ n es ds. refl) (λ g. refl) past later h)

pub class_alike : (past later : Past) → acts later ≡ acts past → (a : ℕ) → opened_class later a ≡ opened_class past a
class_alike past later h a =
    ap (λ (cs : List Class). slice_get cs 0)
    (same_found (open_class_in a) (λ m. refl) (λ n es ds. refl) (λ g. refl) past later h)

pub ticks_alike : (past later : Past) → acts later ≡ acts past → ticks_of later ≡ ticks_of past
ticks_alike past later h = same_found tick_in (λ m. refl) (λ n es ds. refl) (λ g. refl) past later h

pub sight_alike : (past later : Past) → acts later ≡ acts past → sight_of later ≡ sight_of past
sight_alike past later h =
    ap (λ (ss : List (List Seen)). unwrap_or (slice_get ss 0) [])
    (same_found (λ (deed : Deed). option_map (λ (tick : ℕ × List Seen). tick.1) (tick_in deed)) (λ m. refl) (λ n es ds. refl) (λ g. refl) past later h)

-- ---- what goes through the past deed by deed

service_own : (past : Past) (a : ℕ) → last_service (acts past) a ≡ last_service past a
service_own [] a = refl
service_own (Ticked k s ∷ past) a = service_own past a
service_own (Made c n m i ∷ past) a =
    ap (λ (t : ℕ). cond (is_open_made a m) (Some t) (last_service (acts past) a))
    (ap length (acts_ignored tick_in (λ m. refl) (λ n es ds. refl) (λ g. refl) past))
    ∙ ap (λ (o : Option ℕ). cond (is_open_made a m) (Some (tick_count past)) o) (service_own past a)
service_own (Sent n k items ∷ past) a =
    ap (λ (o : Option ℕ). cond (list_any (is_update_of a) items) (Some k) o) (service_own past a)
service_own (Waits m ∷ past) a = service_own past a
service_own (Took n es ds ∷ past) a = service_own past a
service_own (Ended g ∷ past) a = service_own past a

-- so does the last service
pub service_alike : (past later : Past) → acts later ≡ acts past → (a : ℕ) → last_service later a ≡ last_service past a
service_alike past later h a = sym (service_own later a) ∙ ap (λ (p : Past). last_service p a) h ∙ service_own past a

sight_own : (past : Past) → sight_of (acts past) ≡ sight_of past
sight_own past =
    ap (λ (ss : List (List Seen)). unwrap_or (slice_get ss 0) [])
    (acts_ignored (λ (deed : Deed). option_map (λ (tick : ℕ × List Seen). tick.1) (tick_in deed)) (λ m. refl) (λ n es ds. refl) (λ g. refl) past)

flush_own : (past : Past) (a : ℕ) → kept_flush (acts past) a ≡ kept_flush past a
flush_own [] a = refl
flush_own (Ticked k s ∷ past) a = flush_own past a
flush_own (Made c n (Closes b true) i ∷ past) a =
    ap (λ (s : List Seen). cond (b == a) (option_map (λ (seen : Seen). seen.flush) (seen_in s a)) (kept_flush (acts past) a)) (sight_own past)
    ∙ ap (λ (o : Option ℕ). cond (b == a) (option_map (λ (seen : Seen). seen.flush) (seen_in (sight_of past) a)) o)
    (flush_own past a)
flush_own (Made c n (Closes b false) i ∷ past) a = flush_own past a
flush_own (Made c n (Opens exports b class values) i ∷ past) a = flush_own past a
flush_own (Made c n (Updates b class values) i ∷ past) a = flush_own past a
flush_own (Made c n (Calls b number call args) i ∷ past) a = flush_own past a
flush_own (Made c n (Gone b) i ∷ past) a = flush_own past a
flush_own (Sent n k items ∷ past) a = flush_own past a
flush_own (Waits m ∷ past) a = flush_own past a
flush_own (Took n es ds ∷ past) a = flush_own past a
flush_own (Ended g ∷ past) a = flush_own past a

-- so does the flush number kept
pub flush_alike : (past later : Past) → acts later ≡ acts past → (a : ℕ) → kept_flush later a ≡ kept_flush past a
flush_alike past later h a = sym (flush_own later a) ∙ ap (λ (p : Past). kept_flush p a) h ∙ flush_own past a

since_own : (past : Past) (a h : ℕ)
    → filter_map (update_carry a h) (items_since (is_open_of a) (acts past))
    ≡ filter_map (update_carry a h) (items_since (is_open_of a) past)
since_own [] a h = refl
since_own (Ticked k s ∷ past) a h = since_own past a h
since_own (Made c n (Opens exports b class values) i ∷ past) a h = by (b == a) (since_own past a h)
  where
    by : (t : Bool)
        → filter_map (update_carry a h) (items_since (is_open_of a) (acts past))
        ≡ filter_map (update_carry a h) (items_since (is_open_of a) past)
        → filter_map (update_carry a h) (cond t [] (Made c n (Opens exports b class values) i ∷ items_since (is_open_of a) (acts past)))
        ≡ filter_map (update_carry a h) (cond t [] (Made c n (Opens exports b class values) i ∷ items_since (is_open_of a) past))
    by true ih = refl
    by false ih = ih
since_own (Made c n (Closes b sleeps) i ∷ past) a h = since_own past a h
since_own (Made c n (Updates b class values) i ∷ past) a h = since_own past a h
since_own (Made c n (Calls b number call args) i ∷ past) a h = since_own past a h
since_own (Made c n (Gone b) i ∷ past) a h = since_own past a h
since_own (Sent n k items ∷ past) a h = ap (cons_option (update_carry a h (Sent n k items))) (since_own past a h)
since_own (Waits m ∷ past) a h = since_own past a h
since_own (Took n es ds ∷ past) a h = since_own past a h
since_own (Ended g ∷ past) a h = since_own past a h

values_alike : (past later : Past) → acts later ≡ acts past → (a : ℕ) → open_values later a ≡ open_values past a
values_alike past later h a =
    ap (λ (vs : List (List Pair)). unwrap_or (slice_get vs 0) [])
    (same_found (open_values_in a) (λ m. refl) (λ n es ds. refl) (λ g. refl) past later h)

-- so does the carry of a handle
pub carry_alike : (past later : Past) → acts later ≡ acts past → (a h : ℕ) → carry_of later a h ≡ carry_of past a h
carry_alike past later e a h =
    ap (λ (cs : List Carry). or_else (slice_get cs 0) (carry_in None (value_among (open_values later a) h)))
    (sym (since_own later a h) ∙ ap (λ (p : Past). filter_map (update_carry a h) (items_since (is_open_of a) p)) e ∙ since_own past a h)
    ∙ ap (λ (vs : List Pair). or_else (newest_of (update_carry a h) (items_since (is_open_of a) past)) (carry_in None (value_among vs h))) (values_alike past later e a)

-- ---- what has arrived

-- what has arrived follows from the acts and from what moved
pub arrivals_alike : (past later : Past) → IsAlike past later → SameArrivals past later
arrivals_alike past later h ch n = arrival_same past later ch n (carrier_alike past later h.done ch n) h.moved

-- ---- segments

any_same : {X : Type 0} (p q : X → Bool) → ((x : X) → p x ≡ q x) → (xs : List X) → list_any p xs ≡ list_any q xs
any_same p q h [] = refl
any_same p q h (x ∷ xs) = ap (λ (b : Bool). b || list_any p xs) (h x) ∙ ap (λ (b : Bool). q x || b) (any_same p q h xs)

all_same : {X : Type 0} (p q : X → Bool) → ((x : X) → p x ≡ q x) → (xs : List X) → list_all p xs ≡ list_all q xs
all_same p q h [] = refl
all_same p q h (x ∷ xs) = ap (λ (b : Bool). b && list_all p xs) (h x) ∙ ap (λ (b : Bool). q x && b) (all_same p q h xs)

-- a row has arrived where each of it has
pub have_alike : (past later : Past) → SameArrivals past later → (ch from count : ℕ)
    → have_arrived later ch from count ≡ have_arrived past ch from count
have_alike past later h ch from count =
    all_same (has_arrived later ch) (has_arrived past ch) (h ch) (range_with_len from count)

-- a deed makes a segment known by what has arrived
pub known_where : (past later : Past) → SameArrivals past later → (g : ℕ) (deed : Deed)
    → made_known later g deed ≡ made_known past g deed
known_where past later h g (Made c n m i) =
    ap (λ (b : Bool). (i == 0) && exports_segment g m && b) (have_alike past later h c n (parts_of m))
known_where past later h g (Ticked k s) = refl
known_where past later h g (Sent n k items) = refl
known_where past later h g (Waits m) = refl
known_where past later h g (Took n es ds) = refl
known_where past later h g (Ended e) = refl

-- a deed among these makes it known where the same has arrived
pub known_in : (past later : Past) → SameArrivals past later → (g : ℕ) (deeds : Past)
    → list_any (made_known later g) deeds ≡ list_any (made_known past g) deeds
known_in past later h g deeds = any_same (made_known later g) (made_known past g) (known_where past later h g) deeds

known_own : (past deeds : Past) (g : ℕ) → list_any (made_known past g) (acts deeds) ≡ list_any (made_known past g) deeds
known_own past [] g = refl
known_own past (Ticked k s ∷ deeds) g = known_own past deeds g
known_own past (Made c n m i ∷ deeds) g =
    ap (λ (b : Bool). made_known past g (Made c n m i) || b) (known_own past deeds g)
known_own past (Sent n k items ∷ deeds) g = known_own past deeds g
known_own past (Waits m ∷ deeds) g = known_own past deeds g
known_own past (Took n es ds ∷ deeds) g = known_own past deeds g
known_own past (Ended e ∷ deeds) g = known_own past deeds g

-- only acts make a segment known
pub known_acts : (past later : Past) → acts later ≡ acts past → (whole : Past) (g : ℕ)
    → list_any (made_known whole g) later ≡ list_any (made_known whole g) past
known_acts past later h whole g =
    sym (known_own whole later g) ∙ ap (list_any (made_known whole g)) h ∙ known_own whole past g

-- what was heard, handed on or waits makes no segment known
pub known_alike : (past later : Past) → IsAlike past later → (g : ℕ) → is_known later g ≡ is_known past g
known_alike past later h g =
    known_in past later (arrivals_alike past later h) g later ∙ known_acts past later h.done past g

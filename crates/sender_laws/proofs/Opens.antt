-- What a message that is made does to the carries of an actor's handles and to the segments known.
use Rattle.std.proofs.Common.{◌≡◌, ℕ, zero, suc, ◌+◌, ◌≤◌, List, [], ◌∷◌, ◌++◌, Bool, true, false, cond, ◌&&◌, ◌||◌, refl, sym, ap, ◌∙◌, arith, Option, Some, None, unwrap_or, ℤ}
use Rattle.std.specs.List.{filter_map, cons_option, list_any, list_all, slice_get, range_with_len}
use Rattle.std.specs.Bool.{then_some}
use Rattle.std.proofs.lemmas.Bool.{false≢true, eq-eqb, or_parts, and_right}
use Rattle.std.proofs.lemmas.List.Elements.{filter_map-append}
use Rattle.std.proofs.lemmas.List.Folds.{list_any-append}
use Rattle.protocol_model.specs.Value.{Class, Pair, Segment, value_among}
use Rattle.protocol_model.specs.Payload.{Message, Opens, Closes, Updates, Calls, Gone, parts_of}
use Rattle.protocol_model.specs.Search.{newest_of, items_since, or_else}
use Rattle.connection_model.specs.Feed.{Past, Ticked, Made, Waits, Sent, Took, Ended, Item, Owed, Carries, Loose}
use Rattle.connection_model.specs.Bunches.{made_count, has_arrived, have_arrived, after_making}
use Rattle.connection_model.specs.Carry.{Carry, update_carry, is_open_of, open_values_in, open_values, carry_in, carry_of, value_in_update}
use Rattle.connection_model.specs.Exports.{made_known, is_known, exports_segment}
use Rattle.connection_model.specs.Items.{is_open_made, is_update_of}
use Rattle.protocol_laws.proofs.Bounds.{not_zero}
use Rattle.connection_laws.proofs.Moves.{making_keeps}
use Rattle.connection_laws.proofs.Spans.{some_parts}
use Rattle.sender_laws.specs.Acts.{are_sent, ArrivesMade}
use Rattle.sender_laws.specs.Items.{has_update}
use Rattle.sender_laws.proofs.Views.{known_in}
use Rattle.sender_laws.proofs.Makes.{arrivals_under, count_sent, no_update, sent_ignored}

-- ---- another message

since_missed : (m : Message) (a h : ℕ) (ch n i : ℕ) (before past : Past) → is_open_made a m ≡ false
    → filter_map (update_carry a h) (items_since (is_open_of a) before)
    ≡ filter_map (update_carry a h) (items_since (is_open_of a) past)
    → filter_map (update_carry a h) (items_since (is_open_of a) (Made ch n m i ∷ before))
    ≡ filter_map (update_carry a h) (items_since (is_open_of a) past)
since_missed (Opens exports b class values) a h ch n i before past no_open e =
    ap (λ (t : Bool). filter_map (update_carry a h) (cond t [] (Made ch n (Opens exports b class values) i ∷ items_since (is_open_of a) before))) no_open ∙ e
since_missed (Closes b sleeps) a h ch n i before past no_open e = e
since_missed (Updates b class values) a h ch n i before past no_open e = e
since_missed (Calls b number call args) a h ch n i before past no_open e = e
since_missed (Gone b) a h ch n i before past no_open e = e

since_made : (past : Past) (ch : ℕ) (m : Message) (a h : ℕ) → is_open_made a m ≡ false
    → filter_map (update_carry a h) (items_since (is_open_of a) (after_making past ch m))
    ≡ filter_map (update_carry a h) (items_since (is_open_of a) past)
since_made past ch m a h no_open =
    making_keeps
    (λ i before. filter_map (update_carry a h) (items_since (is_open_of a) before) ≡ filter_map (update_carry a h) (items_since (is_open_of a) past)) past ch m refl
    (λ i before lt e. since_missed m a h ch (made_count past ch + 1 + i) i before past no_open e)

since_under : (sent later past : Past) (a h : ℕ) → are_sent sent ≡ true
    → filter_map (update_carry a h) (items_since (is_open_of a) later)
    ≡ filter_map (update_carry a h) (items_since (is_open_of a) past)
    → filter_map (update_carry a h) (items_since (is_open_of a) (sent ++ later))
    ≡ filter_map (update_carry a h) (items_since (is_open_of a) (sent ++ past))
since_under [] later past a h e q = q
since_under (Sent n t items ∷ sent) later past a h e q =
    ap (cons_option (update_carry a h (Sent n t items))) (since_under sent later past a h e q)
since_under (Ticked t s ∷ sent) later past a h e q = absurd (false≢true e)
since_under (Made c n k i ∷ sent) later past a h e q = absurd (false≢true e)
since_under (Waits k ∷ sent) later past a h e q = absurd (false≢true e)
since_under (Took n es ds ∷ sent) later past a h e q = absurd (false≢true e)
since_under (Ended g ∷ sent) later past a h e q = absurd (false≢true e)

values_miss : (m : Message) (a ch n i : ℕ) → is_open_made a m ≡ false → open_values_in a (Made ch n m i) ≡ None
values_miss (Opens exports b class values) a ch n i no_open = ap (λ (t : Bool). then_some t values) no_open
values_miss (Closes b sleeps) a ch n i no_open = refl
values_miss (Updates b class values) a ch n i no_open = refl
values_miss (Calls b number call args) a ch n i no_open = refl
values_miss (Gone b) a ch n i no_open = refl

values_elsewhere : (sent past : Past) (ch : ℕ) (m : Message) (a : ℕ) → is_open_made a m ≡ false
    → open_values (sent ++ after_making past ch m) a ≡ open_values (sent ++ past) a
values_elsewhere sent past ch m a no_open =
    ap (λ (vs : List (List Pair)). unwrap_or (slice_get vs 0) []) (
    filter_map-append (open_values_in a) sent (after_making past ch m)
    ∙ ap (λ (vs : List (List Pair)). filter_map (open_values_in a) sent ++ vs)
    (making_keeps (λ i before. filter_map (open_values_in a) before ≡ filter_map (open_values_in a) past) past ch m refl
    (λ i before lt e. ap (λ (o : Option (List Pair)). cons_option o (filter_map (open_values_in a) before)) (values_miss m a ch (made_count past ch + 1 + i) i no_open) ∙ e))
    ∙ sym (filter_map-append (open_values_in a) sent past)
    )

-- another message leaves the carries of the actor
pub carry_elsewhere : (sent past : Past) → are_sent sent ≡ true → (ch : ℕ) (m : Message) (a h : ℕ)
    → is_open_made a m ≡ false
    → carry_of (sent ++ after_making past ch m) a h ≡ carry_of (sent ++ past) a h
carry_elsewhere sent past e ch m a h no_open =
    ap (λ (cs : List Carry). or_else (slice_get cs 0) (carry_in None (value_among (open_values (sent ++ after_making past ch m) a) h)))
    (since_under sent (after_making past ch m) past a h e (since_made past ch m a h no_open))
    ∙ ap (λ (vs : List Pair). or_else (newest_of (update_carry a h) (items_since (is_open_of a) (sent ++ past))) (carry_in None (value_among vs h)))
    (values_elsewhere sent past ch m a no_open)

-- ---- the actor's open

-- an item that is no update of the actor carries none of its handles
pub value_miss : (a h : ℕ) (item : Item) → is_update_of a item ≡ false → value_in_update a h item ≡ None
value_miss a h (Owed n) e = refl
value_miss a h (Carries c n b) e = refl
value_miss a h (Loose (Updates b class values) bunch) e = ap (λ (t : Bool). cond t (value_among values h) None) e
value_miss a h (Loose (Opens exports b class values) bunch) e = refl
value_miss a h (Loose (Closes b sleeps) bunch) e = refl
value_miss a h (Loose (Calls b number call args) bunch) e = refl
value_miss a h (Loose (Gone b) bunch) e = refl

-- nor do such items together
pub values_missed : (a h : ℕ) (items : List Item) → list_any (is_update_of a) items ≡ false
    → filter_map (value_in_update a h) items ≡ []
values_missed a h [] e = refl
values_missed a h (item ∷ items) e =
    let q = or_parts (is_update_of a item) (list_any (is_update_of a) items) e in
    ap (λ (o : Option ℤ). cons_option o (filter_map (value_in_update a h) items)) (value_miss a h item q.0)
    ∙ values_missed a h items q.1

carry_missed : (a h n t : ℕ) (items : List Item) → list_any (is_update_of a) items ≡ false
    → update_carry a h (Sent n t items) ≡ None
carry_missed a h n t items e = ap (λ (vs : List ℤ). carry_in (Some n) (slice_get vs 0)) (values_missed a h items e)

since_none : (sent past : Past) (a h : ℕ) → are_sent sent ≡ true → has_update a sent ≡ false
    → filter_map (update_carry a h) (items_since (is_open_of a) past) ≡ []
    → filter_map (update_carry a h) (items_since (is_open_of a) (sent ++ past)) ≡ []
since_none [] past a h e none q = q
since_none (Sent n t items ∷ sent) past a h e none q =
    let u = no_update n t items sent a none in
    ap (λ (o : Option Carry). cons_option o (filter_map (update_carry a h) (items_since (is_open_of a) (sent ++ past)))) (carry_missed a h n t items u.0)
    ∙ since_none sent past a h e u.1 q
since_none (Ticked t s ∷ sent) past a h e none q = absurd (false≢true e)
since_none (Made c n k i ∷ sent) past a h e none q = absurd (false≢true e)
since_none (Waits k ∷ sent) past a h e none q = absurd (false≢true e)
since_none (Took n es ds ∷ sent) past a h e none q = absurd (false≢true e)
since_none (Ended g ∷ sent) past a h e none q = absurd (false≢true e)

-- after some parts of an open nothing stands since it, and its values are the newest
abbrev OpenUpTo : (a : ℕ) (values : List Pair) (i : ℕ) → Past → Type 0
OpenUpTo a values zero before = Unit {0}
OpenUpTo a values (suc i) before =
    (items_since (is_open_of a) before ≡ []) ×
    (filter_map (open_values_in a) before ≡ values ∷ filter_map (open_values_in a) (below before))
  where
    below : Past → Past
    below [] = []
    below (deed ∷ past) = past

open_here : (exports : List Segment) (a : ℕ) (class : Class) (values : List Pair) (ch n i : ℕ) (before : Past)
    → OpenUpTo a values (suc i) (Made ch n (Opens exports a class values) i ∷ before)
open_here exports a class values ch n i before = (
  ap (λ (t : Bool). cond t [] (Made ch n (Opens exports a class values) i ∷ items_since (is_open_of a) before))
      (eq-eqb a a refl),
  ap (λ (t : Bool). cons_option (then_some t values) (filter_map (open_values_in a) before)) (eq-eqb a a refl),
)

-- after an open nothing stands since it, and its values are those of the actor
record OpenMade (a : ℕ) (values : List Pair) (past : Past) : Type 0 where
  pub since : items_since (is_open_of a) past ≡ []
  pub values_are : open_values past a ≡ values

open_end : (a : ℕ) (values : List Pair) (i : ℕ) (before : Past) → 1 ≤ i → OpenUpTo a values i before
    → OpenMade a values before
open_end a values zero before lo h = absurd (omega arith)
open_end a values (suc i) before lo h =
    record { since = h.0; values_are = ap (λ (vs : List (List Pair)). unwrap_or (slice_get vs 0) []) h.1 }

open_made : (past : Past) (ch : ℕ) (exports : List Segment) (a : ℕ) (class : Class) (values : List Pair)
    → OpenMade a values (after_making past ch (Opens exports a class values))
open_made past ch exports a class values =
    open_end a values (parts_of (Opens exports a class values)) (after_making past ch (Opens exports a class values))
    (some_parts (Opens exports a class values))
    (making_keeps (OpenUpTo a values) past ch (Opens exports a class values) tt (λ i before lt h. open_here exports a class values ch (made_count past ch + 1 + i) i before))

-- the open carries each of its handles
pub carry_opened : (sent past : Past) → are_sent sent ≡ true
    → (ch : ℕ) (exports : List Segment) (a : ℕ) (class : Class) (values : List Pair) (h : ℕ) → has_update a sent ≡ false
    → carry_of (sent ++ after_making past ch (Opens exports a class values)) a h ≡ carry_in None (value_among values h)
carry_opened sent past e ch exports a class values h none =
    let later : Past = after_making past ch (Opens exports a class values) in
    let o = open_made past ch exports a class values in
    ap (λ (cs : List Carry). or_else (slice_get cs 0) (carry_in None (value_among (open_values (sent ++ later) a) h)))
    (since_none sent later a h e none (ap (filter_map (update_carry a h)) o.since))
    ∙ ap (λ (vs : List Pair). carry_in None (value_among vs h)) (values_sent ∙ o.values_are)
  where
    values_sent : open_values (sent ++ after_making past ch (Opens exports a class values)) a
        ≡ open_values (after_making past ch (Opens exports a class values)) a
    values_sent =
        ap (λ (vs : List (List Pair)). unwrap_or (slice_get vs 0) [])
        (sent_ignored (open_values_in a) (λ n t items. refl) sent (after_making past ch (Opens exports a class values)) e)

-- ---- segments

have_none : (past : Past) (ch n count : ℕ) → has_arrived past ch n ≡ false → 1 ≤ count
    → have_arrived past ch n count ≡ false
have_none past ch n zero h lo = absurd (omega arith)
have_none past ch n (suc count) h lo =
    ap (λ (b : Bool). b && list_all (has_arrived past ch) (range_with_len (n + 1) count)) h

unknown_part : (whole : Past) (g ch n : ℕ) (m : Message) (i : ℕ) → (i ≡ 0 → has_arrived whole ch n ≡ false)
    → made_known whole g (Made ch n m i) ≡ false
unknown_part whole g ch n m zero h =
    and_right (exports_segment g m) (have_arrived whole ch n (parts_of m))
    (have_none whole ch n (parts_of m) (h refl) (some_parts m))
unknown_part whole g ch n m (suc i) h =
    ap (λ (b : Bool). b && exports_segment g m && have_arrived whole ch n (parts_of m)) (not_zero (suc i) (omega arith))

-- what is made makes no segment known before it arrives
pub known_under : (sent past : Past) → are_sent sent ≡ true → (ch : ℕ) (m : Message) → ArrivesMade (sent ++ past)
    → (g : ℕ) → is_known (sent ++ after_making past ch m) g ≡ is_known (sent ++ past) g
known_under sent past e ch m made g =
    known_in (sent ++ past) (sent ++ after_making past ch m) (arrivals_under sent past ch m) g
    (sent ++ after_making past ch m)
    ∙ list_any-append (made_known (sent ++ past) g) sent (after_making past ch m)
    ∙ ap (λ (b : Bool). list_any (made_known (sent ++ past) g) sent || b)
    (making_keeps (λ i before. list_any (made_known (sent ++ past) g) before ≡ list_any (made_known (sent ++ past) g) past) past ch m refl
    (λ i before lt h. ap (λ (b : Bool). b || list_any (made_known (sent ++ past) g) before) (unknown_part (sent ++ past) g ch (made_count past ch + 1 + i) m i (unarrived i)) ∙ h))
    ∙ sym (list_any-append (made_known (sent ++ past) g) sent past)
  where
    unarrived : (i : ℕ) → i ≡ 0 → has_arrived (sent ++ past) ch (made_count past ch + 1 + i) ≡ false
    unarrived i z = made ch (made_count past ch + 1 + i) (omega (arith, count_sent sent past e ch))

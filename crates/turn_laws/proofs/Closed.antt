-- Closes are made of actors that aren't closed alone.
use Rattle.std.proofs.Common.{◌≡◌, ◌⊎◌, inl, inr, ℕ, ◌<◌, ◌≤◌, List, [], ◌∷◌, filter, Bool, true, false, not, cond, ◌&&◌, ◌||◌, ◌==◌, nat_lt, refl, sym, ap, ◌∙◌, subst, arith, fold, Option, Some, None, is_some, find, slice_get}
use Rattle.std.specs.List.{AllByRecursion, filter_map, cons_option}
use Rattle.std.specs.Bool.{then_some}
use Rattle.std.proofs.lemmas.Bool.{false≢true, cases_Bool, cond_both, ne_eqb, eqb-true}
use Rattle.protocol_model.specs.Value.{Class}
use Rattle.protocol_model.specs.Payload.{Message, Opens, Closes, Updates, Calls, Gone, actor_of}
use Rattle.protocol_model.specs.Search.{is_among}
use Rattle.protocol_model.specs.Sight.{Seen}
use Rattle.connection_model.specs.Feed.{Past, Ticked, Made, Waits, Sent, Took, Ended, sight_of, seen_in}
use Rattle.connection_model.specs.Bunches.{room, after_making}
use Rattle.connection_model.specs.State.{state_of, is_open, is_opened, is_asleep, is_closed, is_mark, index_of, opened_in, opened_actors, open_class_in, was_opened}
use Rattle.connection_model.specs.Settled.{is_settled_as}
use Rattle.connection_model.specs.Pack.{idle_ticks, is_shown, made_if_room, after_close, after_closes}
use Rattle.connection_laws.specs.Run.{Ascends}
use Rattle.connection_laws.proofs.Searches.{among_cons, among_here, among_there}
use Rattle.connection_laws.proofs.Holding.{among_ascending}
use Rattle.channel_laws.proofs.Orders.{Ascend, ascending, among_ascending_back}
use Rattle.sight_laws.proofs.Shown.{closed_shut, closed_awake, shut_unopened}
use Rattle.sight_laws.proofs.Closing.{closed, none_close, shut_close, state_elsewhere}
use Rattle.turn_laws.specs.Turns.{AreLive}

-- ---- one close

-- no close is made, or one message of the actor
data Closing (past : Past) (a : ℕ) : Past → Type 0 where
  none : Closing past a past
  one : (ch : ℕ) (m : Message) → actor_of m ≡ a → Closing past a (after_making past ch m)

room_closing : (past : Past) (a : ℕ) (o : Option ℕ) (m : Message) → actor_of m ≡ a
    → Closing past a (made_if_room past o m)
room_closing past a None m e = none
room_closing past a (Some ch) m e = by (nat_lt 0 (room past ch))
  where
    by : (b : Bool) → Closing past a (cond b (after_making past ch m) past)
    by true = one ch m e
    by false = none

close_is : (past : Past) (a : ℕ) → Closing past a (after_close past a)
close_is past a =
    by (is_open (state_of past a) &&
    (is_shown (λ s. s.destroyed) (seen_in (sight_of past) a) || Rattle.std.proofs.Common.nat_le 5
    (idle_ticks past a)))
    (is_shown (λ s. s.dormant && is_settled_as past s) (seen_in (sight_of past) a))
    (is_asleep (state_of past a) && is_shown (λ s. s.destroyed) (seen_in (sight_of past) a))
  where
    by : (p s g : Bool)
        → Closing past a (cond p (made_if_room past (index_of past a) (Closes a false))
        (cond s (made_if_room past (index_of past a) (Closes a true))
        (cond g (made_if_room past (Some 0) (Gone a)) past)))
    by true s g = room_closing past a (index_of past a) (Closes a false) refl
    by false true g = room_closing past a (index_of past a) (Closes a true) refl
    by false false true = room_closing past a (Some 0) (Gone a) refl
    by false false false = none

-- what holds of a past and goes on with each message holds once the closes are made
module _ (P : Past → Type 0) (making : (past : Past) (ch : ℕ) (m : Message) → P past → P (after_making past ch m)) where
  close_keeps : (past : Past) (a : ℕ) → P past → P (after_close past a)
  close_keeps past a h = by (close_is past a)
    where
      by : {later : Past} → Closing past a later → P later
      by none = h
      by (one ch m e) = making past ch m h

  keeps_from : (actors : List ℕ) (past : Past) → P past → P (fold after_close past actors)
  keeps_from [] past h = h
  keeps_from (a ∷ actors) past h = keeps_from actors (after_close past a) (close_keeps past a h)

  pub closes_keep : (past : Past) → P past → P (after_closes past)
  closes_keep past h = keeps_from (opened_actors past) past h

-- ---- an actor that is closed

-- the entry that a sight has of an actor is the actor's
entry_is : (sight : List Seen) (a : ℕ) (seen : Seen) → seen_in sight a ≡ Some seen → seen.actor ≡ a
entry_is [] a seen e = absurd (let no : (let o : Option Seen = None in o) ≡ Some seen = e in cc)
entry_is (s ∷ sight) a seen e = elim (cases_Bool (s.actor == a)) [
  | inl t ↦ (let q : Some s ≡ Some seen = sym (ap (λ (b : Bool). cond b (Some s) (seen_in sight a)) t) ∙ e in
      let is : s ≡ seen = cc in ap (λ (r : Seen). r.actor) (sym is) ∙ eqb-true s.actor a t)
  | inr t ↦ entry_is sight a seen (sym (ap (λ (b : Bool). cond b (Some s) (seen_in sight a)) t) ∙ e)
]

-- it makes no close
pub closed_passed : (past : Past) (a : ℕ) → is_closed (state_of past a) ≡ true → after_close past a ≡ past
closed_passed past a e = by (seen_in (sight_of past) a) refl
  where
    shut : is_open (state_of past a) ≡ false
    shut = closed_shut (state_of past a) e

    awake : is_asleep (state_of past a) ≡ false
    awake = closed_awake (state_of past a) e

    by : (o : Option Seen) → seen_in (sight_of past) a ≡ o → closed past a o ≡ past
    by None q = none_close past a shut awake
    by (Some seen) q =
        shut_close past a seen shut (subst (λ (n : ℕ). is_opened (state_of past n) ≡ false)
        (sym (entry_is (sight_of past) a seen q)) (shut_unopened (state_of past a) shut))
        ∙ ap (λ (b : Bool). cond (b && seen.destroyed) (made_if_room past (Some 0) (Gone a)) past) awake

-- a close leaves the states of other actors
close_elsewhere : (past : Past) (a b : ℕ) → (a ≡ b → ⊥) → state_of (after_close past a) b ≡ state_of past b
close_elsewhere past a b ne = by (close_is past a)
  where
    by : {later : Past} → Closing past a later → state_of later b ≡ state_of past b
    by none = refl
    by (one ch m e) =
        state_elsewhere past ch m b (ap (λ (t : Bool). t && is_mark m) (ne_eqb (actor_of m) b (λ q. ne (sym e ∙ q))))

-- ---- those that aren't

abbrev is_live : Past → ℕ → Bool
is_live past a = not (is_closed (state_of past a))

all_among : (P : ℕ → Type 0) (ns : List ℕ) → ((k : ℕ) → is_among k ns ≡ true → P k) → AllByRecursion P ns
all_among P [] h = tt
all_among P (n ∷ ns) h = (h n (among_here n ns n refl), all_among P ns (λ k e. h k (among_there n ns k e)))

live_from : (past : Past) (actors : List ℕ) (now : Past) → Ascend actors
    → AllByRecursion (λ (a : ℕ). state_of now a ≡ state_of past a) actors
    → fold after_close now actors ≡ fold after_close now (filter (is_live past) actors)
live_from past [] now h s = refl
live_from past (a ∷ actors) now h s =
    live_from past actors (after_close now a) h.1 (stay actors (all_among (λ (b : ℕ). a < b) actors h.0) s.1)
    ∙ by (is_closed (state_of past a)) refl
  where
    stay : (bs : List ℕ) → AllByRecursion (λ (b : ℕ). a < b) bs
        → AllByRecursion (λ (b : ℕ). state_of now b ≡ state_of past b) bs
        → AllByRecursion (λ (b : ℕ). state_of (after_close now a) b ≡ state_of past b) bs
    stay [] lt q = tt
    stay (b ∷ bs) lt q = (close_elsewhere now a b (λ r. absurd (omega (arith, lt.0, r))) ∙ q.0, stay bs lt.1 q.1)

    by : (b : Bool) → is_closed (state_of past a) ≡ b
        → fold after_close (after_close now a) (filter (is_live past) actors)
        ≡ fold after_close now (cond (not (is_closed (state_of past a))) (a ∷ filter (is_live past) actors)
        (filter (is_live past) actors))
    by true e =
        ap (λ (l : Past). fold after_close l (filter (is_live past) actors))
        (closed_passed now a (ap is_closed s.0 ∙ e))
        ∙ sym (ap (λ (b : Bool). fold after_close now
        (cond (not b) (a ∷ filter (is_live past) actors) (filter (is_live past) actors))) e)
    by false e = sym (ap (λ (b : Bool). fold after_close now
        (cond (not b) (a ∷ filter (is_live past) actors) (filter (is_live past) actors))) e)

-- ---- one list of them

among_filtered : (test : ℕ → Bool) (ns : List ℕ) (n : ℕ) → is_among n ns ≡ true → test n ≡ true
    → is_among n (filter test ns) ≡ true
among_filtered test [] n h e = h
among_filtered test (k ∷ ns) n h e = elim (among_cons k ns n h) [
  | inl q ↦ subst (λ (l : List ℕ). is_among n l ≡ true)
      (sym (ap (λ (b : Bool). cond b (k ∷ filter test ns) (filter test ns)) (ap test q ∙ e)))
      (among_here k (filter test ns) n q)
  | inr q ↦ cond_both (test k) (k ∷ filter test ns) (filter test ns) (λ (l : List ℕ). is_among n l ≡ true)
      (λ t. among_there k (filter test ns) n (among_filtered test ns n q e)) (λ t. among_filtered test ns n q e)
]

filtered_among : (test : ℕ → Bool) (ns : List ℕ) (n : ℕ) → is_among n (filter test ns) ≡ true
    → (is_among n ns ≡ true) × (test n ≡ true)
filtered_among test [] n h = absurd (false≢true h)
filtered_among test (k ∷ ns) n h =
    cond_both (test k) (k ∷ filter test ns) (filter test ns) (λ (l : List ℕ). is_among n l ≡ true
    → (is_among n (k ∷ ns) ≡ true) × (test n ≡ true))
    (λ t q. elim (among_cons k (filter test ns) n q) [
      | inl e ↦ (among_here k ns n e, ap test (sym e) ∙ t)
      | inr e ↦ (let r = filtered_among test ns n e in (among_there k ns n r.0, r.1))
    ])
    (λ t q. let r = filtered_among test ns n q in (among_there k ns n r.0, r.1)) h

raised_numbers : (low high : ℕ) (ns : List ℕ) → low ≤ high → Ascends high ns → Ascends low ns
raised_numbers low high [] le h = tt
raised_numbers low high (n ∷ ns) le h = (omega (arith, h.0), h.1)

ascends_filtered : (test : ℕ → Bool) (low : ℕ) (ns : List ℕ) → Ascends low ns → Ascends low (filter test ns)
ascends_filtered test low [] h = tt
ascends_filtered test low (n ∷ ns) h =
    cond_both (test n) (n ∷ filter test ns) (filter test ns) (Ascends low)
    (λ e. (h.0, ascends_filtered test n ns h.1))
    (λ e. raised_numbers low n (filter test ns) (omega (arith, h.0)) (ascends_filtered test n ns h.1))

above_among : (low : ℕ) (ns : List ℕ) → Ascends low ns → (k : ℕ) → is_among k ns ≡ true → low < k
above_among low [] h k e = absurd (false≢true e)
above_among low (n ∷ ns) h k e = elim (among_cons n ns k e) [
  | inl q ↦ omega (arith, h.0, q)
  | inr q ↦ omega (arith, h.0, above_among n ns h.1 k q)
]

-- two lists that ascend and have the same numbers are one
ascends_once : (low : ℕ) (ms ns : List ℕ) → Ascends low ms → Ascends low ns
    → ((k : ℕ) → is_among k ms ≡ true → is_among k ns ≡ true) → ((k : ℕ) → is_among k ns ≡ true → is_among k ms ≡ true)
    → ms ≡ ns
ascends_once low [] [] a b f g = refl
ascends_once low [] (n ∷ ns) a b f g = absurd (false≢true (g n (among_here n ns n refl)))
ascends_once low (m ∷ ms) [] a b f g = absurd (false≢true (f m (among_here m ms m refl)))
ascends_once low (m ∷ ms) (n ∷ ns) a b f g =
    ap (λ (k : ℕ). k ∷ ms) same
    ∙ ap (λ (l : List ℕ). n ∷ l)
    (ascends_once n ms ns (subst (λ (k : ℕ). Ascends k ms) same a.1) b.1
    (λ k h. tail n ns k (above_among n ms (subst (λ (k : ℕ). Ascends k ms) same a.1) k h) (f k (among_there m ms k h)))
    (λ k h. tail m ms k (subst (λ (j : ℕ). j < k) (sym same) (above_among n ns b.1 k h)) (g k (among_there n ns k h))))
  where
    heads : (n ≡ m) ⊎ (is_among m ns ≡ true) → (m ≡ n) ⊎ (is_among n ms ≡ true) → m ≡ n
    heads (inl e) h = sym e
    heads (inr e) (inl h) = h
    heads (inr e) (inr h) = absurd (omega (arith, above_among n ns b.1 m e, above_among m ms a.1 n h))

    same : m ≡ n
    same = heads (among_cons n ns m (f m (among_here m ms m refl))) (among_cons m ms n (g n (among_here n ns n refl)))

    tail : (j : ℕ) (js : List ℕ) (k : ℕ) → j < k → is_among k (j ∷ js) ≡ true → is_among k js ≡ true
    tail j js k lt h = elim (among_cons j js k h) [ inl e ↦ absurd (omega (arith, lt, e)) | inr e ↦ e ]

-- ---- who was opened

ascends_of : (low : ℕ) (ns : List ℕ) → Ascend ns → ((k : ℕ) → is_among k ns ≡ true → low < k) → Ascends low ns
ascends_of low [] h f = tt
ascends_of low (n ∷ ns) h f = (f n (among_here n ns n refl), ascends_of n ns h.1 h.0)

-- an actor was opened where it is among the opened ones
opened_step : (b : ℕ) (class : Class) (a : ℕ) (past : Past) (t : Bool) → (b == a) ≡ t
    → is_some (slice_get (filter_map (open_class_in a) past) 0) ≡ is_among a (filter_map opened_in past)
    → is_some (slice_get (cons_option (then_some t class) (filter_map (open_class_in a) past)) 0)
    ≡ (t || is_among a (filter_map opened_in past))
opened_step b class a past true e h = refl
opened_step b class a past false e h = h

opened_own : (past : Past) (a : ℕ) → was_opened past a ≡ is_among a (filter_map opened_in past)
opened_own [] a = refl
opened_own (Made c n (Opens exports b class values) i ∷ past) a = opened_step b class a past (b == a) refl
    (opened_own past a)
opened_own (Made c n (Closes b sleeps) i ∷ past) a = opened_own past a
opened_own (Made c n (Updates b class values) i ∷ past) a = opened_own past a
opened_own (Made c n (Calls b number call args) i ∷ past) a = opened_own past a
opened_own (Made c n (Gone b) i ∷ past) a = opened_own past a
opened_own (Ticked t s ∷ past) a = opened_own past a
opened_own (Waits m ∷ past) a = opened_own past a
opened_own (Sent n t items ∷ past) a = opened_own past a
opened_own (Took n es ds ∷ past) a = opened_own past a
opened_own (Ended g ∷ past) a = opened_own past a

ascend_filtered : (test : ℕ → Bool) (ns : List ℕ) → Ascend ns → Ascend (filter test ns)
ascend_filtered test [] h = tt
ascend_filtered test (n ∷ ns) h =
    cond_both (test n) (n ∷ filter test ns) (filter test ns) Ascend
    (λ e. (λ k q. h.0 k (filtered_among test ns k q).0, ascend_filtered test ns h.1))
    (λ e. ascend_filtered test ns h.1)

ascend_of : (low : ℕ) (ns : List ℕ) → Ascends low ns → Ascend ns
ascend_of low [] h = tt
ascend_of low (n ∷ ns) h = (λ k e. above_among n ns h.1 k e, ascend_of n ns h.1)

-- ---- the closes of a tick

self_states : (past : Past) (actors : List ℕ) → AllByRecursion (λ (a : ℕ). state_of past a ≡ state_of past a) actors
self_states past [] = tt
self_states past (a ∷ actors) = (refl, self_states past actors)

live_is : (past : Past) (a : ℕ) → is_live past a ≡ true → is_closed (state_of past a) ≡ false
live_is past a e = by (is_closed (state_of past a)) e
  where
    by : (b : Bool) → not b ≡ true → b ≡ false
    by true e = absurd (false≢true e)
    by false e = refl

-- whoever walks the live actors makes the closes of all
pub closes_of_live : (past : Past) (live : List ℕ) → AreLive past live → after_closes past ≡ fold after_close past live
closes_of_live past live h =
    live_from past (opened_actors past) past opened_ascend (self_states past (opened_actors past))
    ∙ ap (fold after_close past)
    (ascends_once 0 (filter (is_live past) (opened_actors past)) (filter (is_live past) live)
    (ascends_of 0 (filter (is_live past) (opened_actors past))
    (ascend_filtered (is_live past) (opened_actors past) opened_ascend)
    (λ k e. above_among 0 live h.ascends k (there k e).0))
    (ascends_filtered (is_live past) 0 live h.ascends)
    (λ k e. let r = there k e in among_filtered (is_live past) live k r.0 r.1)
    (λ k e. let r = filtered_among (is_live past) live k e in
    among_filtered (is_live past) (opened_actors past) k
    (among_ascending (filter_map opened_in past) k (sym (opened_own past k) ∙ h.opened k r.0)) r.1))
    ∙ sym (live_from past live past (ascend_of 0 live h.ascends) (self_states past live))
  where
    opened_ascend : Ascend (opened_actors past)
    opened_ascend = ascending (filter_map opened_in past)

    there : (k : ℕ) → is_among k (filter (is_live past) (opened_actors past)) ≡ true
        → (is_among k live ≡ true) × (is_live past k ≡ true)
    there k e =
        let r = filtered_among (is_live past) (opened_actors past) k e in
        (h.all k (opened_own past k ∙ among_ascending_back (filter_map opened_in past) k r.0) (live_is past k r.1), r.1)

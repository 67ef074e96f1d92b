-- The closes of a tick: those of the actors that are live are those of all that were ever opened.
use Rattle.std.proofs.Common.{◌≡◌, ◌≢◌, ◌⊎◌, ◌∙◌, inl, inr, ℕ, ◌+◌, ◌<◌, ◌==◌, List, [], ◌∷◌, Bool, true, false, cond, not, ◌&&◌, ◌||◌, nat_le, nat_lt, ap, sym, refl, subst, arith, Option, Some, None, is_some, find}
use Rattle.std.specs.List.{filter, filter_map, fold, slice_get, cons_option}
use Rattle.std.specs.Bool.{then_some}
use Rattle.std.proofs.lemmas.Bool.{cases_Bool, cases_eq, eqb-true, eq-eqb, ne_eqb, false≢true}
use Rattle.protocol_model.specs.Payload.{Message, Opens, Closes, Updates, Calls, Gone}
use Rattle.protocol_model.specs.Search.{is_among, newest_of}
use Rattle.protocol_model.specs.Sight.{Seen}
use Rattle.connection_model.specs.Feed.{Past, Deed, Ticked, Made, Waits, Sent, Took, Ended, sight_of, seen_in}
use Rattle.connection_model.specs.Bunches.{after_making, made_count, room}
use Rattle.connection_model.specs.State.{ActorState, Closed, Opening, Opened, Closing, Asleep, Mark, state_of, index_of, last_mark, is_open, is_opened, is_asleep, is_closed, was_opened, opened_actors, opened_in, open_class_in}
use Rattle.connection_model.specs.Settled.{is_settled_as}
use Rattle.connection_model.specs.Pack.{after_close, after_closes, idle_ticks, is_shown, made_if_room}
use Rattle.connection_laws.specs.Run.{Ascends}
use Rattle.connection_laws.proofs.ActorMarks.{mark_made, marks, state_same}
use Rattle.connection_laws.proofs.Holding.{among_ascending}
use Rattle.channel_laws.proofs.Orders.{Ascend, ascending}
use Rattle.sender_laws.proofs.Makes.{arrivals_under}
use Rattle.sender_steps.specs.declared.closing.Close.{Close}
use Rattle.sender_steps.specs.declared.closing.Close.TheVariants as close
use Rattle.sender_steps.specs.Closing.{close_called, after_called, is_destroyed}
use Rattle.sender_steps.proofs.Begun.{among_filtered, among_left}
use Rattle.sender_steps.proofs.Showing.{above_low}

-- ---- what is called for

pub called_is : (past : Past) (a : ℕ) → after_close past a ≡ after_called past a
    (close_called past a (seen_in (sight_of past) a))
called_is past a =
    by (is_open (state_of past a) && (is_destroyed (seen_in (sight_of past) a) || nat_le 5 (idle_ticks past a)))
    (is_shown (λ s. s.dormant && is_settled_as past s) (seen_in (sight_of past) a))
    (is_asleep (state_of past a) && is_destroyed (seen_in (sight_of past) a))
  where
    by : (b1 b2 b3 : Bool)
        → cond b1 (made_if_room past (index_of past a) (Closes a false))
        (cond b2 (made_if_room past (index_of past a) (Closes a true))
        (cond b3 (made_if_room past (Some 0) (Gone a)) past))
        ≡ after_called past a (cond b1 (Some close.Plain) (cond b2 (Some close.Dormant)
        (cond b3 (Some close.Gone) None)))
    by true b2 b3 = refl
    by false true b3 = refl
    by false false true = refl
    by false false false = refl

seen_here : (x : Seen) (sight : List Seen) (a : ℕ) → seen_in (x ∷ sight) a ≡ cond (x.actor == a) (Some x)
    (seen_in sight a)
seen_here x sight a = by (x.actor == a) refl
  where
    by : (t : Bool) → (x.actor == a) ≡ t → seen_in (x ∷ sight) a ≡ cond t (Some x) (seen_in sight a)
    by true e = rw e refl
    by false e = rw e refl

-- what a sight has of an actor is of this actor
pub seen_of : (sight : List Seen) (a : ℕ) (s : Seen) → seen_in sight a ≡ Some s → s.actor ≡ a
seen_of [] a s e = absurd (let no : (let o : Option Seen = None in o) ≡ Some s = e in cc)
seen_of (x ∷ sight) a s e = by (x.actor == a) refl (sym (seen_here x sight a) ∙ e) (seen_of sight a s)
  where
    by : (b : Bool) → (x.actor == a) ≡ b → cond b (Some x) (seen_in sight a) ≡ Some s
        → (seen_in sight a ≡ Some s → s.actor ≡ a) → s.actor ≡ a
    by true p q more = (let same : x ≡ s = cc in ap (λ (y : Seen). y.actor) (sym same) ∙ eqb-true x.actor a p)
    by false p q more = more q

closed_shut : (x : ActorState) → is_closed x ≡ true → (is_open x ≡ false) × (is_opened x ≡ false)
    × (is_asleep x ≡ false)
closed_shut Closed e = (refl, refl, refl)
closed_shut Opening e = absurd (false≢true e)
closed_shut Opened e = absurd (false≢true e)
closed_shut Closing e = absurd (false≢true e)
closed_shut Asleep e = absurd (false≢true e)

unpicked : (b1 x b2 b3 y : Bool) → b1 ≡ false → b2 ≡ false → b3 ≡ false
    → cond (b1 && x) (Some close.Plain) (cond b2 (Some close.Dormant) (cond (b3 && y) (Some close.Gone) None)) ≡ None
unpicked false x false false y e f g = refl
unpicked true x b2 b3 y e f g = absurd (false≢true (sym e))
unpicked false x true b3 y e f g = absurd (false≢true (sym f))
unpicked false x false true y e f g = absurd (false≢true (sym g))

unsettled : (past : Past) (a : ℕ) (o : Option Seen) → ((s : Seen) → o ≡ Some s → s.actor ≡ a)
    → is_opened (state_of past a) ≡ false
    → is_shown (λ s. s.dormant && is_settled_as past s) o ≡ false
unsettled past a None of e = refl
unsettled past a (Some s) of e = shut s.dormant (ap (λ (x : ℕ). is_opened (state_of past x)) (of s refl) ∙ e)
  where
    shut : (d : Bool) → is_opened (state_of past s.actor) ≡ false → (d && is_settled_as past s) ≡ false
    shut false f = refl
    shut true f = rw f refl

-- of a closed actor nothing is
pub nothing_called : (past : Past) (a : ℕ) → is_closed (state_of past a) ≡ true → after_close past a ≡ past
nothing_called past a e =
    let shut = closed_shut (state_of past a) e in
    called_is past a ∙ ap (after_called past a)
    (unpicked (is_open (state_of past a)) (is_destroyed (seen_in (sight_of past) a) || nat_le 5 (idle_ticks past a))
    (is_shown (λ s. s.dormant && is_settled_as past s) (seen_in (sight_of past) a)) (is_asleep (state_of past a))
    (is_destroyed (seen_in (sight_of past) a))
    shut.0 (unsettled past a (seen_in (sight_of past) a) (seen_of (sight_of past) a) shut.1) shut.2)

-- ---- the states of others

made_else : (past : Past) (ch : ℕ) (m : Message) (b : ℕ) → marks b m ≡ false
    → state_of (after_making past ch m) b ≡ state_of past b
made_else past ch m b unmarked = state_same past (after_making past ch m) (arrivals_under [] past ch m) b
    (mark_made past ch m b ∙ ap (λ (x : Bool). cond x (Some (record {
      channel = ch;
      number =
          made_count past ch + 1;
      message = m;
    })) (last_mark past b)) unmarked)

room_else : (past : Past) (o : Option ℕ) (m : Message) (b : ℕ) → marks b m ≡ false
    → state_of (made_if_room past o m) b ≡ state_of past b
room_else past None m b unmarked = refl
room_else past (Some ch) m b unmarked = by (nat_lt 0 (room past ch))
  where
    by : (t : Bool) → state_of (cond t (after_making past ch m) past) b ≡ state_of past b
    by true = made_else past ch m b unmarked
    by false = refl

called_else : (past : Past) (a : ℕ) (c : Option Close) (b : ℕ) → a ≢ b
    → state_of (after_called past a c) b ≡ state_of past b
called_else past a None b ne = refl
called_else past a (Some close.Plain) b ne = room_else past (index_of past a) (Closes a false) b
    (ap (λ (x : Bool). x && true) (ne_eqb a b ne))
called_else past a (Some close.Dormant) b ne = room_else past (index_of past a) (Closes a true) b
    (ap (λ (x : Bool). x && true) (ne_eqb a b ne))
called_else past a (Some close.Gone) b ne = room_else past (Some 0) (Gone a) b
    (ap (λ (x : Bool). x && true) (ne_eqb a b ne))

-- what was closed stays so
abbrev StayClosed : (past now : Past) → Type 0
StayClosed past now = (b : ℕ) → is_closed (state_of past b) ≡ true → is_closed (state_of now b) ≡ true

stay_closed : (past now : Past) (a : ℕ) → StayClosed past now → StayClosed past (after_close now a)
stay_closed past now a h b e = elim (cases_eq a b) [
  | inl same ↦ (
      let closed : is_closed (state_of now a) ≡ true = subst (λ (x : ℕ). is_closed (state_of now x) ≡ true) (sym same)
      (h b e) in
      ap (λ (p : Past). is_closed (state_of p b)) (nothing_called now a closed) ∙ h b e)
  | inr ne ↦ ap is_closed (ap (λ (p : Past). state_of p b) (called_is now a)
      ∙ called_else now a (close_called now a (seen_in (sight_of now) a)) b ne) ∙ h b e
]

-- ---- those that are live

abbrev is_live : Past → ℕ → Bool
is_live past a = not (is_closed (state_of past a))

fold_live : (past : Past) (xs : List ℕ) (now : Past) → StayClosed past now
    → fold after_close now xs ≡ fold after_close now (filter (is_live past) xs)
fold_live past [] now h = refl
fold_live past (a ∷ xs) now h = by (is_closed (state_of past a)) refl (fold_live past xs)
  where
    by : (b : Bool) → is_closed (state_of past a) ≡ b → ((p : Past) → StayClosed past p
        → fold after_close p xs ≡ fold after_close p (filter (is_live past) xs))
        → fold after_close (after_close now a) xs ≡ fold after_close now
        (cond (not b) (a ∷ filter (is_live past) xs) (filter (is_live past) xs))
    by true e more = ap (λ (p : Past). fold after_close p xs) (nothing_called now a (h a e)) ∙ more now h
    by false e more = more (after_close now a) (stay_closed past now a h)

-- ascending numbers by their members
among_split : (x : ℕ) (ns : List ℕ) (n : ℕ) → is_among n (x ∷ ns) ≡ true → (x ≡ n) ⊎ (is_among n ns ≡ true)
among_split x ns n e = by (x == n) refl e
  where
    by : (b : Bool) → (x == n) ≡ b → (b || is_among n ns) ≡ true → (x ≡ n) ⊎ (is_among n ns ≡ true)
    by true p q = inl (eqb-true x n p)
    by false p q = inr q

among_first : (x : ℕ) (ns : List ℕ) → is_among x (x ∷ ns) ≡ true
among_first x ns = ap (λ (b : Bool). b || is_among x ns) (eq-eqb x x refl)

among_later : (x : ℕ) (ns : List ℕ) (n : ℕ) → is_among n ns ≡ true → is_among n (x ∷ ns) ≡ true
among_later x ns n e = by (x == n)
  where
    by : (b : Bool) → (b || is_among n ns) ≡ true
    by true = refl
    by false = e

same_numbers : (us vs : List ℕ) → Ascend us → Ascend vs → ((n : ℕ) → is_among n us ≡ true → is_among n vs ≡ true)
    → ((n : ℕ) → is_among n vs ≡ true → is_among n us ≡ true) → us ≡ vs
same_numbers [] [] hu hv f g = refl
same_numbers [] (v ∷ vs) hu hv f g = absurd (false≢true (g v (among_first v vs)))
same_numbers (u ∷ us) [] hu hv f g = absurd (false≢true (f u (among_first u us)))
same_numbers (u ∷ us) (v ∷ vs) hu hv f g =
    ap (λ (ns : List ℕ). u ∷ ns) (same_numbers us vs hu.1 hv.1 forth back) ∙ ap (λ (n : ℕ). n ∷ vs) first
  where
    first : u ≡ v
    first = elim (among_split v vs u (f u (among_first u us))) [
      | inl e ↦ sym e
      | inr p ↦ elim (among_split u us v (g v (among_first v vs))) [
        | inl e ↦ e
        | inr q ↦
            absurd (omega (arith, hv.0 u p, hu.0 v q))
      ]
    ]

    forth : (n : ℕ) → is_among n us ≡ true → is_among n vs ≡ true
    forth n e = elim (among_split v vs n (f n (among_later u us n e))) [
      | inl q ↦
          absurd (omega (arith, q, first, hu.0 n e))
      | inr q ↦ q
    ]

    back : (n : ℕ) → is_among n vs ≡ true → is_among n us ≡ true
    back n e = elim (among_split u us n (g n (among_later v vs n e))) [
      | inl q ↦
          absurd (omega (arith, q, first, hv.0 n e))
      | inr q ↦ q
    ]

ascend_filtered : (p : ℕ → Bool) (ns : List ℕ) → Ascend ns → Ascend (filter p ns)
ascend_filtered p [] h = h
ascend_filtered p (n ∷ ns) h = by (p n) (ascend_filtered p ns h.1)
  where
    by : (b : Bool) → Ascend (filter p ns) → Ascend (cond b (n ∷ filter p ns) (filter p ns))
    by true more = (λ k e. h.0 k (among_left p ns k e), more)
    by false more = more

ascend_from : (ns : List ℕ) (low : ℕ) → Ascends low ns → Ascend ns
ascend_from [] low h = tt
ascend_from (n ∷ ns) low h = (λ k e. above_low ns n k h.1 e, ascend_from ns n h.1)

passes : (p : ℕ → Bool) (ns : List ℕ) (n : ℕ) → is_among n (filter p ns) ≡ true → p n ≡ true
passes p [] n e = absurd (false≢true e)
passes p (m ∷ ns) n e = by (p m) refl e (passes p ns n)
  where
    by : (b : Bool) → p m ≡ b → is_among n (cond b (m ∷ filter p ns) (filter p ns)) ≡ true
        → (is_among n (filter p ns) ≡ true → p n ≡ true) → p n ≡ true
    by true q e more = elim (among_split m (filter p ns) n e) [ inl s ↦ ap p (sym s) ∙ q | inr r ↦ more r ]
    by false q e more = more e

same_filtered : (p : ℕ → Bool) (us vs : List ℕ) → Ascend us → Ascend vs → ((n : ℕ) → p n ≡ true → is_among n us ≡ true)
    → ((n : ℕ) → p n ≡ true → is_among n vs ≡ true)
    → filter p us ≡ filter p vs
same_filtered p us vs hu hv f g =
    same_numbers (filter p us) (filter p vs) (ascend_filtered p us hu) (ascend_filtered p vs hv)
    (λ n e. among_filtered p vs n (g n (passes p us n e)) (passes p us n e))
    (λ n e. among_filtered p us n (f n (passes p vs n e)) (passes p vs n e))

-- who was opened is among those that were
pub opened_among : (past : Past) (a : ℕ) → was_opened past a ≡ true → is_among a (filter_map opened_in past) ≡ true
opened_among [] a e = absurd (false≢true e)
opened_among (Made ch n (Opens exports actor class values) i ∷ past) a e = by (actor == a) e (opened_among past a)
  where
    by : (b : Bool) → is_some (slice_get (cons_option (then_some b class) (filter_map (open_class_in a) past)) 0) ≡ true
        → (was_opened past a ≡ true → is_among a (filter_map opened_in past) ≡ true)
        → (b || is_among a (filter_map opened_in past)) ≡ true
    by true q more = refl
    by false q more = more q
opened_among (Made ch n (Closes actor sleeps) i ∷ past) a e = opened_among past a e
opened_among (Made ch n (Updates actor class values) i ∷ past) a e = opened_among past a e
opened_among (Made ch n (Calls actor number call args) i ∷ past) a e = opened_among past a e
opened_among (Made ch n (Gone actor) i ∷ past) a e = opened_among past a e
opened_among (Ticked t sight ∷ past) a e = opened_among past a e
opened_among (Waits m ∷ past) a e = opened_among past a e
opened_among (Sent n t items ∷ past) a e = opened_among past a e
opened_among (Took n es ds ∷ past) a e = opened_among past a e
opened_among (Ended g ∷ past) a e = opened_among past a e

-- the closes of the live ones are all
pub closes_live : (past : Past) (live : List ℕ) → Ascends 0 live
    → ((a : ℕ) → is_closed (state_of past a) ≡ false → is_among a live ≡ true)
    → ((a : ℕ) → is_among a live ≡ true → was_opened past a ≡ true) → fold after_close past live ≡ after_closes past
closes_live past live ascends all opened =
    fold_live past live past (λ b e. e)
    ∙ ap (fold after_close past) (same_filtered (is_live past) live (opened_actors past) (ascend_from live 0 ascends)
    (ascending (filter_map opened_in past))
    (λ a e. all a (unclosed a e)) (λ a e. among_ascending (filter_map opened_in past) a
    (opened_among past a (opened a (all a (unclosed a e))))))
    ∙ sym (fold_live past (opened_actors past) past (λ b e. e))
  where
    unclosed : (a : ℕ) → is_live past a ≡ true → is_closed (state_of past a) ≡ false
    unclosed a e = flip (is_closed (state_of past a)) e
      where
        flip : (b : Bool) → not b ≡ true → b ≡ false
        flip true q = absurd (false≢true q)
        flip false q = refl

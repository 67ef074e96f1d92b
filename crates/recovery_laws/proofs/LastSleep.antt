-- The dormant close of an actor that sleeps, and what was carried before it.
use Rattle.std.proofs.Common.{◌≡◌, inl, inr, ℕ, zero, suc, ◌-◌, List, [], ◌∷◌, ◌++◌, Bool, true, false, cond, ◌==◌, ◌&&◌, refl, sym, ap, ◌∙◌, subst, Option, Some, None, ℤ}
use Rattle.std.specs.Prelude.{unwrap_or}
use Rattle.std.specs.List.{filter_map, cons_option, slice_get, AllByRecursion}
use Rattle.std.specs.Bool.{then_some}
use Rattle.std.proofs.lemmas.Bool.{false≢true, eq-eqb, eqb-true, and_parts}
use Rattle.protocol_model.specs.Value.{Segment, Class, Pair, value_among}
use Rattle.protocol_model.specs.Payload.{Message, Opens, Closes, Updates, Calls, Gone, actor_of, parts_of}
use Rattle.protocol_model.specs.Search.{newest_of, items_since, or_else, is_among}
use Rattle.connection_model.specs.Feed.{End, Past, Deed, Ticked, Made, Waits, Sent, Took, Ended, Item, Entry}
use Rattle.connection_model.specs.Fates.{moved_of, moved_by, named_by, number_above, entries_of}
use Rattle.protocol_model.specs.Search.{greatest_of}
use Rattle.connection_model.specs.Bunches.{have_arrived}
use Rattle.connection_model.specs.State.{Opened, Opening, Mark, is_mark, mark_in, last_mark, state_of, state_at, state_after, closed_as, is_opened, is_asleep}
use Rattle.connection_model.specs.Carry.{Carry, carry_in, value_in_update, is_open_of, open_values_in, open_values, update_carry, carry_of}
use Rattle.connection_laws.specs.Run.{MaySend}
use Rattle.connection_laws.specs.Deeds.{DeedsFit}
use Rattle.connection_laws.proofs.Searches.{newest_miss, among_right}
use Rattle.recovery_laws.proofs.FoundOpens.{begins_open}
use Rattle.recovery_laws.proofs.NewestPayloads.{newest_miss_all}
use Rattle.recovery_laws.proofs.CarriedValues.{update_opened}
use Rattle.connection_laws.proofs.PacketsSay.{IsIn, all_at}

-- ---- the last mark is a dormant close

-- the actor's last mark is a dormant close, and here
pub record SleepLast (whole past : Past) (a : ℕ) : Type 0 where
  pub channel : ℕ
  pub number : ℕ
  pub newer : Past
  pub older : Past
  pub split : past ≡ newer ++ Made channel number (Closes a true) 0 ∷ older
  pub last : last_mark past a ≡ Some (record { channel = channel; number = number; message = Closes a true })
  pub unmarked : AllByRecursion (λ (d : Deed). mark_in a d ≡ None) newer
  pub arrived : have_arrived whole channel 1 number ≡ true

-- the last sleep stays so over a deed without a mark
sleep_behind : (whole past : Past) (a : ℕ) (deed : Deed) → mark_in a deed ≡ None → SleepLast whole past a → SleepLast whole (deed ∷ past) a
sleep_behind whole past a deed m o = record {
  channel = o.channel;
  number = o.number;
  newer = deed ∷ o.newer;
  older = o.older;
  split = ap (λ (l : Past). deed ∷ l) o.split;
  last = ap (λ (x : Option Mark). slice_get (cons_option x (filter_map (mark_in a) past)) 0) m ∙ o.last;
  unmarked = (m, o.unmarked);
  arrived = o.arrived;
}

-- where an actor sleeps, it is so
pub sleep_last : (whole past : Past) (a : ℕ) → is_asleep (state_at whole (last_mark past a)) ≡ true → SleepLast whole past a
sleep_last whole [] a h = absurd (false≢true h)
sleep_last whole (Ticked t s ∷ past) a h = sleep_behind whole past a (Ticked t s) refl (sleep_last whole past a h)
sleep_last whole (Waits m ∷ past) a h = sleep_behind whole past a (Waits m) refl (sleep_last whole past a h)
sleep_last whole (Sent n t items ∷ past) a h = sleep_behind whole past a (Sent n t items) refl (sleep_last whole past a h)
sleep_last whole (Took n es ds ∷ past) a h = sleep_behind whole past a (Took n es ds) refl (sleep_last whole past a h)
sleep_last whole (Ended g ∷ past) a h = sleep_behind whole past a (Ended g) refl (sleep_last whole past a h)
sleep_last whole (Made c n m i ∷ past) a h = by ((actor_of m == a) && is_mark m && (i == 0)) refl h (λ q. sleep_last whole past a q)
  where
    slept : (t s : Bool) → is_asleep (closed_as t s) ≡ true → (t ≡ true) × (s ≡ true)
    slept true true e = (refl, refl)
    slept true false e = absurd (false≢true e)
    slept false s e = absurd (false≢true e)

    awake : (t : Bool) → is_asleep (cond t Opened Opening) ≡ false
    awake true = refl
    awake false = refl

    here : (m : Message) → ((actor_of m == a) && is_mark m && (i == 0)) ≡ true → is_asleep (state_after whole (record { channel = c; number = n; message = m }) m) ≡ true → SleepLast whole (Made c n m i ∷ past) a
    here (Closes b s) t q =
        let p = and_parts ((b == a) && true) (i == 0) t in
        let actor : b ≡ a = eqb-true b a (and_parts (b == a) true p.0).0 in
        let part : i ≡ 0 = eqb-true i 0 p.1 in
        let done = slept (have_arrived whole c 1 n) s q in
        subst (λ (x : ℕ). SleepLast whole (Made c n (Closes b s) x ∷ past) a) (sym part)
        (subst (λ (x : ℕ). SleepLast whole (Made c n (Closes x s) 0 ∷ past) a) (sym actor)
        (subst (λ (x : Bool). SleepLast whole (Made c n (Closes a x) 0 ∷ past) a) (sym done.1)
        (record {
          channel = c;
          number = n;
          newer = [];
          older = past;
          split = refl;
          last = ap (λ (x : Bool). slice_get (cons_option (then_some ((x && true) && true) (let mark : Mark = record { channel = c; number = n; message = Closes a true } in mark)) (filter_map (mark_in a) past)) 0) (eq-eqb a a refl);
          unmarked = tt;
          arrived = done.0;
        })))
    here (Opens es b k vs) t q = absurd (false≢true (sym (awake (have_arrived whole c n (parts_of (Opens es b k vs)))) ∙ q))
    here (Updates b k vs) t q = absurd (false≢true q)
    here (Calls b x k vs) t q = absurd (false≢true q)
    here (Gone b) t q = absurd (false≢true q)

    by : (t : Bool) → ((actor_of m == a) && is_mark m && (i == 0)) ≡ t
        → is_asleep (state_at whole (slice_get (cons_option (then_some t (let mark : Mark = record { channel = c; number = n; message = m } in mark)) (filter_map (mark_in a) past)) 0)) ≡ true
        → (is_asleep (state_at whole (last_mark past a)) ≡ true → SleepLast whole past a) → SleepLast whole (Made c n m i ∷ past) a
    by false t q ih = sleep_behind whole past a (Made c n m i) (ap (λ (x : Bool). then_some x (let mark : Mark = record { channel = c; number = n; message = m } in mark)) t) (ih q)
    by true t q ih = here m t q

-- ---- an unmarked deed begins no open

-- a deed without a mark begins no open
unmarked_free : (a : ℕ) (deed : Deed) → mark_in a deed ≡ None → begins_open a deed ≡ false
unmarked_free a (Ticked t s) e = refl
unmarked_free a (Waits m) e = refl
unmarked_free a (Sent n t items) e = refl
unmarked_free a (Took n es ds) e = refl
unmarked_free a (Ended g) e = refl
unmarked_free a (Made c n (Closes b s) i) e = refl
unmarked_free a (Made c n (Updates b k vs) i) e = refl
unmarked_free a (Made c n (Calls b x k vs) i) e = refl
unmarked_free a (Made c n (Gone b) i) e = refl
unmarked_free a (Made c n (Opens es b k vs) i) e = by (b == a) (i == 0) e
  where
    by : (x y : Bool) → then_some ((x && true) && y) (let mark : Mark = record { channel = c; number = n; message = Opens es b k vs } in mark) ≡ None → (x && y) ≡ false
    by true true e = absurd (let never : Some (let mark : Mark = record { channel = c; number = n; message = Opens es b k vs } in mark) ≡ None = e in cc)
    by true false e = refl
    by false y e = refl

-- without marks of the actor there is no open of it
pub all_free : (a : ℕ) (past : Past) → AllByRecursion (λ (d : Deed). mark_in a d ≡ None) past → AllByRecursion (λ (d : Deed). begins_open a d ≡ false) past
all_free a [] h = tt
all_free a (d ∷ past) h = (unmarked_free a d h.0, all_free a past h.1)

-- ---- a carry stays while the actor isn't opened

-- nor does it carry an open's values
no_values : (a : ℕ) (deed : Deed) → is_open_of a deed ≡ false → open_values_in a deed ≡ None
no_values a (Ticked t s) e = refl
no_values a (Waits m) e = refl
no_values a (Sent n t items) e = refl
no_values a (Took n es ds) e = refl
no_values a (Ended g) e = refl
no_values a (Made c n (Closes b s) i) e = refl
no_values a (Made c n (Updates b k vs) i) e = refl
no_values a (Made c n (Calls b x k vs) i) e = refl
no_values a (Made c n (Gone b) i) e = refl
no_values a (Made c n (Opens es b k vs) i) e = ap (λ (t : Bool). then_some t vs) e

-- so each carry stays
carry_one : (a h : ℕ) (deed : Deed) (past : Past) → is_open_of a deed ≡ false → update_carry a h deed ≡ None → carry_of (deed ∷ past) a h ≡ carry_of past a h
carry_one a h deed past o u =
    ap (λ (l : Past). or_else (newest_of (update_carry a h) l) (carry_in None (value_among (open_values (deed ∷ past) a) h))) (ap (λ (t : Bool). cond t [] (deed ∷ items_since (is_open_of a) past)) o)
    ∙ ap (λ (x : Option Carry). or_else x (carry_in None (value_among (open_values (deed ∷ past) a) h))) (newest_miss (update_carry a h) deed (items_since (is_open_of a) past) u)
    ∙ ap (λ (vs : Option (List Pair)). or_else (newest_of (update_carry a h) (items_since (is_open_of a) past)) (carry_in None (value_among (unwrap_or vs []) h))) (newest_miss (open_values_in a) deed past (no_values a deed o))

-- a closing channel's state isn't opened
closed_state : (whole : Past) (t s : Bool) → is_opened (closed_as t s) ≡ false
closed_state whole false s = refl
closed_state whole true true = refl
closed_state whole true false = refl

module _ (end : End) (a ch n : ℕ) (older : Past) where
  -- no part of an open stands in front of the close
  not_part : (newer : Past) (c m : ℕ) (es : List Segment) (b : ℕ) (k : Class) (vs : List Pair) (j : ℕ) (before : Past) → newer ++ Made ch n (Closes a true) 0 ∷ older ≡ Made c m (Opens es b k vs) j ∷ before
      → b ≡ a → DeedsFit end (newer ++ Made ch n (Closes a true) 0 ∷ older) → AllByRecursion (λ (d : Deed). begins_open a d ≡ false) newer → ⊥
  not_part [] c m es b k vs j before e same fit none = cc
  not_part (Made d x (Opens fs g l ws) zero ∷ newer) c m es b k vs j before e same fit none =
      false≢true (sym none.0 ∙ ap (λ (t : Bool). t && true) (eq-eqb g a ((let q : g ≡ b = cc in q) ∙ same)))
  not_part (Made d x (Opens fs g l ws) (suc i) ∷ newer) c m es b k vs j before e same fit none =
      not_part newer d (x - 1) fs g l ws i fit.0.2.0 fit.0.2.1 ((let q : g ≡ b = cc in q) ∙ same) fit.1 none.1
  not_part (Made d x (Closes g s) i ∷ newer) c m es b k vs j before e same fit none = cc
  not_part (Made d x (Updates g l ws) i ∷ newer) c m es b k vs j before e same fit none = cc
  not_part (Made d x (Calls g y l ws) i ∷ newer) c m es b k vs j before e same fit none = cc
  not_part (Made d x (Gone g) i ∷ newer) c m es b k vs j before e same fit none = cc
  not_part (Ticked t s ∷ newer) c m es b k vs j before e same fit none = cc
  not_part (Waits x ∷ newer) c m es b k vs j before e same fit none = cc
  not_part (Sent x t items ∷ newer) c m es b k vs j before e same fit none = cc
  not_part (Took x xs ds ∷ newer) c m es b k vs j before e same fit none = cc
  not_part (Ended g ∷ newer) c m es b k vs j before e same fit none = cc

  not_open : (newer : Past) (deed : Deed) → DeedsFit end (deed ∷ newer ++ Made ch n (Closes a true) 0 ∷ older) → begins_open a deed ≡ false → AllByRecursion (λ (d : Deed). begins_open a d ≡ false) newer → is_open_of a deed ≡ false
  not_open newer (Ticked t s) fit free none = refl
  not_open newer (Waits m) fit free none = refl
  not_open newer (Sent x t items) fit free none = refl
  not_open newer (Took x es ds) fit free none = refl
  not_open newer (Ended g) fit free none = refl
  not_open newer (Made c x (Closes b s) i) fit free none = refl
  not_open newer (Made c x (Updates b k vs) i) fit free none = refl
  not_open newer (Made c x (Calls b y k vs) i) fit free none = refl
  not_open newer (Made c x (Gone b) i) fit free none = refl
  not_open newer (Made c x (Opens es b k vs) zero) fit free none = by (b == a) free
    where
      by : (t : Bool) → (t && true) ≡ false → t ≡ false
      by true e = absurd (false≢true (sym e))
      by false e = refl
  not_open newer (Made c x (Opens es b k vs) (suc i)) fit free none = by (b == a) refl
    where
      by : (t : Bool) → (b == a) ≡ t → t ≡ false
      by false e = refl
      by true e = absurd (not_part newer c (x - 1) es b k vs i fit.0.2.0 fit.0.2.1 (eqb-true b a e) fit.1 none)

  -- the last mark is the close
  mark_is : (newer : Past) → AllByRecursion (λ (d : Deed). mark_in a d ≡ None) newer → last_mark (newer ++ Made ch n (Closes a true) 0 ∷ older) a ≡ Some (record { channel = ch; number = n; message = Closes a true })
  mark_is newer none =
      newest_miss_all (mark_in a) newer (Made ch n (Closes a true) 0 ∷ older) none
      ∙ ap (λ (x : Bool). slice_get (cons_option (then_some ((x && true) && true) (let mark : Mark = record { channel = ch; number = n; message = Closes a true } in mark)) (filter_map (mark_in a) older)) 0) (eq-eqb a a refl)

  no_update : (h : ℕ) (newer : Past) → AllByRecursion (λ (d : Deed). mark_in a d ≡ None) newer → (deed : Deed) → DeedsFit end (deed ∷ newer ++ Made ch n (Closes a true) 0 ∷ older) → update_carry a h deed ≡ None
  no_update h newer none (Ticked t s) fit = refl
  no_update h newer none (Waits m) fit = refl
  no_update h newer none (Made c x m i) fit = refl
  no_update h newer none (Took x es ds) fit = refl
  no_update h newer none (Ended g) fit = refl
  no_update h newer none (Sent x t items) fit = ap (λ (o : Option ℤ). carry_in (Some x) o) (nothing items (λ item among. all_at (MaySend end (newer ++ Made ch n (Closes a true) 0 ∷ older)) item items fit.0.2.each among))
    where
      whole : Past
      whole = newer ++ Made ch n (Closes a true) 0 ∷ older

      shut : is_opened (state_of (newer ++ Made ch n (Closes a true) 0 ∷ older) a) ≡ false
      shut = ap (λ (o : Option Mark). is_opened (state_at (newer ++ Made ch n (Closes a true) 0 ∷ older) o)) (mark_is newer none) ∙ closed_state older (have_arrived (newer ++ Made ch n (Closes a true) 0 ∷ older) ch 1 n) true

      one : (item : Item) → MaySend end (newer ++ Made ch n (Closes a true) 0 ∷ older) item → value_in_update a h item ≡ None
      one item may = by (value_in_update a h item) refl
        where
          by : (o : Option ℤ) → value_in_update a h item ≡ o → o ≡ None
          by None e = refl
          by (Some v) e = absurd (false≢true (sym shut ∙ update_opened end (newer ++ Made ch n (Closes a true) 0 ∷ older) a h item v e may))

      nothing : (items : List Item) → ((item : Item) → IsIn item items → MaySend end (newer ++ Made ch n (Closes a true) 0 ∷ older) item) → newest_of (value_in_update a h) items ≡ None
      nothing [] may = refl
      nothing (item ∷ items) may = newest_miss (value_in_update a h) item items (one item (may item (inl refl))) ∙ nothing items (λ i q. may i (inr q))

  pub carry_stays : (h : ℕ) (newer : Past) → DeedsFit end (newer ++ Made ch n (Closes a true) 0 ∷ older) → AllByRecursion (λ (d : Deed). mark_in a d ≡ None) newer → carry_of (newer ++ Made ch n (Closes a true) 0 ∷ older) a h ≡ carry_of older a h
  carry_stays h [] fit none = carry_one a h (Made ch n (Closes a true) 0) older refl refl
  carry_stays h (deed ∷ newer) fit none =
      carry_one a h deed (newer ++ Made ch n (Closes a true) 0 ∷ older) (not_open newer deed fit (unmarked_free a deed none.0) (all_free a newer none.1)) (no_update h newer none.1 deed fit)
      ∙ carry_stays h newer fit.1 none.1

-- ---- what moved has moved

-- what arrived stays among what arrived
moved_after : (es more : List Entry) (k : ℕ) → is_among k (moved_by more) ≡ true → is_among k (moved_by (es ++ more)) ≡ true
moved_after [] more k h = h
moved_after (e ∷ es) more k h =
    among_right (filter_map (number_above (greatest_of (moved_by (es ++ more)))) (named_by e (greatest_of (moved_by (es ++ more))))) (moved_by (es ++ more)) k (moved_after es more k h)

-- a packet that arrived stays arrived
pub moved_stays : (newer past : Past) (k : ℕ) → is_among k (moved_of past) ≡ true → is_among k (moved_of (newer ++ past)) ≡ true
moved_stays [] past k h = h
moved_stays (Ticked t s ∷ newer) past k h = moved_stays newer past k h
moved_stays (Made c n m i ∷ newer) past k h = moved_stays newer past k h
moved_stays (Waits m ∷ newer) past k h = moved_stays newer past k h
moved_stays (Sent n t items ∷ newer) past k h = moved_stays newer past k h
moved_stays (Ended g ∷ newer) past k h = moved_stays newer past k h
moved_stays (Took n es ds ∷ newer) past k h = moved_after es (entries_of (newer ++ past)) k (moved_stays newer past k h)

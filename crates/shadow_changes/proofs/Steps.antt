-- How change lists go along with the samples.
use Rattle.std.proofs.Common.{◌≡◌, ℕ, zero, suc, ◌<◌, ◌≤◌, List, [], ◌∷◌, ◌++◌, Bool, true, false, not, ◌&&◌, ◌==◌, nat_lt, if◌then◌else◌, Option, Some, None, refl, sym, ap, ◌∙◌, subst, arith, map, drop, filter, length, ℤ, pos}
use Rattle.std.specs.Prelude.{slice_get, filter_map, option_map, unwrap_or}
use Rattle.std.specs.Bool.{then_some}
use Rattle.std.specs.List.{range_with_len}
use Rattle.std.specs.Ordering.{int_eq}
use Rattle.std.proofs.lemmas.Option.{slice_get-map}
use Rattle.std.proofs.lemmas.List.{length-map, append-nil, drop_all}
use Rattle.std.proofs.lemmas.Bool.{and_parts, ltb-true, ltb-false, eqb-true}
use Rattle.std.proofs.lemmas.Bool.Decides.{nat_tests}
use Rattle.protocol_model.specs.Search.{or_else}
use Rattle.change_model.specs.Changes.{Sample, is_noted, noted_tick, sampled_value, handle_of, value_count, change_of, changes_since}
use Rattle.value_codec.specs.Values.{whole_of}
use Rattle.value_codec.specs.declared.value.Value.{Value}
use Rattle.shadow_changes.specs.declared.change.Change.{Change as ChangeValue}
use Rattle.shadow_changes.specs.declared.noted.Noted.{Noted}
use Rattle.shadow_changes.specs.Lists.{Lists, KeepsLists, AreRising, AreFalling, AreListed, newest_values, last_tick, newest_noted, newest_in, tick_of, above, is_other, is_changed_from, is_changed, changed_at}
use Rattle.shadow_changes.specs.Samples.{change_value, may_follow, is_after, have_count, sample_of}
use Rattle.shadow_changes.proofs.Ranges.{map_filter_map, tick_listed, noted_at, listed_all, IsAtMost}
use Rattle.shadow_changes.proofs.Ascending.{is_later, listed_later, tick_later, listed_is}
use Rattle.shadow_changes.proofs.Falling.{above_low, falling_more}

-- ---- what was noted above a tick

last_low : (samples : List Sample) (tick i : ℕ) → AreRising samples → last_tick samples ≤ tick
    → above tick (newest_noted samples i) ≡ None
last_low [] tick i rising low = refl
last_low (s ∷ samples) tick i rising low =
    let before : last_tick samples ≤ tick = omega (arith, rising.0) in
    by (is_noted s samples i) (last_low samples tick i rising.1 before)
  where
    by : (b : Bool) → above tick (newest_noted samples i) ≡ None
        → above tick (if b then Some s.tick else newest_noted samples i) ≡ None
    by true e = above_low tick s.tick low
    by false e = e

noted_step : (b d : Bool) (t : ℕ) (a : Option ℕ) → (d ≡ false → a ≡ None)
    → or_else (then_some (d && b) t) a ≡ (if b then then_some d t else a)
noted_step true true t a e = refl
noted_step true false t a e = e refl
noted_step false true t a e = refl
noted_step false false t a e = refl

above_if : (b : Bool) (tick t : ℕ) (o : Option ℕ)
    → above tick (if b then Some t else o) ≡ (if b then then_some (nat_lt tick t) t else above tick o)
above_if true tick t o = refl
above_if false tick t o = refl

-- the newest tick is the one above another, where it is above
noted_above : (samples : List Sample) (tick i : ℕ) → AreRising samples
    → noted_tick samples tick i ≡ above tick (newest_noted samples i)
noted_above [] tick i rising = refl
noted_above (s ∷ samples) tick i rising =
    ap (or_else (then_some (nat_lt tick s.tick && is_noted s samples i) s.tick)) (noted_above samples tick i rising.1)
    ∙ noted_step (is_noted s samples i) (nat_lt tick s.tick) s.tick (above tick (newest_noted samples i))
    (λ e. let under : s.tick ≤ tick = ltb-false tick s.tick e in last_low samples tick i rising.1 (omega
    (arith, rising.0)))
    ∙ sym (above_if (is_noted s samples i) tick s.tick (newest_noted samples i))

-- ---- answers

count_of : (last : List ℤ) (samples : List Sample) → last ≡ newest_values samples → value_count samples ≡ length last
count_of last [] e = sym (ap length e)
count_of last (s ∷ samples) e = sym (ap length e)

mapped_twice : (i : ℕ) (o : Option ℕ)
    → option_map change_value (option_map (noted_at i) o) ≡ option_map (λ
    (noted : ℕ). record { handle = handle_of i; tick = noted }) o
mapped_twice i None = refl
mapped_twice i (Some t) = refl

-- a list that ascends is what changed, where it tells the newest ticks above the one asked for
pub answered : (l : Lists) (samples : List Sample) (changes : List ChangeValue) (tick : ℕ) → KeepsLists l samples
    → AreListed (length l.last) (last_tick samples) 0 changes
    → ((h : ℕ) → above tick (tick_of changes h) ≡ above tick (newest_in l.lists h))
    → map change_value (filter (is_later tick) changes) ≡ changes_since samples tick
answered l samples changes tick h listed same =
    let g : ℕ → Option ℕ = λ i. noted_tick samples tick i in
    let later = filter (is_later tick) changes in
    let few = listed_later changes (length l.last) (last_tick samples) 0 tick listed in
    let is = listed_is later g (length l.last) (last_tick samples) (length l.last) 0 (omega arith) (first later few)
    (λ i low high.
    tick_later changes (length l.last) (last_tick samples) 0 tick (handle_of i) listed
    ∙ same (handle_of i) ∙ ap (above tick) (h.noted i (omega (arith, high)))
    ∙ sym (noted_above samples tick i h.rising)) in
    ap (map change_value) is
    ∙ map_filter_map change_value (λ i. option_map (noted_at i) (g i)) (change_of samples tick) 0 (length l.last)
    (λ i low high. mapped_twice i (g i))
    ∙ ap (λ (n : ℕ). filter_map (change_of samples tick) (range_with_len 0 n)) (sym (count_of l.last samples h.last))
  where
    first : (xs : List ChangeValue) → AreListed (length l.last) (last_tick samples) 0 xs
        → AreListed (length l.last) (last_tick samples) 1 xs
    first [] few = tt
    first (c ∷ xs) few =
        let up : 1 ≤ handle_of few.2.0 = grind (arith, nat_tests) in
        (subst (λ (k : ℕ). 1 ≤ k) (sym few.2.2) up, few.1, few.2, few.3)

-- ---- one more sample

of_map : (xs : List Value) (i : ℕ) (v : Value) → slice_get xs i ≡ Some v
    → slice_get (map whole_of xs) i ≡ Some (whole_of v)
of_map xs i v e = slice_get-map whole_of xs i ∙ ap (option_map whole_of) e

within : {X : Type 0} (xs : List X) (i : ℕ) → i < length xs → (v : X) × (slice_get xs i ≡ Some v)
within [] i h = absurd (omega arith)
within (x ∷ xs) zero h = (x, refl)
within (x ∷ xs) (suc i) h = within xs i (omega arith)

pub changed_is : (last : List ℤ) (values : List Value) (i : ℕ) (v : Value) (o : Option ℤ)
    → slice_get values i ≡ Some v → slice_get last i ≡ o
    → is_changed last values i ≡ is_other (whole_of v) o
changed_is last values i v o e f = ap (λ (x : Option Value). is_changed_from x (slice_get last i)) e
    ∙ ap (is_other (whole_of v)) f

-- what is changed is what is noted
noted_is : (last : List ℤ) (values : List Value) (samples : List Sample) (tick i : ℕ) → last ≡ newest_values samples
    → have_count samples (length values) ≡ true → i < length values
    → is_noted (sample_of tick values) samples i ≡ is_changed last values i
noted_is last values [] tick i e count high =
    let v = within values i high in
    sym (changed_is last values i v.0 None v.1 (ap (λ (zs : List ℤ). slice_get zs i) e))
noted_is last values (s ∷ samples) tick i e count high =
    let v = within values i high in
    let len : length s.values ≡ length values = eqb-true (length s.values) (length values) count in
    let w = within s.values i (omega (arith, len)) in
    let now : sampled_value (sample_of tick values) i ≡ whole_of v.0 = ap (λ (o : Option ℤ). unwrap_or o (pos 0))
    (of_map values i v.0 v.1) in
    let before : sampled_value s i ≡ w.0 = ap (λ (o : Option ℤ). unwrap_or o (pos 0)) w.1 in
    ap (λ (z : ℤ). not (int_eq z (sampled_value s i))) now ∙ ap (λ (z : ℤ). not (int_eq (whole_of v.0) z)) before
    ∙ sym (changed_is last values i v.0 (Some w.0) v.1 (ap (λ (zs : List ℤ). slice_get zs i) e ∙ w.1))

after_last : (samples : List Sample) (tick : ℕ) → is_after samples tick ≡ true → last_tick samples ≤ tick
after_last [] tick e = omega arith
after_last (s ∷ samples) tick e = let less = ltb-true s.tick tick e in omega arith

noted_now : (b : Bool) (t : ℕ) (a : Option ℕ) → or_else (then_some b t) a ≡ (if b then Some t else a)
noted_now true t a = refl
noted_now false t a = refl

noted_next : (l : Lists) (samples : List Sample) (tick : ℕ) (values : List Value) (i : ℕ) → KeepsLists l samples
    → have_count samples (length values) ≡ true → i < length values
    → or_else (then_some (is_changed l.last values i) tick) (newest_in l.lists (handle_of i)) ≡ newest_noted
    (sample_of tick values ∷ samples) i
noted_next l [] tick values i h count high =
    ap (λ (b : Bool). or_else (then_some b tick) (newest_in l.lists (handle_of i))) (sym
    (noted_is l.last values [] tick i h.last count high))
noted_next l (s ∷ samples) tick values i h count high =
    let len : length s.values ≡ length values = eqb-true (length s.values) (length values) count in
    let lens : length l.last ≡ length s.values = ap length h.last in
    ap (λ (b : Bool). or_else (then_some b tick) (newest_in l.lists (handle_of i))) (sym (noted_is l.last values
    (s ∷ samples) tick i h.last count high))
    ∙ ap (or_else (then_some (is_noted (sample_of tick values) (s ∷ samples) i) tick)) (h.noted i (omega
    (arith, len, lens)))
    ∙ noted_now (is_noted (sample_of tick values) (s ∷ samples) i) tick (newest_noted (s ∷ samples) i)

-- there were no more values before
fewer : (l : Lists) (samples : List Sample) (count : ℕ) → KeepsLists l samples → have_count samples count ≡ true
    → length l.last ≤ count
fewer l [] count h e = let none : length l.last ≡ 0 = ap length h.last in omega (arith, none)
fewer l (s ∷ samples) count h e =
    let same : length l.last ≡ length s.values = ap length h.last in
    let len : length s.values ≡ count = eqb-true (length s.values) count e in omega (arith, same, len)

-- what is known once a sample may follow
record Follows (l : Lists) (samples : List Sample) (tick count : ℕ) : Type 0 where
  low : last_tick samples ≤ tick
  counted : have_count samples count ≡ true
  few : length l.last ≤ count

follows_by : (l : Lists) (samples : List Sample) (tick count : ℕ) → KeepsLists l samples
    → may_follow samples tick count ≡ true
    → Follows l samples tick count
follows_by l samples tick count h e =
    let both = and_parts (is_after samples tick) (have_count samples count) e in
    record { low = after_last samples tick both.0; counted = both.1; few = fewer l samples count h both.1 }

-- the lists after a sample, where they tell its changes and else what they told
sampled : (l : Lists) (samples : List Sample) (tick : ℕ) (values : List Value) (last : List ℤ)
    (lists : List Noted) → KeepsLists l samples
    → Follows l samples tick (length values) → last ≡ map whole_of values
    → ((i : ℕ) → newest_in lists (handle_of i)
    ≡ or_else (tick_of (filter_map (changed_at l.last values tick) (range_with_len 0 (length values)))
    (handle_of i)) (newest_in l.lists (handle_of i)))
    → AreFalling (length values) tick lists
    → KeepsLists (record { tick = Some tick; last = last; lists = lists }) (sample_of tick values ∷ samples)
sampled l samples tick values last lists h follows last_is noted falling =
    let len : length last ≡ length values = ap length last_is ∙ length-map values whole_of in
    record {
      tick = refl;
      last = last_is;
      noted = λ i high.
          noted i
          ∙ ap (λ (o : Option ℕ). or_else o (newest_in l.lists (handle_of i)))
          (tick_listed (λ (k : ℕ). then_some (is_changed l.last values k) tick) 0 (length values) i (omega arith)
          (omega (arith, len, high)))
          ∙ noted_next l samples tick values i h follows.counted (omega (arith, len, high));
      falling = subst (λ (n : ℕ). AreFalling n tick lists) (sym len) falling;
      rising = (follows.low, h.rising);
    }

low_tick : (tick : ℕ) (b : Bool) → IsAtMost tick (then_some b tick)
low_tick tick true = omega arith
low_tick tick false = tt

last_all : (l : Lists) (values : List Value) (last : List ℤ) → length l.last ≤ length values
    → last ≡ map whole_of values ++ drop (length values) l.last → last ≡ map whole_of values
last_all l values last few is =
    is ∙ ap (λ (zs : List ℤ). map whole_of values ++ zs) (drop_all (length values) l.last few)
    ∙ append-nil (map whole_of values)

-- a sample that changes something
pub sampled_new : (l : Lists) (samples : List Sample) (tick : ℕ) (values : List Value) (last : List ℤ)
    (changes : List ChangeValue) (room : List Noted)
    → KeepsLists l samples → may_follow samples tick (length values) ≡ true
    → changes ≡ filter_map (changed_at l.last values tick) (range_with_len 0 (length values))
    → last ≡ map whole_of values ++ drop (length values) l.last
    → ((count newest : ℕ) → AreFalling count newest l.lists → (h : ℕ) → newest_in room h ≡ newest_in l.lists h)
    → ((count newest : ℕ) → AreFalling count newest l.lists → AreFalling count newest room)
    → KeepsLists (record { tick = Some tick; last = last; lists = record { tick = tick; changes = changes } ∷ room }) (sample_of tick values ∷ samples)
sampled_new l samples tick values last changes room h may is last_is noted falling =
    let follows = follows_by l samples tick (length values) h may in
    let here : tick ≤ tick = omega arith in
    let falls = falling_more l.lists (length l.last) (length values)
    (last_tick samples) tick h.falling follows.few follows.low in
    let ascends : AreListed (length values) tick 0 (filter_map (changed_at l.last values tick) (range_with_len 0
    (length values))) =
    listed_all (λ (k : ℕ). then_some (is_changed l.last values k) tick) (length values) tick 0 (length values) 0
    (omega arith) (omega arith)
    (λ k. low_tick tick (is_changed l.last values k)) in
    sampled l samples tick values last (record { tick = tick; changes = changes } ∷ room) h follows
    (last_all l values last follows.few last_is)
    (λ i.
    ap (or_else (tick_of changes (handle_of i))) (noted (length values) tick falls (handle_of i))
    ∙ ap (λ (cs : List ChangeValue). or_else (tick_of cs (handle_of i)) (newest_in l.lists (handle_of i))) is)
    (here, subst (AreListed (length values) tick 0) (sym is) ascends, falling (length values) tick falls)

-- a sample that changes nothing
pub sampled_none : (l : Lists) (samples : List Sample) (tick : ℕ) (values : List Value) (last : List ℤ)
    → KeepsLists l samples → may_follow samples tick (length values) ≡ true
    → filter_map (changed_at l.last values tick) (range_with_len 0 (length values)) ≡ []
    → last ≡ map whole_of values ++ drop (length values) l.last
    → KeepsLists (record { tick = Some tick; last = last; lists = l.lists }) (sample_of tick values ∷ samples)
sampled_none l samples tick values last h may none last_is =
    let follows = follows_by l samples tick (length values) h may in
    sampled l samples tick values last l.lists h follows (last_all l values last follows.few last_is)
    (λ i. ap (λ (cs : List ChangeValue). or_else (tick_of cs (handle_of i)) (newest_in l.lists (handle_of i)))
    (sym none))
    (falling_more l.lists (length l.last) (length values) (last_tick samples) tick h.falling follows.few follows.low)

-- ---- the changes of a sample, one by one

pub changed_some : (last : List ℤ) (values : List Value) (tick i h : ℕ) → is_changed last values i ≡ true
    → h ≡ handle_of i
    → changed_at last values tick i ≡ Some (record { prop = h; tick = tick })
changed_some last values tick i h e f =
    let at : ℕ → Option ChangeValue = λ k. Some (record { prop = k; tick = tick }) in
    ap (λ (b : Bool). option_map (noted_at i) (then_some b tick)) e ∙ ap at (sym f)

pub changed_none : (last : List ℤ) (values : List Value) (tick i : ℕ) → is_changed last values i ≡ false
    → changed_at last values tick i ≡ None
changed_none last values tick i e = ap (λ (b : Bool). option_map (noted_at i) (then_some b tick)) e

pub empty_is : {X : Type 0} (xs : List X) → (length xs == 0) ≡ true → xs ≡ []
empty_is [] e = refl
empty_is (x ∷ xs) e = absurd (omega (arith, eqb-true (length (x ∷ xs)) 0 e))

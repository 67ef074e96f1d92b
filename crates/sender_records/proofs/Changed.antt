-- The changes that are named: a comparison that looks at them leaves nothing noted above its tick.
use Rattle.std.proofs.Common.{◌≡◌, ◌≢◌, inl, inr, ℕ, zero, suc, ◌+◌, ◌-◌, ◌<◌, ◌≤◌, max, List, [], ◌∷◌, map, Bool, true, false, cond, ◌==◌, ◌||◌, nat_lt, refl, sym, ap, ◌∙◌, subst, arith, Option, Some, None}
use Rattle.std.specs.Prelude.{option_map}
use Rattle.std.specs.List.{filter_map, cons_option, range_with_len, list_any}
use Rattle.std.proofs.lemmas.Bool.{cases_eq, false≢true, or_parts, eq-eqb, ltb-true, ltb-false}
use Rattle.std.proofs.lemmas.Bool.Decides.{nat_tests}
use Rattle.change_model.specs.Changes.{Sample, Change, noted_tick, change_of, changes_since, handle_of, value_count}
use Rattle.shadow_changes.specs.Samples.{change_value}
use Rattle.shadow_changes.specs.declared.change.Change.{Change as ChangeValue}
use Rattle.sender_laws.specs.Values.{place_of, value_by, value_now, tick_now, AreInTurn, IsCurrent}
use Rattle.sender_laws.proofs.Samples.{value_stays, noted_less, noted_last, noted_most}
use Rattle.sender_records.specs.Handles.{newest_change, names_change}

-- ---- as the definitions have them

-- the newest tick and the handles, of changes as the definitions have them
abbrev newest_in : ℕ → List Change → ℕ
newest_in before [] = before
newest_in before (c ∷ changes) = newest_in (max before c.tick) changes

abbrev names_in : List Change → ℕ → Bool
names_in changes h = list_any (λ (c : Change). c.handle == h) changes

same_newest : (before : ℕ) (changes : List ChangeValue)
    → newest_change before changes ≡ newest_in before (map change_value changes)
same_newest before [] = refl
same_newest before (c ∷ changes) = same_newest (max before c.tick) changes

same_names : (changes : List ChangeValue) (h : ℕ) → names_change changes h ≡ names_in (map change_value changes) h
same_names [] h = refl
same_names (c ∷ changes) h = ap (λ (b : Bool). (c.prop == h) || b) (same_names changes h)

newest_low : (before : ℕ) (changes : List Change) → before ≤ newest_in before changes
newest_low before [] = omega arith
newest_low before (c ∷ changes) = omega (arith, newest_low (max before c.tick) changes)

-- the tick of a change that is named isn't above the newest
newest_has : (samples : List Sample) (tick from count before i t : ℕ) → from ≤ i → i < from + count
    → noted_tick samples tick i ≡ Some t
    → t ≤ newest_in before (filter_map (change_of samples tick) (range_with_len from count))
newest_has samples tick from zero before i t lo hi e = absurd (omega arith)
newest_has samples tick from (suc count) before i t lo hi e = elim (cases_eq from i) [
  | inl q ↦ here (noted_tick samples tick from) (ap (noted_tick samples tick) q ∙ e)
  | inr q ↦ there (noted_tick samples tick from)
      (λ b. newest_has samples tick (from + 1) count b i t (omega arith) (omega arith) e)
]
  where
    rest : List Change
    rest = filter_map (change_of samples tick) (range_with_len (from + 1) count)

    here : (o : Option ℕ) → o ≡ Some t
        → t ≤ newest_in before (cons_option (option_map (λ (noted : ℕ). let c : Change =
        record { handle = handle_of from; tick = noted } in c) o)
        (filter_map (change_of samples tick) (range_with_len (from + 1) count)))
    here None e = absurd (let no : (let o : Option ℕ = None in o) ≡ Some t = e in cc)
    here (Some n) e =
        (let s : n ≡ t = cc in omega (
          arith,
          s,
          newest_low (max before n)
              (filter_map (change_of samples tick) (range_with_len (from + 1) count)),
        ))

    there : (o : Option ℕ)
        → ((b : ℕ) → t ≤ newest_in b (filter_map (change_of samples tick) (range_with_len (from + 1) count)))
        → t ≤ newest_in before (cons_option (option_map (λ (noted : ℕ). let c : Change =
        record { handle = handle_of from; tick = noted } in c) o)
        (filter_map (change_of samples tick) (range_with_len (from + 1) count)))
    there None ih = ih before
    there (Some n) ih = ih (max before n)

-- and the newest isn't above the newest sample
newest_most : (samples : List Sample) (tick from count before : ℕ) → AreInTurn samples → before ≤ tick_now samples
    → newest_in before (filter_map (change_of samples tick) (range_with_len from count)) ≤ tick_now samples
newest_most samples tick from zero before turn low = low
newest_most samples tick from (suc count) before turn low =
    by (noted_tick samples tick from) refl (λ b le. newest_most samples tick (from + 1) count b turn le)
  where
    by : (o : Option ℕ) → noted_tick samples tick from ≡ o
        → ((b : ℕ) → b ≤ tick_now samples → newest_in b (filter_map (change_of samples tick)
        (range_with_len (from + 1) count)) ≤ tick_now samples)
        → newest_in before (cons_option (option_map (λ (noted : ℕ). let c : Change =
        record { handle = handle_of from; tick = noted } in c) o)
        (filter_map (change_of samples tick) (range_with_len (from + 1) count))) ≤ tick_now samples
    by None e ih = ih before low
    by (Some n) e ih = ih (max before n) (omega (arith, low, noted_most samples tick from n turn e))

-- what isn't named isn't noted
unnamed : (samples : List Sample) (tick from count i : ℕ) → from ≤ i → i < from + count
    → names_in (filter_map (change_of samples tick) (range_with_len from count)) (handle_of i) ≡ false
    → noted_tick samples tick i ≡ None
unnamed samples tick from zero i lo hi e = absurd (omega arith)
unnamed samples tick from (suc count) i lo hi e = elim (cases_eq from i) [
  | inl q ↦ subst (λ (n : ℕ). noted_tick samples tick n ≡ None) q
      (here (noted_tick samples tick from) (ap (λ (n : ℕ). names_in
      (filter_map (change_of samples tick) (range_with_len from (suc count))) (handle_of n)) q ∙ e))
  | inr q ↦ there (noted_tick samples tick from) e
      (λ f. unnamed samples tick (from + 1) count i (omega arith) (omega arith) f)
]
  where
    here : (o : Option ℕ)
        → names_in (cons_option (option_map (λ (noted : ℕ). let c : Change =
        record { handle = handle_of from; tick = noted } in c) o)
        (filter_map (change_of samples tick) (range_with_len (from + 1) count))) (handle_of from) ≡ false
        → o ≡ None
    here None e = refl
    here (Some n) e =
        absurd (false≢true (sym e ∙ ap (λ (b : Bool). b || names_in
        (filter_map (change_of samples tick) (range_with_len (from + 1) count)) (handle_of from))
        (eq-eqb (handle_of from) (handle_of from) refl)))

    there : (o : Option ℕ)
        → names_in (cons_option (option_map (λ (noted : ℕ). let c : Change =
        record { handle = handle_of from; tick = noted } in c) o)
        (filter_map (change_of samples tick) (range_with_len (from + 1) count))) (handle_of i) ≡ false
        → (names_in (filter_map (change_of samples tick) (range_with_len (from + 1) count)) (handle_of i) ≡ false
        → noted_tick samples tick i ≡ None) → noted_tick samples tick i ≡ None
    there None e ih = ih e
    there (Some n) e ih =
        ih ((or_parts (handle_of from == handle_of i) (names_in
        (filter_map (change_of samples tick) (range_with_len (from + 1) count)) (handle_of i)) e).1)

-- ---- as they are given

-- the newest is no lower than the one before
pub newest_above : (before : ℕ) (changes : List ChangeValue) → before ≤ newest_change before changes
newest_above before changes = omega (arith, same_newest before changes, newest_low before (map change_value changes))

-- and no higher than the newest sample
pub newest_within : (samples : List Sample) (tick before : ℕ) (changes : List ChangeValue)
    → map change_value changes ≡ changes_since samples tick → AreInTurn samples → before ≤ tick_now samples
    → newest_change before changes ≤ tick_now samples
newest_within samples tick before changes is turn low =
    omega (
      arith,
      same_newest before changes ∙ ap (newest_in before) is,
      newest_most samples tick 0
          (value_count samples) before turn low,
    )

-- once they were looked at nothing is noted above the newest
pub current : (samples : List Sample) (tick : ℕ) (changes : List ChangeValue)
    → map change_value changes ≡ changes_since samples tick → AreInTurn samples
    → IsCurrent samples (newest_change tick changes)
current samples tick changes is turn i lt = by (noted_tick samples tick i) refl
  where
    newest : newest_change tick changes ≡ newest_in tick (changes_since samples tick)
    newest = same_newest tick changes ∙ ap (newest_in tick) is

    by : (o : Option ℕ) → noted_tick samples tick i ≡ o → noted_tick samples (newest_change tick changes) i ≡ None
    by None e = noted_less samples tick (newest_change tick changes) i (newest_above tick changes) e
    by (Some t) e =
        noted_last samples tick (newest_change tick changes) i t turn (newest_above tick changes) e
        (omega (
          arith,
          newest,
          newest_has samples tick 0 (value_count samples) tick i t (omega arith)
              (omega (arith, lt)) e,
        ))

handle_there : (h : ℕ) → 1 ≤ h → h ≢ 3 → handle_of (place_of h) ≡ h
handle_there h lo ne = by (nat_lt h 3) refl
  where
    small : (h : ℕ) → 1 ≤ h → h < 3 → nat_lt (h - 1) 2 ≡ true
    small h lo hi = grind (arith, nat_tests)

    large : (h : ℕ) → 3 ≤ h → h ≢ 3 → nat_lt (h - 2) 2 ≡ false
    large h lo ne = grind (arith, nat_tests)

    by : (b : Bool) → nat_lt h 3 ≡ b → handle_of (cond b (h - 1) (h - 2)) ≡ h
    by true e = ap (λ (b : Bool). cond b (h - 1 + 1) (h - 1 + 2)) (small h lo (ltb-true h 3 e)) ∙ omega arith
    by false e =
        (let hi : 3 ≤ h = ltb-false h 3 e in ap (λ (b : Bool). cond b (h - 2 + 1) (h - 2 + 2)) (large h hi ne)
        ∙ omega arith)

-- a value that isn't named is as it was compared
pub unnamed_stays : (samples : List Sample) (tick h : ℕ) (changes : List ChangeValue)
    → map change_value changes ≡ changes_since samples tick → 1 ≤ h → h ≢ 3
    → place_of h < value_count samples → names_change changes h ≡ false
    → value_now samples (place_of h) ≡ value_by samples tick (place_of h)
unnamed_stays samples tick h changes is lo ne lt e =
    value_stays samples tick (place_of h)
    (unnamed samples tick 0 (value_count samples) (place_of h) (omega arith) (omega (arith, lt))
    (ap (λ (n : ℕ). names_in (changes_since samples tick) n) (handle_there h lo ne)
    ∙ ap (λ (cs : List Change). names_in cs h) (sym is) ∙ sym (same_names changes h) ∙ e))
